-- The image of two polynomials at a point, over any field: it has the degree that it says, which is below 8 where both have no higher powers of x;
-- a good point has one and one alone; the order of the two does not matter; not both values are 0, and where one is, the image is the other made monic.
use Rattle.std.specs.Prelude.{◌≡◌, ◌⊎◌, ℕ, suc, ◌≤◌, ◌<◌}
use Rattle.std.proofs.Common.{ap, inl, inr, arith}
use Rattle.algebra.specs.Series.{Seq}
use Rattle.algebra.specs.SeriesRing.{SeriesR}
use Rattle.algebra.specs.Degree.{Top}
use Rattle.algebra.specs.Laws.Degree.{series_top}
use Rattle.algebra.specs.Laws.Divides.{quotient_top}
use Rattle.algebra.specs.Laws.GreatestCommon.{greatest_swap}
use Rattle.algebra.specs.Field.{Field}
use Rattle.algebra.specs.Polynomials.{domain}
use Rattle.algebra.specs.Univariate.{Poly, PolyD, over_lead}
use Rattle.algebra.specs.Laws.MonicGreatest.{monic_greatest}
use Rattle.algebra.specs.Laws.Univariate.{ends_fin, monic_top, over_lead_monic, over_lead_greatest, monic_greatest_unique}
use Rattle.poly.specs.Terms.{Polynomial}
use Rattle.poly.specs.PointValue.{Point, value, x_degree}
use Rattle.poly.specs.Divides.{DividesX}
use Rattle.poly.specs.PointImage.{LeadVanishes, Bad, Image}
use Rattle.poly.specs.Value.Laws.{value_finite, Bounded, value_ends}

-- one polynomial whose x-leading coefficient is not 0 at the point
module _ (K : Field) (f : Polynomial K) (at : Point K.ring) (keeps : ¬ LeadVanishes K f at) where
  open K use {ring as R}

  -- its value is not 0
  value_nonzero : ¬ (value R f at ≡ (SeriesR R).𝟘)
  value_nonzero z = keeps (ap (λ (u : Seq R). u (x_degree R f)) z)

  -- a divisor of it has a degree below 8, as f's powers of x are
  divisor_small : (e : ℕ) (U : Seq R) → Bounded K f → Top R e U → DividesX K U (value R f at) → e < 8
  divisor_small e U w top d =
      let v = value R f at in
      let above = series_top R (domain K) v (value_finite K f at) value_nonzero in
      let q = quotient_top R (domain K) above.0 U v (ends_fin K (suc e) U top.ends) d above.1 e top in
      let not_above : ¬ (8 ≤ above.0) = λ l. above.1.nonzero (value_ends K 7 f at w.by_seven above.0 l) in
      omega (arith, q.1)

  -- it keeps the degree of f
  keeps_top : Bounded K f → Top R (x_degree R f) (value R f at)
  keeps_top w = record { nonzero = keeps; ends = value_ends K (x_degree R f) f at w.by_first }

-- at a good point one of the two x-leading coefficients is not 0
pub good_keeps : (K : Field) (A B : Polynomial K) (at : Point K.ring) → ¬ Bad K A B at → (¬ LeadVanishes K A at) ⊎ (¬ LeadVanishes K B at)
good_keeps K A B at good = elim (K.decide (value K.ring A at (x_degree K.ring A))) [
  | no n ↦ inl n
  | yes a ↦ inr (λ b. good (a, b))
]

-- so the two values are not both 0
pub good_not_both_zero : (K : Field) (A B : Polynomial K) (at : Point K.ring) → ¬ Bad K A B at
    → ¬ ((value K.ring A at ≡ (SeriesR K.ring).𝟘) × (value K.ring B at ≡ (SeriesR K.ring).𝟘))
good_not_both_zero K A B at good zeros = elim (good_keeps K A B at good) [
  | inl a ↦ value_nonzero K A at a zeros.0
  | inr b ↦ value_nonzero K B at b zeros.1
]

-- the order of the two does not matter
pub bad_swap : (K : Field) (A B : Polynomial K) (at : Point K.ring) → Bad K A B at → Bad K B A at
bad_swap K A B at x = (x.1, x.0)

pub image_swap : (K : Field) (A B : Polynomial K) (at : Point K.ring) (e : ℕ) (U : Seq K.ring) → Image K A B at e U → Image K B A at e U
image_swap K A B at e U i = record {
  good = λ x. i.good (bad_swap K B A at x);
  monic = i.monic;
  greatest = greatest_swap (Poly K) (PolyD K) _ _ U i.greatest;
}

module _ (K : Field) (A B : Polynomial K) where
  open K use {ring as R}

  pub image_top : (at : Point R) (e : ℕ) (U : Seq R) → Image K A B at e U → Top R e U
  image_top at e U i = monic_top K e U i.monic

  -- an image divides a value that is not 0, so its degree is below 8, as that one's powers of x are
  pub image_small : (at : Point R) (e : ℕ) (U : Seq R) → Bounded K A → Bounded K B → Image K A B at e U → e < 8
  image_small at e U v w i = elim (good_keeps K A B at i.good) [
    | inl a ↦ divisor_small K A at a e U v (image_top at e U i) i.greatest.left
    | inr b ↦ divisor_small K B at b e U w (image_top at e U i) i.greatest.right
  ]

  -- a point has one image
  pub image_unique : (at : Point R) (e f : ℕ) (U W : Seq R) → Image K A B at e U → Image K A B at f W → (e ≡ f) × (U ≡ W)
  image_unique at e f U W i j = monic_greatest_unique K e f _ _ U W i.monic j.monic i.greatest j.greatest

  -- if B is 0 there, the image is A's value made monic
  pub image_of_zero : (at : Point R) (e : ℕ) (U : Seq R) → Bounded K A → Image K A B at e U → value R B at ≡ (SeriesR R).𝟘
      → (e ≡ x_degree R A) × (U ≡ over_lead K (x_degree R A) (value R A at))
  image_of_zero at e U w i z =
      let n = x_degree R A in
      let a = value R A at in
      let keeps : ¬ LeadVanishes K A at = λ x. i.good (x, ap (λ (u : Seq R). u (x_degree R B)) z) in
      let top = keeps_top K A at keeps w in
      monic_greatest_unique K e n a (value R B at) U (over_lead K n a) i.monic (over_lead_monic K n a top) i.greatest
      (over_lead_greatest K n a (value R B at) top z)

-- if A is 0 there, it is B's value made monic
pub image_of_zero_first : (K : Field) (A B : Polynomial K) (at : Point K.ring) (e : ℕ) (U : Seq K.ring)
    → Bounded K B → Image K A B at e U → value K.ring A at ≡ (SeriesR K.ring).𝟘
    → (e ≡ x_degree K.ring B) × (U ≡ over_lead K (x_degree K.ring B) (value K.ring B at))
image_of_zero_first K A B at e U w i z = image_of_zero K B A at e U w (image_swap K A B at e U i) z

-- every good point has an image: the value that is not 0 and the other one have a monic greatest common divisor
image_from_first : (K : Field) (A B : Polynomial K) (at : Point K.ring) → Bounded K A → Bounded K B → ¬ LeadVanishes K A at
    → (e : ℕ) × (U : Seq K.ring) × Image K A B at e U
image_from_first K A B at v w keeps =
    let u = monic_greatest K 8 (x_degree K.ring A) _ _ (keeps_top K A at keeps v) (value_ends K 7 B at w.by_seven) in
    (u.degree, u.gcd, record { good = λ x. keeps x.0; monic = u.monic; greatest = u.greatest })

pub good_has_image : (K : Field) (A B : Polynomial K) (at : Point K.ring) → Bounded K A → Bounded K B → ¬ Bad K A B at
    → (e : ℕ) × (U : Seq K.ring) × Image K A B at e U
good_has_image K A B at v w good = elim (good_keeps K A B at good) [
  | inl a ↦ image_from_first K A B at v w a
  | inr b ↦ let i = image_from_first K B A at w v b in (i.0, i.1, image_swap K B A at i.0 i.1 i.2)
]
