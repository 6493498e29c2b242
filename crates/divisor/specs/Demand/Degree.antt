-- Demand 3, first half, of the rule: an accepted G divides A and B, has the degree d in x, and no common divisor has a higher one.
use Rattle.std.specs.Prelude.{◌≡◌, List, [], ◌∷◌, ℕ, suc, ◌≤◌, ◌<◌}
use Rattle.std.proofs.Common.{sym, ◌∙◌, ap, subst, inl, inr, arith}
use Rattle.algebra.specs.Field.{Field}
use Rattle.algebra.specs.Series.{Seq}
use Rattle.algebra.specs.SeriesRing.{SeriesR, S4}
use Rattle.algebra.specs.Degree.{Top}
use Rattle.algebra.specs.Polynomials.{SeriesD, domain}
use Rattle.algebra.specs.Four.{Exponents}
use Rattle.algebra.specs.Monomial.{polynomial}
use Rattle.algebra.specs.Evaluate.{at_yzw}
use Rattle.algebra.specs.Laws.Ring.{one_mul}
use Rattle.algebra.specs.Laws.Degree.{finite_top}
use Rattle.algebra.specs.Laws.GoodValue.{divides_value, divisor_keeps_degree}
use Rattle.algebra.specs.Laws.Divides.{div_top, div_to, top_le}
use Rattle.algebra.specs.Laws.Evaluation.{value_null}
use Rattle.poly.specs.Terms.{Polynomial}
use Rattle.poly.specs.PointValue.{Point, value, x_degree}
use Rattle.poly.specs.Divides.{Divides, DividesX}
use Rattle.poly.specs.PointImage.{LeadVanishes, Bad, Image}
use Rattle.poly.specs.Image.Laws.{good_keeps, image_small}
use Rattle.poly.specs.Value.Laws.{polynomial_finite, valued, value_of_polynomial, Bounded, polynomial_ends}
use Rattle.divisor.specs.declared.CandidateRecord.{CandidateRecord}
use Rattle.divisor.specs.Answer.Determined.{tried_accepted}
use Rattle.divisor.specs.Rule.{DividesBoth, Kept, Sorted, done, bad, unlucky, keep, First, Equations, Unknowns, Solution, without_zeros}
use Rattle.divisor.specs.Rule.{divisor, unsolvable, several, divided, RuleAnswer, all_bad, some_good}
use Rattle.divisor.specs.Demands.{DegreeX, IsPolynomial, GreatestInX}
use Rattle.divisor.specs.Monic.Value.{value_without_zeros, without_zeros_nonzero, made_monic_nonzero}

module _ (K : Field) where
  open K use {ring as R}
  open R use {Car, 𝟘, 𝟙, mul as ◌*◌}

  infixl 70 ◌*◌
  -- where the x-leading coefficient of f is not 0, a divisor of f keeps its degree
  divisor_keeps : (f : Polynomial K) → Bounded K f → (at : Point R) → ¬ LeadVanishes K f at → (H : (S4 R).Car) (fin : IsPolynomial K H)
      → Divides K H (polynomial R f) → (h : ℕ) → DegreeX K h H → Top R h ((valued K at).fn H fin)
  divisor_keeps f bounded at keeps H fin d h top =
      divisor_keeps_degree (at_yzw R (domain K) at.y at.z at.w tt tt tt) (x_degree R f) h (polynomial R f) H (polynomial_finite K f) fin d
      (polynomial_ends K (x_degree R f) f bounded.by_first)
      (λ e. keeps (sym (ap (λ (u : Seq R). u (x_degree R f)) (value_of_polynomial K f at (polynomial_finite K f))) ∙ e))
      top

  module _ (A B : Polynomial K) (first : Bounded K A) (second : Bounded K B) where
    -- at a good point a common divisor keeps its degree: it divides the one whose x-leading coefficient is not 0
    pub divisor_at_good_point : (at : Point R) → ¬ Bad K A B at → (H : (S4 R).Car) (fin : IsPolynomial K H)
        → Divides K H (polynomial R A) → Divides K H (polynomial R B) → (h : ℕ) → DegreeX K h H → Top R h ((valued K at).fn H fin)
    divisor_at_good_point at good H fin dA dB h top = elim (good_keeps K A B at good) [
      | inl a ↦ divisor_keeps A first at a H fin dA h top
      | inr b ↦ divisor_keeps B second at b H fin dB h top
    ]

    -- the value of a common divisor divides the image
    pub value_divides_image : (at : Point R) (d : ℕ) (U : Seq R) → Image K A B at d U → (H : (S4 R).Car) (fin : IsPolynomial K H)
        → Divides K H (polynomial R A) → Divides K H (polynomial R B) → DividesX K ((valued K at).fn H fin) U
    value_divides_image at d U image H fin dA dB =
        image.greatest.most _ ((valued K at).keeps H fin) (of_value A dA) (of_value B dB)
      where
        of_value : (f : Polynomial K) → Divides K H (polynomial R f) → DividesX K ((valued K at).fn H fin) (value R f at)
        of_value f q =
            div_to (SeriesR R) (SeriesD R (domain K)) _ _ _ (value_of_polynomial K f at (polynomial_finite K f))
            (divides_value (valued K at) fin (polynomial_finite K f) q)

    -- no common divisor has a degree above an image's
    pub common_divisor_degree : (at : Point R) (d : ℕ) (U : Seq R) → Image K A B at d U
        → (H : (S4 R).Car) → IsPolynomial K H → Divides K H (polynomial R A) → Divides K H (polynomial R B)
        → (h : ℕ) → DegreeX K h H → h ≤ d
    common_divisor_degree at d U image H fin dA dB h top =
        let below = div_top R (domain K) d ((valued K at).fn H fin) U ((valued K at).keeps H fin) (value_divides_image at d U image H fin dA dB)
        (record { nonzero = λ e. K.one≢0 (sym image.monic.leads ∙ e); ends = image.monic.ends }) in
        let l : h ≤ below.0 = top_le R h below.0 ((valued K at).fn H fin) (divisor_at_good_point at image.good H fin dA dB h top) below.2 in
        let m : below.0 ≤ d = below.1 in
        omega arith

  -- the skeleton polynomial of a solution is the image at the first kept point
  pub solution_at_first : (monomials : List Exponents) (k : Kept K) (kept : List (Kept K)) (s : Unknowns K) → Solution K monomials (k ∷ kept) s
      → (i : ℕ) → i < 8 → value R s.skeleton k.point i ≡ k.image i
  solution_at_first monomials k kept s solution i l = go s.multipliers solution.one_first solution.holds
    where
      go : (ms : List Car) → First K 𝟙 ms → Equations K s.skeleton (k ∷ kept) ms → value R s.skeleton k.point i ≡ k.image i
      go [] one holds = absurd one
      go (m ∷ ms) one holds = holds.0 i l ∙ ap (◌* k.image i) one ∙ one_mul R _

  -- so G has a coefficient beside x^d
  divisor_at_first : (monomials : List Exponents) (k : Kept K) (kept : List (Kept K)) (s : Unknowns K) → Solution K monomials (k ∷ kept) s
      → (d : ℕ) → d < 8 → k.image d ≡ 𝟙 → ¬ (value R (divisor K s) k.point d ≡ 𝟘)
  divisor_at_first monomials k kept s solution d l one =
      made_monic_nonzero K (without_zeros K s.skeleton) k.point d (without_zeros_nonzero K s.skeleton)
      (λ e. K.one≢0 (sym (value_without_zeros K s.skeleton k.point d ∙ solution_at_first monomials k kept s solution d l ∙ one) ∙ e))

  -- the images at the kept points
  abbrev pub Images : (A B : Polynomial K) → ℕ → List (Kept K) → Type 0
  Images A B d [] = Unit {0}
  Images A B d (k ∷ ks) = Image K A B k.point d k.image × Images A B d ks

  pub kept_images : (A B : Polynomial K) (d : ℕ) (points : List (Point R)) (b u : ℕ) (ks : List (Kept K)) → Sorted K A B d points b u ks → Images A B d ks
  kept_images A B d points b u ks done = tt
  kept_images A B d points b u ks (bad x s) = kept_images A B d _ _ u ks s
  kept_images A B d points b u ks (unlucky e U i l s) = kept_images A B d _ b _ ks s
  kept_images A B d points b u ks (keep U i s) = (i, kept_images A B d _ b u _ s)

  -- G itself is a common divisor, so its degree is d
  accepted_degree : (A B : Polynomial K) (monomials : List Exponents) (points : List (Point R)) → Bounded K A → Bounded K B
      → (d b u : ℕ) (k : Kept K) (kept : List (Kept K)) → Sorted K A B d points b u (k ∷ kept)
      → (s : Unknowns K) → Solution K monomials (k ∷ kept) s → DividesBoth K A B (divisor K s) → GreatestInX K A B (divisor K s) d
  accepted_degree A B monomials points first second d b u k kept sorted s solution both =
      let S3 = SeriesR (SeriesR (SeriesR R)) in
      let G = polynomial R (divisor K s) in
      let fin = polynomial_finite K (divisor K s) in
      let image = (kept_images A B d points b u (k ∷ kept) sorted).0 in
      let greatest = common_divisor_degree A B first second k.point d k.image image in
      -- the coefficient beside x^d is not 0, since its value is not
      let beside : ¬ (G d ≡ S3.𝟘) = λ e.
      divisor_at_first monomials k kept s solution d (image_small K A B k.point d k.image first second image) image.monic.leads
      (sym (ap (λ (v : Seq R). v d) (value_of_polynomial K (divisor K s) k.point fin))
      ∙ value_null (at_yzw R (domain K) k.point.y k.point.z k.point.w tt tt tt) (fin.coef d) e) in
      record {
        divides = both;
        degree = elim (finite_top S3 (SeriesD _ (SeriesD _ (SeriesD R (domain K)))) G fin) [
          | inl z ↦ absurd (beside (z d))
          | inr t ↦
              let l : t.0 ≤ d = greatest G fin both.0 both.1 t.0 t.1 in
              let m : ¬ (suc t.0 ≤ d) = λ h. beside (t.1.ends d h) in
              let e : t.0 ≡ d = omega arith in
              subst (λ (n : ℕ). DegreeX K n G) e t.1
        ];
        greatest = greatest;
      }

  -- DEMAND 3, first half
  pub accepted_greatest : (A B : Polynomial K) (monomials : List Exponents) (points : List (Point R)) (ceiling : ℕ) → Bounded K A → Bounded K B
      → (r : CandidateRecord) (G : Polynomial K) → RuleAnswer K A B monomials points ceiling r G → r.fault.number ≡ 0 → GreatestInX K A B G r.degree
  accepted_greatest A B monomials points ceiling first second r G (all_bad all) e = absurd (omega arith)
  accepted_greatest A B monomials points ceiling first second r G (some_good d b u k kept sorted n H m (unsolvable z)) e =
      absurd (omega arith)
  accepted_greatest A B monomials points ceiling first second r G (some_good d b u k kept sorted n H m (several s)) e =
      absurd (omega arith)
  accepted_greatest A B monomials points ceiling first second r G (some_good d b u k kept sorted n H m (divided s only tried)) e =
      let t = tried_accepted K A B (divisor K s) ceiling n m H tried e in
      subst (λ (I : Polynomial K). GreatestInX K A B I d) (sym t.1) (accepted_degree A B monomials points first second d b u k kept sorted s only.0 t.0)
