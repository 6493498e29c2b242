-- Products G X c of polynomials with a number c, over any field: what they settle, and what is left of common divisors.
use Rattle.std.specs.Prelude.{◌≡◌, ℕ, ◌+◌ as ◌+ₙ◌, ◌≤◌}
use Rattle.std.proofs.Common.{sym, ◌∙◌, ap, ap₂, subst, add-zero, arith}
use Rattle.algebra.specs.Ring.{CommRing}
use Rattle.algebra.specs.Field.{Field}
use Rattle.algebra.specs.SeriesRing.{S3, S4}
use Rattle.algebra.specs.Domain.{Domain}
use Rattle.algebra.specs.Polynomials.{D3, D4, domain}
use Rattle.algebra.specs.Four.{Exponents, ◌⊞◌, coef}
use Rattle.algebra.specs.Monomial.{polynomial}
use Rattle.algebra.specs.Lead.{Upto, Lead}
use Rattle.algebra.specs.Laws.Ring.{zero_mul, mul_zero, one_mul}
use Rattle.algebra.specs.Laws.Solver.{◌⊗◌, ◌≗◌, ring4}
use Rattle.algebra.specs.Laws.Degree.{top_mul}
use Rattle.algebra.specs.Laws.Divides.{cancel}
use Rattle.algebra.specs.Laws.Four.{exponents_path}
use Rattle.algebra.specs.Laws.Lead.{lead_nonzero, lead_unique, coef_of_product, lead_of_product}
use Rattle.algebra.specs.Laws.Monomial.{monomial_at, monomial_above, monomial_zero, monomial_fin}
use Rattle.poly.specs.Terms.{Polynomial}
use Rattle.poly.specs.Divides.{Divides}
use Rattle.poly.specs.Value.Laws.{polynomial_finite}
use Rattle.divisor.specs.Demands.{DegreeX, IsPolynomial, GreatestInX, constant}
use Rattle.divisor.specs.Monic.Laws.{constant_one, monomial_times}

module _ (K : Field) where
  open K use {ring as R}
  open R use {Car, 𝟘, 𝟙, mul as ◌*◌}

  infixl 70 ◌*◌
  abbrev S : CommRing
  S = S4 R

  abbrev D : Domain S
  D = D4 R (domain K)

  -- G X c
  abbrev scaled : (S4 R).Car → (S4 R).Car → R.Car → (S4 R).Car
  scaled G X c = S.mul (S.mul G X) (constant K c)

  abbrev origin : Exponents
  origin = record { x = 0; y = 0; z = 0; w = 0 }

  beside : (m : Exponents) → m ⊞ origin ≡ m
  beside m = exponents_path (add-zero m.x) (add-zero m.y) (add-zero m.z) (add-zero m.w)

  constant_finite : (c : Car) → D.P (constant K c)
  constant_finite c = monomial_fin R (domain K) origin c tt

  constant_leads : (c : Car) → ¬ (c ≡ 𝟘) → Lead R origin (constant K c)
  constant_leads c n = record { stands = λ e. n (sym (monomial_at R origin c) ∙ e); above = λ e l. monomial_above R origin e c l }

  -- a polynomial times a number: the leading monomial stays, its coefficient is multiplied
  lead_times : (m : Exponents) (f : S.Car) (c : Car) → D.P f → Lead R m f → ¬ (c ≡ 𝟘) → Lead R m (S.mul f (constant K c))
  lead_times m f c fin s n =
      subst (λ (e : Exponents). Lead R e (S.mul f (constant K c))) (beside m)
      (lead_of_product R (domain K) m origin f (constant K c) fin (constant_finite c) s (constant_leads c n))

  coef_times : (m : Exponents) (f : S.Car) (c : Car) → Upto R m f → coef R (S.mul f (constant K c)) m ≡ coef R f m * c
  coef_times m f c h =
      ap (coef R (S.mul f (constant K c))) (sym (beside m))
      ∙ coef_of_product R m origin f (constant K c) h (λ e l. monomial_above R origin e c l) ∙ ap (coef R f m *◌) (monomial_at R origin c)

  -- a polynomial whose leading coefficient is a
  pub record LeadsBy (a : R.Car) (f : (S4 R).Car) : Type 0 where
    pub finite : IsPolynomial K f
    pub at : Exponents
    pub lead : Lead R at f
    pub is : coef R f at ≡ a

  -- a product that is not 0 has no factor 0
  module _ (G X F : (S4 R).Car) (c : R.Car) (product : scaled G X c ≡ F) (nonzero : ¬ (F ≡ (S4 R).𝟘)) where
    pub factor_nonzero : ¬ (c ≡ 𝟘)
    factor_nonzero e = nonzero (sym product ∙ ap (S.mul (S.mul G X)) (ap (constant K) e ∙ monomial_zero R origin) ∙ mul_zero S _)

    pub divisor_nonzero : ¬ (G ≡ S.𝟘)
    divisor_nonzero e = nonzero
        (sym product ∙ ap (λ (g : S.Car). S.mul (S.mul g X) (constant K c)) e
        ∙ ap (λ (f : S.Car). S.mul f (constant K c)) (zero_mul S X) ∙ zero_mul S _)

  -- G is cancelled
  uncover : (G : S.Car) → IsPolynomial K G → ¬ (G ≡ S.𝟘) → (X Y : S.Car) → IsPolynomial K X → IsPolynomial K Y → (c b : Car)
      → scaled G X c ≡ scaled G Y b → S.mul X (constant K c) ≡ S.mul Y (constant K b)
  uncover G fin n X Y finX finY c b e =
      cancel S D (S.mul X (constant K c)) (S.mul Y (constant K b)) G
      (D.P_mul _ _ finX (constant_finite c)) (D.P_mul _ _ finY (constant_finite b)) fin n
      (sym (S.mul_assoc _ _ _) ∙ e ∙ S.mul_assoc _ _ _)

  -- with G and c the product settles X
  pub cofactor_unique : (G : (S4 R).Car) → IsPolynomial K G → ¬ (G ≡ (S4 R).𝟘) → (c : R.Car) → ¬ (c ≡ R.𝟘)
      → (X Y : (S4 R).Car) → IsPolynomial K X → IsPolynomial K Y → scaled G X c ≡ scaled G Y c → X ≡ Y
  cofactor_unique G fin n c nc X Y finX finY e =
      cancel S D X Y (constant K c) finX finY (constant_finite c) (lead_nonzero R origin (constant K c) (constant_leads c nc))
      (S.mul_comm _ _ ∙ uncover G fin n X Y finX finY c c e ∙ S.mul_comm _ _)

  -- with G the product settles c, where X is monic
  pub factor_unique : (G : (S4 R).Car) → IsPolynomial K G → ¬ (G ≡ (S4 R).𝟘) → (c b : R.Car) → ¬ (c ≡ R.𝟘) → ¬ (b ≡ R.𝟘) → (X Y : (S4 R).Car)
      → LeadsBy R.𝟙 X → LeadsBy R.𝟙 Y → scaled G X c ≡ scaled G Y b → c ≡ b
  factor_unique G fin n c b nc nb X Y x y e =
      let same = uncover G fin n X Y x.finite y.finite c b e in
      let at = lead_unique R x.at y.at (S.mul Y (constant K b))
      (subst (Lead R x.at) same (lead_times x.at X c x.finite x.lead nc)) (lead_times y.at Y b y.finite y.lead nb) in
      sym (one_mul R c) ∙ ap (◌* c) (sym x.is) ∙ sym (coef_times x.at X c x.lead.above)
      ∙ ap₂ (coef R) same at ∙ coef_times y.at Y b y.lead.above ∙ ap (◌* b) y.is ∙ one_mul R b

  -- it is F's leading coefficient, where G is monic too
  pub factor_leads : (G X F : (S4 R).Car) (c a : R.Car) → LeadsBy R.𝟙 G → LeadsBy R.𝟙 X → LeadsBy a F → scaled G X c ≡ F → a ≡ c
  factor_leads G X F c a g x f e =
      let GX = S.mul G X in
      let m = g.at ⊞ x.at in
      let gx = lead_of_product R (domain K) g.at x.at G X g.finite x.finite g.lead x.lead in
      let nc = factor_nonzero G X F c e (lead_nonzero R f.at F f.lead) in
      let at = lead_unique R m f.at F (subst (Lead R m) e (lead_times m GX c (D.P_mul _ _ g.finite x.finite) gx nc)) f.lead in
      sym f.is ∙ sym (ap₂ (coef R) e at) ∙ coef_times m GX c gx.above
      ∙ ap (◌* c) (coef_of_product R g.at x.at G X g.lead.above x.lead.above ∙ ap₂ ◌*◌ g.is x.is ∙ one_mul R 𝟙) ∙ one_mul R c

  -- F over a monic G times F's leading coefficient is monic
  pub quotient_leads : (G X F : (S4 R).Car) (c : R.Car) → ¬ (c ≡ R.𝟘) → LeadsBy R.𝟙 G → LeadsBy c F → (n : Exponents) → IsPolynomial K X → Lead R n X
      → (S4 R).mul ((S4 R).mul G (constant K c)) X ≡ F → coef R X n ≡ R.𝟙
  quotient_leads G X F c nc g f n finX x e =
      let GC = S.mul G (constant K c) in
      let finGC = D.P_mul _ _ g.finite (constant_finite c) in
      let gc = lead_times g.at G c g.finite g.lead nc in
      let at = lead_unique R (g.at ⊞ n) f.at F
      (subst (Lead R (g.at ⊞ n)) e (lead_of_product R (domain K) g.at n GC X finGC finX gc x)) f.lead in
      cancel R (domain K) (coef R X n) 𝟙 c tt tt tt nc
      (ap (◌* coef R X n) (sym (coef_times g.at G c g.lead.above ∙ ap (◌* c) g.is ∙ one_mul R c))
      ∙ sym (coef_of_product R g.at n GC X gc.above x.above)
      ∙ ap₂ (coef R) e at ∙ f.is ∙ sym (R.mul_one c))

  -- what G divides, G times a number that is not 0 divides
  pub scaled_divides : (G F : (S4 R).Car) (c : R.Car) → ¬ (c ≡ R.𝟘) → Divides K G F → Divides K ((S4 R).mul G (constant K c)) F
  scaled_divides G F c n d = record {
    quo = S.mul d.quo (constant K (K.inv c));
    fin = D.P_mul _ _ d.fin (constant_finite (K.inv c));
    eq = ring4 S (λ g c q i. g ⊗ c ⊗ (q ⊗ i) ≗ g ⊗ q ⊗ (c ⊗ i)) tt G (constant K c) d.quo (constant K (K.inv c))
        ∙ ap₂ S.mul d.eq (monomial_times K origin c (K.inv c) ∙ ap (constant K) (K.mul_inv c n) ∙ constant_one K)
        ∙ S.mul_one F;
  }

  -- N = G X c and D = G Y c: N Y = D X
  pub crosswise : (G X Y : (S4 R).Car) (c : R.Car) (N E : (S4 R).Car) → scaled G X c ≡ N → scaled G Y c ≡ E → (S4 R).mul N Y ≡ (S4 R).mul E X
  crosswise G X Y c N E n e =
      ap (λ (f : S.Car). S.mul f Y) (sym n)
      ∙ ring4 S (λ g x y c. g ⊗ x ⊗ c ⊗ y ≗ g ⊗ y ⊗ c ⊗ x) tt G X Y (constant K c)
      ∙ ap (λ (f : S.Car). S.mul f X) e

  -- where G has the highest degree in x of the common divisors, X and Y have none that contains x
  module _ (A B G : Polynomial K) (d : ℕ) (greatest : GreatestInX K A B G d) (X Y : (S4 R).Car) (c : R.Car)
      (first : scaled (polynomial R G) X c ≡ polynomial R A) (second : scaled (polynomial R G) Y c ≡ polynomial R B) where
    pub none_left : (H : (S4 R).Car) → IsPolynomial K H → Divides K H X → Divides K H Y → (h : ℕ) → DegreeX K h H → h ≡ 0
    none_left H fin dX dY h top =
        let g = polynomial R G in
        let finG = polynomial_finite K G in
        let l : d +ₙ h ≤ d = greatest.greatest (S.mul g H) (D.P_mul _ _ finG fin)
        (multiple X (polynomial R A) first dX) (multiple Y (polynomial R B) second dY)
        (d +ₙ h) (top_mul (S3 R) (D3 R (domain K)) d h g H (finG.coef d) (fin.coef h) greatest.degree top) in
        omega arith
      where
        multiple : (Z F : S.Car) → scaled (polynomial R G) Z c ≡ F → Divides K H Z → Divides K (S.mul (polynomial R G) H) F
        multiple Z F e q = record {
          quo = S.mul q.quo (constant K c);
          fin = D.P_mul _ _ q.fin (constant_finite c);
          eq = ring4 S (λ g h q c. g ⊗ h ⊗ (q ⊗ c) ≗ g ⊗ (h ⊗ q) ⊗ c) tt (polynomial R G) H q.quo (constant K c)
              ∙ ap (λ (f : S.Car). S.mul (S.mul (polynomial R G) f) (constant K c)) q.eq ∙ e;
        }
