-- The leading monomial is unique, there for each polynomial that is not 0, and multiplicative.
use Rattle.std.specs.Prelude.{◌≡◌, refl, suc, ◌+◌ as ◌+ₙ◌}
use Rattle.std.proofs.Common.{sym, ◌∙◌, ap, ap₂, arith}
use Rattle.std.proofs.Math.Path.{fun_ext}
use Rattle.algebra.specs.Ring.{CommRing}
use Rattle.algebra.specs.Series.{Seq}
use Rattle.algebra.specs.SeriesRing.{SeriesR, S2, S3, S4}
use Rattle.algebra.specs.Degree.{Ends}
use Rattle.algebra.specs.Domain.{Domain}
use Rattle.algebra.specs.Polynomials.{SeriesD, D2, D3, D4}
use Rattle.algebra.specs.Four.{Exponents, ◌⊞◌, by_x, by_y, by_z, by_w, coef}
use Rattle.algebra.specs.Lead.{Upto, Lead}
use Rattle.algebra.specs.Laws.Degree.{conv_ends, conv_top, series_top}
use Rattle.algebra.specs.Laws.Four.{lower, equal, higher, compare}

module _ (R : CommRing) where
  open R use {mul as ◌*◌}

  infixl 70 ◌*◌
  pub lead_nonzero : (m : Exponents) (f : (S4 R).Car) → Lead R m f → ¬ (f ≡ (S4 R).𝟘)
  lead_nonzero m f s e = s.stands (ap (λ (u : (S4 R).Car). coef R u m) e)

  pub lead_unique : (m n : Exponents) (f : (S4 R).Car) → Lead R m f → Lead R n f → m ≡ n
  lead_unique m n f s t = elim (compare m n) [
    | lower l ↦ absurd (t.stands (s.above n l))
    | equal e ↦ e
    | higher l ↦ absurd (s.stands (t.above m l))
  ]

  -- the same, variable after variable
  record Layers (m : Exponents) (f : (S4 R).Car) : Type 0 where
    in_x : Ends (S3 R) (suc m.x) f
    in_y : Ends (S2 R) (suc m.y) (f m.x)
    in_z : Ends (SeriesR R) (suc m.z) (f m.x m.y)
    in_w : Ends R (suc m.w) (f m.x m.y m.z)

  layers : (m : Exponents) (f : (S4 R).Car) → Upto R m f → Layers m f
  layers m f h = record {
    in_x = λ n l. fun_ext λ b. fun_ext λ c. fun_ext λ d. h (record { x = n; y = b; z = c; w = d }) (by_x l);
    in_y = λ n l. fun_ext λ c. fun_ext λ d. h (record { x = m.x; y = n; z = c; w = d }) (by_y refl l);
    in_z = λ n l. fun_ext λ d. h (record { x = m.x; y = m.y; z = n; w = d }) (by_z refl refl l);
    in_w = λ n l. h (record { x = m.x; y = m.y; z = m.z; w = n }) (by_w refl refl refl l);
  }

  upto : (m : Exponents) (f : (S4 R).Car) → Layers m f → Upto R m f
  upto m f h e (by_x l) = ap (λ (u : (S3 R).Car). u e.y e.z e.w) (h.in_x e.x l)
  upto m f h e (by_y p l) = ap (λ i. f i e.y e.z e.w) (sym p) ∙ ap (λ (u : (S2 R).Car). u e.z e.w) (h.in_y e.y l)
  upto m f h e (by_z p q l) = ap₂ (λ i j. f i j e.z e.w) (sym p) (sym q) ∙ ap (λ (u : Seq R). u e.w) (h.in_z e.z l)
  upto m f h e (by_w p q r l) = (λ i. f (sym p i) (sym q i) (sym r i) e.w) ∙ h.in_w e.w l

  -- the product at the sum of two bounds
  module _ (m n : Exponents) (f g : (S4 R).Car) (hf : Layers m f) (hg : Layers n g) where
    at_x : (S4 R).mul f g (m.x +ₙ n.x) ≡ (S3 R).mul (f m.x) (g n.x)
    at_x = conv_top (S3 R) m.x n.x f g hf.in_x hg.in_x

    at_y : (S4 R).mul f g (m.x +ₙ n.x) (m.y +ₙ n.y) ≡ (S2 R).mul (f m.x m.y) (g n.x n.y)
    at_y = ap (λ (u : (S3 R).Car). u (m.y +ₙ n.y)) at_x ∙ conv_top (S2 R) m.y n.y (f m.x) (g n.x) hf.in_y hg.in_y

    at_z : (S4 R).mul f g (m.x +ₙ n.x) (m.y +ₙ n.y) (m.z +ₙ n.z) ≡ (SeriesR R).mul (f m.x m.y m.z) (g n.x n.y n.z)
    at_z = ap (λ (u : (S2 R).Car). u (m.z +ₙ n.z)) at_y ∙ conv_top (SeriesR R) m.z n.z (f m.x m.y) (g n.x n.y) hf.in_z hg.in_z

    at_w : coef R ((S4 R).mul f g) (m ⊞ n) ≡ coef R f m * coef R g n
    at_w = ap (λ (u : Seq R). u (m.w +ₙ n.w)) at_z ∙ conv_top R m.w n.w (f m.x m.y m.z) (g n.x n.y n.z) hf.in_w hg.in_w

    layers_mul : Layers (m ⊞ n) ((S4 R).mul f g)
    layers_mul = record {
      in_x = λ k l. conv_ends (S3 R) (suc m.x) (suc n.x) f g hf.in_x hg.in_x k (omega arith);
      in_y = λ k l. ap (λ (u : (S3 R).Car). u k) at_x ∙ conv_ends (S2 R) (suc m.y) (suc n.y) (f m.x) (g n.x) hf.in_y hg.in_y k (omega arith);
      in_z = λ k l. ap (λ (u : (S2 R).Car). u k) at_y
          ∙ conv_ends (SeriesR R) (suc m.z) (suc n.z) (f m.x m.y) (g n.x n.y) hf.in_z hg.in_z k (omega arith);
      in_w = λ k l. ap (λ (u : Seq R). u k) at_z
          ∙ conv_ends R (suc m.w) (suc n.w) (f m.x m.y m.z) (g n.x n.y n.z) hf.in_w hg.in_w k (omega arith);
    }

  module _ (m n : Exponents) (f g : (S4 R).Car) (hf : Upto R m f) (hg : Upto R n g) where
    pub coef_of_product : coef R ((S4 R).mul f g) (m ⊞ n) ≡ coef R f m * coef R g n
    coef_of_product = at_w m n f g (layers m f hf) (layers n g hg)

    pub upto_of_product : Upto R (m ⊞ n) ((S4 R).mul f g)
    upto_of_product = upto (m ⊞ n) ((S4 R).mul f g) (layers_mul m n f g (layers m f hf) (layers n g hg))

module _ (R : CommRing) (D : Domain R) where
  pub lead_of_product : (m n : Exponents) (f g : (S4 R).Car) → (D4 R D).P f → (D4 R D).P g → Lead R m f → Lead R n g → Lead R (m ⊞ n) ((S4 R).mul f g)
  lead_of_product m n f g pf pg s t = record {
    stands = λ e. D.nzd (coef R f m) (coef R g n) ((((pf.coef _).coef _).coef _).coef _) ((((pg.coef _).coef _).coef _).coef _) s.stands t.stands
        (sym (coef_of_product R m n f g s.above t.above) ∙ e);
    above = upto_of_product R m n f g s.above t.above;
  }

  -- a polynomial that is not 0 has a leading monomial
  pub lead_exists : (f : (S4 R).Car) → (D4 R D).P f → ¬ (f ≡ (S4 R).𝟘) → (m : Exponents) × Lead R m f
  lead_exists f pf nf =
      let a = series_top (S3 R) (D3 R D) f pf nf in
      let b = series_top (S2 R) (D2 R D) (f a.0) (pf.coef _) a.1.nonzero in
      let c = series_top (SeriesR R) (SeriesD R D) (f a.0 b.0) ((pf.coef _).coef _) b.1.nonzero in
      let d = series_top R D (f a.0 b.0 c.0) (((pf.coef _).coef _).coef _) c.1.nonzero in
      let m : Exponents = record { x = a.0; y = b.0; z = c.0; w = d.0 } in
      (m, record { stands = d.1.nonzero; above = upto R m f (record { in_x = a.1.ends; in_y = b.1.ends; in_z = c.1.ends; in_w = d.1.ends }) })
