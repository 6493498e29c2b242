-- Bringing a variable to the front, where its greatest exponent is the degree: swaps of two variables are homomorphisms.
use Rattle.std.specs.Prelude.{◌≡◌, refl}
use Rattle.std.proofs.Common.{◌∙◌, ap}
use Rattle.algebra.specs.Ring.{CommRing}
use Rattle.algebra.specs.SeriesRing.{SeriesR, S2, S3, S4}
use Rattle.algebra.specs.Domain.{Domain}
use Rattle.algebra.specs.Polynomials.{SeriesD, D2, D3, D4}
use Rattle.algebra.specs.Four.{Exponents, coef}
use Rattle.algebra.specs.GreatestExponent.{Variable, in_x, in_y, in_z, in_w, exponent}
use Rattle.algebra.specs.Laws.Maps.{Hom, SeriesH, flipH}
use Rattle.algebra.specs.Laws.Finite.{Keeps, keeps_map, keeps_flip}

module _ (R : CommRing) where
  -- a homomorphism that brings the variable v to the front, and where each monomial goes
  pub record Front (D : Domain R) (v : Variable) : Type 0 where
    pub hom : Hom (S4 R) (S4 R)
    pub keeps : Keeps (S4 R) (S4 R) (D4 R D) (D4 R D) hom
    pub there : Exponents → Exponents
    pub back : Exponents → Exponents
    pub there_x : (e : Exponents) → (there e).x ≡ exponent v e
    pub back_v : (e : Exponents) → exponent v (back e) ≡ e.x
    pub there_coef : (f : (S4 R).Car) (e : Exponents) → coef R (hom.fn f) (there e) ≡ coef R f e
    pub back_coef : (f : (S4 R).Car) (e : Exponents) → coef R (hom.fn f) e ≡ coef R f (back e)

module _ (R : CommRing) (D : Domain R) where
  -- a homomorphism that keeps the polynomials
  abbrev Kept : Type 0
  Kept = (φ : Hom (S4 R) (S4 R)) × Keeps (S4 R) (S4 R) (D4 R D) (D4 R D) φ

  abbrev compose : Hom (S4 R) (S4 R) → Hom (S4 R) (S4 R) → Hom (S4 R) (S4 R)
  compose φ ψ = record {
    fn = λ a. ψ.fn (φ.fn a);
    zero = ap ψ.fn φ.zero ∙ ψ.zero;
    one = ap ψ.fn φ.one ∙ ψ.one;
    add = λ a b. ap ψ.fn (φ.add a b) ∙ ψ.add _ _;
    mul = λ a b. ap ψ.fn (φ.mul a b) ∙ ψ.mul _ _;
  }

  keeps_compose : (φ ψ : Kept) → Keeps (S4 R) (S4 R) (D4 R D) (D4 R D) (compose φ.0 ψ.0)
  unfolding Keeps
  keeps_compose φ ψ f pf = ψ.1 (φ.0.fn f) (φ.1 f pf)

  -- one after the other
  abbrev then : Kept → Kept → Kept
  then φ ψ = (compose φ.0 ψ.0, keeps_compose φ ψ)

  abbrev same : Hom (S4 R) (S4 R)
  same = record { fn = λ f. f; zero = refl; one = refl; add = λ a b. refl; mul = λ a b. refl }

  keeps_same : Keeps (S4 R) (S4 R) (D4 R D) (D4 R D) same
  unfolding Keeps
  keeps_same f pf = pf

  -- x y, y z and z w change places
  abbrev swap_xy : Kept
  swap_xy = (flipH (S2 R), keeps_flip (S2 R) (D2 R D))

  abbrev swap_yz : Kept
  swap_yz = (
    SeriesH (S3 R) (S3 R) (flipH (SeriesR R)),
    keeps_map (S3 R) (S3 R) (D3 R D) (D3 R D) (flipH (SeriesR R)) (keeps_flip (SeriesR R) (SeriesD R D)),
  )

  abbrev swap_zw : Kept
  swap_zw = (
    SeriesH (S3 R) (S3 R) (SeriesH (S2 R) (S2 R) (flipH R)),
    keeps_map (S3 R) (S3 R) (D3 R D) (D3 R D) (SeriesH (S2 R) (S2 R) (flipH R))
        (keeps_map (S2 R) (S2 R) (D2 R D) (D2 R D) (flipH R) (keeps_flip R D)),
  )

  pub front : (v : Variable) → Front R D v
  front in_x = record {
    hom = same;
    keeps = keeps_same;
    there = λ e. e;
    back = λ e. e;
    there_x = λ e. refl;
    back_v = λ e. refl;
    there_coef = λ f e. refl;
    back_coef = λ f e. refl;
  }
  front in_y = record {
    hom = swap_xy.0;
    keeps = swap_xy.1;
    there = λ e. record { x = e.y; y = e.x; z = e.z; w = e.w };
    back = λ e. record { x = e.y; y = e.x; z = e.z; w = e.w };
    there_x = λ e. refl;
    back_v = λ e. refl;
    there_coef = λ f e. refl;
    back_coef = λ f e. refl;
  }
  front in_z = record {
    hom = (then swap_yz swap_xy).0;
    keeps = (then swap_yz swap_xy).1;
    there = λ e. record { x = e.z; y = e.x; z = e.y; w = e.w };
    back = λ e. record { x = e.y; y = e.z; z = e.x; w = e.w };
    there_x = λ e. refl;
    back_v = λ e. refl;
    there_coef = λ f e. refl;
    back_coef = λ f e. refl;
  }
  front in_w = record {
    hom = (then swap_zw (then swap_yz swap_xy)).0;
    keeps = (then swap_zw (then swap_yz swap_xy)).1;
    there = λ e. record { x = e.w; y = e.x; z = e.y; w = e.z };
    back = λ e. record { x = e.y; y = e.z; z = e.w; w = e.x };
    there_x = λ e. refl;
    back_v = λ e. refl;
    there_coef = λ f e. refl;
    back_coef = λ f e. refl;
  }
