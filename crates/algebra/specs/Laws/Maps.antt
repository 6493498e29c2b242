-- Homomorphisms of rings: the same in each coefficient, and the swap of the two outermost variables.
use Rattle.std.specs.Prelude.{◌≡◌}
use Rattle.std.proofs.Math.Path.{refl, sym, ap, ap₂, fun_ext}
use Rattle.std.proofs.Common.{◌∙◌}
use Prim.Native.Nat.{ℕ, zero, suc}
use Rattle.algebra.specs.Ring.{CommRing}
use Rattle.algebra.specs.Series.{Seq, tail, constS, conv}
use Rattle.algebra.specs.SeriesRing.{SeriesR}
use Rattle.algebra.specs.Laws.Solver.{◌⊕◌, ◌≗◌, ring4}

-- ring homomorphisms
pub record Hom (R S : CommRing) : Type 0 where
  pub fn : R.Car → S.Car
  pub zero : fn R.𝟘 ≡ S.𝟘
  pub one : fn R.𝟙 ≡ S.𝟙
  pub add : (a b : R.Car) → fn (R.add a b) ≡ S.add (fn a) (fn b)
  pub mul : (a b : R.Car) → fn (R.mul a b) ≡ S.mul (fn a) (fn b)

abbrev pub mapS : (R S : CommRing) → (R.Car → S.Car) → Seq R → Seq S
mapS R S φ f = λ n. φ (f n)

module _ (R S : CommRing) (φ : Hom R S) where
  pub map_conv : (f g : Seq R) (n : ℕ) → φ.fn (conv R f g n) ≡ conv S (mapS R S φ.fn f) (mapS R S φ.fn g) n
  unfolding conv
  map_conv f g zero = φ.mul _ _
  map_conv f g (suc n) = φ.add _ _ ∙ ap₂ S.add (φ.mul _ _) (map_conv (tail f) g n)

  pub map_const : (c : R.Car) (n : ℕ) → φ.fn (constS R c n) ≡ constS S (φ.fn c) n
  unfolding constS
  map_const c zero = refl
  map_const c (suc n) = φ.zero

  abbrev pub SeriesH : Hom (SeriesR R) (SeriesR S)
  SeriesH = record {
    fn = mapS R S φ.fn;
    zero = fun_ext λ n. φ.zero;
    one = fun_ext λ n. map_const R.𝟙 n ∙ ap (λ c. constS S c n) φ.one;
    add = λ f g. fun_ext λ n. φ.add _ _;
    mul = λ f g. fun_ext (map_conv f g);
  }

-- the two outermost variables change places
abbrev pub flip : {A : Type 0} → (ℕ → ℕ → A) → ℕ → ℕ → A
flip f = λ b a. f a b

module _ (R : CommRing) where
  open R use {Car, add as ◌+◌, mul as ◌*◌}

  infixl 60 ◌+◌
  infixl 70 ◌*◌
  middle : (x y z w : Car) → (x + y) + (z + w) ≡ (x + z) + (y + w)
  middle = ring4 R (λ x y z w. (x ⊕ y) ⊕ (z ⊕ w) ≗ (x ⊕ z) ⊕ (y ⊕ w)) tt

  flip_zero : (f g : ℕ → ℕ → Car) (b : ℕ) → conv (SeriesR R) (flip f) (flip g) b zero ≡ conv R (f zero) (g zero) b
  unfolding conv
  flip_zero f g zero = refl
  flip_zero f g (suc b) = ap (f zero zero * g zero (suc b) +◌) (flip_zero (λ a. tail (f a)) g b)

  flip_suc : (f g : ℕ → ℕ → Car) (a b : ℕ)
      → conv (SeriesR R) (flip f) (flip g) b (suc a) ≡ conv R (f zero) (g (suc a)) b + conv (SeriesR R) (flip (tail f)) (flip g) b a
  unfolding conv
  flip_suc f g a zero = refl
  flip_suc f g a (suc b) =
      ap (conv R (flip f zero) (flip g (suc b)) (suc a) +◌) (flip_suc (λ k. tail (f k)) g a b) ∙ middle _ _ _ _

  flip_conv : (f g : ℕ → ℕ → Car) (a b : ℕ) → conv (SeriesR R) f g a b ≡ conv (SeriesR R) (flip f) (flip g) b a
  unfolding conv
  flip_conv f g zero b = sym (flip_zero f g b)
  flip_conv f g (suc a) b = ap (conv R (f zero) (g (suc a)) b +◌) (flip_conv (tail f) g a b) ∙ sym (flip_suc f g a b)

  pub flip_mul : (f g : ℕ → ℕ → Car) → flip (conv (SeriesR R) f g) ≡ conv (SeriesR R) (flip f) (flip g)
  flip_mul f g = fun_ext λ b. fun_ext λ a. flip_conv f g a b

  pub flip_one : (b a : ℕ) → flip (SeriesR (SeriesR R)).𝟙 b a ≡ (SeriesR (SeriesR R)).𝟙 b a
  unfolding constS
  flip_one zero zero = refl
  flip_one zero (suc a) = refl
  flip_one (suc b) zero = refl
  flip_one (suc b) (suc a) = refl

  abbrev pub flipH : Hom (SeriesR (SeriesR R)) (SeriesR (SeriesR R))
  flipH = record {
    fn = flip;
    zero = refl;
    one = fun_ext λ b. fun_ext λ a. flip_one b a;
    add = λ f g. refl;
    mul = flip_mul;
  }
