-- The values of monomials: c a^n for c X^n, and at (y, z, w) the coefficient times the powers, beside the power of x.
use Rattle.std.specs.Prelude.{◌≡◌}
use Rattle.std.proofs.Math.Path.{sym, ap, fun_ext}
use Rattle.std.proofs.Common.{◌∙◌, ap₂}
use Prim.Native.Nat.{ℕ, zero, suc}
use Rattle.algebra.specs.Ring.{CommRing, pow}
use Rattle.algebra.specs.Series.{constS}
use Rattle.algebra.specs.SeriesRing.{SeriesR, S2}
use Rattle.algebra.specs.Domain.{Domain, Finite}
use Rattle.algebra.specs.Polynomials.{SeriesD, D2, D3, D4}
use Rattle.algebra.specs.Mono.{mono, mono4}
use Rattle.algebra.specs.Evaluation.{cut_value, Evaluation}
use Rattle.algebra.specs.Evaluate.{after, evaluate, at_y, at_z, at_w, at_yzw, at_point}
use Rattle.algebra.specs.Laws.Ring.{zero_add, mul_zero}
use Rattle.algebra.specs.Laws.Solver.{◌⊗◌, ◌≗◌, ring3, ring4}
use Rattle.algebra.specs.Laws.Mono.{mono_ends}
use Rattle.algebra.specs.Laws.Divides.{const_fin, mono_fin, pow_P}
use Rattle.algebra.specs.Laws.Evaluation.{at_equal, value_mono, value_pow}
use Rattle.algebra.specs.Laws.Substitution.{any_cut, evaluate_const}

-- the outermost variable takes the value a
module _ (R : CommRing) (D : Domain R) (a : R.Car) (pa : D.P a) where
  open R use {Car, add as ◌+◌, mul as ◌*◌}

  infixl 60 ◌+◌
  infixl 70 ◌*◌
  cut_mono : (n : ℕ) (c : Car) → cut_value R (suc n) a (mono R n c) ≡ c * pow R a n
  unfolding cut_value mono pow
  cut_mono zero c = ap (c +◌) (mul_zero R a) ∙ R.add_zero c ∙ sym (R.mul_one c)
  cut_mono (suc n) c = zero_add R _ ∙ ap (a *◌) (cut_mono n c) ∙ ring3 R (λ a c x. a ⊗ (c ⊗ x) ≗ c ⊗ (x ⊗ a)) tt a c (pow R a n)

  -- the value of c X^n is c a^n
  pub evaluate_mono : (n : ℕ) (c : Car) (h : Finite R D (mono R n c)) → (evaluate R D a pa).fn (mono R n c) h ≡ c * pow R a n
  evaluate_mono n c h = any_cut R D a pa h.bound (suc n) (mono R n c) h.ends (mono_ends R n c) ∙ cut_mono n c

module _ (R : CommRing) (D : Domain R) (y z w : R.Car) (py : D.P y) (pz : D.P z) (pw : D.P w) where
  open R use {Car, mul as ◌*◌}

  infixl 70 ◌*◌
  -- the value of a polynomial in z, w
  abbrev at_zw : Evaluation (S2 R) R (D2 R D) D
  at_zw = after (at_w R D w pw) (at_z R D z pz)

  -- the values of the constants z and y
  value_of_z : (h : (SeriesD R D).P (constS R z)) → (at_w R D w pw).fn (constS R z) h ≡ z
  value_of_z h = evaluate_const R D w pw z h

  value_of_y : (h : (D2 R D).P (constS (SeriesR R) (constS R y))) → at_zw.fn (constS (SeriesR R) (constS R y)) h ≡ y
  value_of_y h = at_equal (at_w R D w pw) ((at_z R D z pz).keeps _ h) (const_fin R D y py)
      (evaluate_const (SeriesR R) (SeriesD R D) (constS R z) (const_fin R D z pz) (constS R y) h)
      ∙ evaluate_const R D w pw y (const_fin R D y py)

  at_zw_mono : (c d : ℕ) (u : Car) (pu : D.P u) (h : (D2 R D).P (mono (SeriesR R) c (mono R d u)))
      → at_zw.fn (mono (SeriesR R) c (mono R d u)) h ≡ u * pow R w d * pow R z c
  at_zw_mono c d u pu h =
      at_equal (at_w R D w pw) ((at_z R D z pz).keeps _ h) ((SeriesD R D).P_mul _ _ fu fz)
      (evaluate_mono (SeriesR R) (SeriesD R D) (constS R z) (const_fin R D z pz) c (mono R d u) h)
      ∙ (at_w R D w pw).mul (mono R d u) (pow (SeriesR R) (constS R z) c) fu fz ((SeriesD R D).P_mul _ _ fu fz)
      ∙ ap₂ ◌*◌ (evaluate_mono R D w pw d u fu)
      (value_pow (at_w R D w pw) (constS R z) (const_fin R D z pz) c fz ∙ ap (λ (v : Car). pow R v c) (value_of_z (const_fin R D z pz)))
    where
      fu : (SeriesD R D).P (mono R d u)
      fu = mono_fin R D d u pu

      fz : (SeriesD R D).P (pow (SeriesR R) (constS R z) c)
      fz = pow_P (SeriesR R) (SeriesD R D) (constS R z) (const_fin R D z pz) c

  at_yzw_mono : (b c d : ℕ) (u : Car) (pu : D.P u) (h : (D3 R D).P (mono (S2 R) b (mono (SeriesR R) c (mono R d u))))
      → (at_yzw R D y z w py pz pw).fn (mono (S2 R) b (mono (SeriesR R) c (mono R d u))) h ≡ u * pow R w d * pow R z c * pow R y b
  at_yzw_mono b c d u pu h =
      at_equal at_zw ((at_y R D y py).keeps _ h) ((D2 R D).P_mul _ _ fu fy)
      (evaluate_mono (S2 R) (D2 R D) Y pY b (mono (SeriesR R) c (mono R d u)) h)
      ∙ at_zw.mul (mono (SeriesR R) c (mono R d u)) (pow (S2 R) Y b) fu fy ((D2 R D).P_mul _ _ fu fy)
      ∙ ap₂ ◌*◌ (at_zw_mono c d u pu fu) (value_pow at_zw Y pY b fy ∙ ap (λ (v : Car). pow R v b) (value_of_y pY))
    where
      Y : (S2 R).Car
      Y = constS (SeriesR R) (constS R y)

      pY : (D2 R D).P (constS (SeriesR R) (constS R y))
      pY = const_fin (SeriesR R) (SeriesD R D) _ (const_fin R D y py)

      fu : (D2 R D).P (mono (SeriesR R) c (mono R d u))
      fu = mono_fin (SeriesR R) (SeriesD R D) c _ (mono_fin R D d u pu)

      fy : (D2 R D).P (pow (S2 R) (constS (SeriesR R) (constS R y)) b)
      fy = pow_P (S2 R) (D2 R D) (constS (SeriesR R) (constS R y)) pY b

  pub at_point_mono : (a b c d : ℕ) (u : Car) (pu : D.P u) (h : (D4 R D).P (mono4 R a b c d u))
      → (at_point R D y z w py pz pw).fn (mono4 R a b c d u) h ≡ mono R a (u * pow R y b * pow R z c * pow R w d)
  at_point_mono a b c d u pu h = fun_ext λ n.
      value_mono (at_yzw R D y z w py pz pw) a (mono (S2 R) b (mono (SeriesR R) c (mono R d u))) fin n (h.coef n)
      ∙ ap (λ (v : Car). mono R a v n) (at_yzw_mono b c d u pu fin
      ∙ ring4 R (λ u w z y. u ⊗ w ⊗ z ⊗ y ≗ u ⊗ y ⊗ z ⊗ w) tt u (pow R w d) (pow R z c) (pow R y b))
    where
      fin : (D3 R D).P (mono (S2 R) b (mono (SeriesR R) c (mono R d u)))
      fin = mono_fin (S2 R) (D2 R D) b _ (mono_fin (SeriesR R) (SeriesD R D) c _ (mono_fin R D d u pu))
