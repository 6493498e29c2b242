-- The model of the value means the value: the numbers that the code sums up are the coefficients of the value at the point.
use Rattle.std.specs.Prelude.{◌≡◌, get_or, set}
use Rattle.std.proofs.Math.Path.{refl, sym, ap, fun_ext}
use Rattle.std.proofs.Common.{◌∙◌, arith, get_or-set_same, get_or-set_other}
use mathlib.Core.List.{List, [], ◌∷◌}
use Prim.Native.Nat.{ℕ, zero, suc, ◌+◌, ◌*◌, ◌<◌}
use Rattle.std.proofs.Math.Decide.{ℕ_discrete}
use Rattle.std.proofs.Math.ListN.{length}
use Rattle.algebra.specs.Ring.{CommRing, pow}
use Rattle.algebra.specs.Mono.{mono}
use Rattle.algebra.specs.Laws.Mono.{mono_at, mono_off}
use Rattle.field.specs.Prime.{Prime}
use Rattle.field.specs.Modulus.Prime.{prime_positive}
use Rattle.field.specs.Fp.{Fp, el, add, mul}
use Rattle.field.specs.Elements.Fp.{el_mod, el_add, el_mul}
use Rattle.field.specs.Modulo.{Modulo}
use Rattle.poly.specs.Keys.{keys, exponents}
use Rattle.poly.specs.Terms.{key_of, coefficient_of, term_of, terms_of}
use Rattle.poly.specs.PointValue.{Point, number_at, value}
use Rattle.poly.specs.ImageCall.{point_of}
use Rattle.poly.specs.Coefficients.{series}
use Rattle.poly.specs.Value.Monomial.{monomial}
use Rattle.poly.specs.Value.Model.{plus_term, with_term, value_of}
use Rattle.field.specs.Loops.Places.{replicate_all}
use Rattle.poly.specs.Value.PowerLaws.{el_monomial}
use Rattle.poly.specs.Value.ModelLaws.{value_of_eight}

-- the point of three numbers
abbrev pub at_numbers : (p : ℕ) (P : Prime p) (y z w : ℕ) → Point (Modulo p P).ring
at_numbers p P y z w = record { y = el p y; z = el p z; w = el p w }

module _ (p : ℕ) (P : Prime p) (point : List ℕ) where
  abbrev R : CommRing
  R = (Modulo p P).ring

  term_el : (t r : ℕ) → el p (plus_term p point t r) ≡ add (el p r) (number_at R (point_of p P point) (term_of p P t))
  unfolding plus_term
  term_el t r =
      let c = coefficient_of t in
      let m = monomial (get_or point 0 0) (get_or point 1 0) (get_or point 2 0) (key_of t) in
      let e = exponents (key_of t) in
      let y = pow R (el p (get_or point 0 0)) e.y in
      let z = pow R (el p (get_or point 1 0)) e.z in
      let w = pow R (el p (get_or point 2 0)) e.w in
      el_mod p (r + c * m) ∙ el_add p r (c * m)
      ∙ ap (add (el p r))
      (el_mul p c m ∙ ap (mul (el p c)) (el_monomial p (prime_positive P) _ _ _ (key_of t)) ∙ sym (R.mul_assoc (el p c) (mul y z) w)
      ∙ ap (λ (u : Fp p). mul u w) (sym (R.mul_assoc (el p c) y z)))

  -- a number stored at the power x adds a monomial
  set_series : (r : List ℕ) (x v : ℕ) (n : Fp p) → x < length r → el p v ≡ add (series p r x) n → (i : ℕ)
      → series p (set r x v) i ≡ add (series p r i) (mono R x n i)
  set_series r x v n b e i = go (ℕ_discrete x i)
    where
      go : Dec (x ≡ i) → series p (set r x v) i ≡ add (series p r i) (mono R x n i)
      go (yes q) =
          ap (series p (set r x v)) (sym q) ∙ ap (el p) (get_or-set_same r x v 0 b) ∙ e ∙ ap (add (series p r x)) (sym (mono_at R x n))
          ∙ ap (λ (j : ℕ). add (series p r j) (mono R x n j)) q
      go (no q) = ap (el p) (get_or-set_other r x i v 0 (λ s. q (sym s))) ∙ sym (ap (add (series p r i)) (mono_off R x n i q) ∙ R.add_zero _)

  value_of_at : (ts : List ℕ) → ((j : ℕ) → j < length ts → key_of (get_or ts j 0) < keys) → (i : ℕ)
      → series p (value_of p point ts) i ≡ value R (terms_of p P ts) (point_of p P point) i
  unfolding value_of with_term value
  value_of_at [] h i = ap (el p) (replicate_all (λ n. n ≡ 0) 8 i 0 0 refl refl)
  value_of_at (t ∷ ts) h i =
      let x = (exponents (key_of t)).x in
      let r = value_of p point ts in
      let b : x < length r =
      let k : key_of t < keys = h zero (omega arith) in omega (arith, (value_of_eight p point (prime_positive P) ts).eight) in
      let n = number_at R (point_of p P point) (term_of p P t) in
      set_series r x _ n b (term_el t (get_or r x 0)) i
      ∙ ap (λ (u : Fp p). add u (mono R x n i)) (value_of_at ts (λ j l. h (suc j) (omega arith)) i)
      ∙ R.add_comm _ _

  -- the numbers that the code sums up are the coefficients of the value
  pub value_of_series : (ts : List ℕ) → ((j : ℕ) → j < length ts → key_of (get_or ts j 0) < keys)
      → series p (value_of p point ts) ≡ value R (terms_of p P ts) (point_of p P point)
  value_of_series ts h = fun_ext (value_of_at ts h)
