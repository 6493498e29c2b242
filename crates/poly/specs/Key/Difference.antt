-- Where each exponent of a key is at most that of another, the keys' difference has the exponents' differences; the test of it.
use Rattle.std.specs.Prelude.{◌≡◌, refl, Bool, false, ◌&&◌, ℕ, ◌+◌, ◌-◌, ◌≤◌, leb}
use Rattle.std.proofs.Common.{sym, ◌∙◌, subst, arith}
use Rattle.std.proofs.Math.Path.{ap}
use Rattle.std.proofs.Math.Bool.{true}
use mathlib.Mathlib.Data.Bool.Basic.{and_elim_left, and_elim_right, and_intro}
use borrow.Author.Tests.{leb-true, le-leb}
use Rattle.algebra.specs.Four.{Exponents, ◌⊞◌, ◌≼◌}
use Rattle.algebra.specs.Laws.Four.{exponents_path, exponents_cancel}
use Rattle.poly.specs.Keys.{key, exponents}
use Rattle.poly.specs.Key.Laws.{Digits, digits_of, key_of_exponents, exponents_of_key, key_add}
use Rattle.poly.specs.Division.Model.{at_most, fits_in}

-- the test says that each exponent is at most the other's
module _ (a b : ℕ) where
  abbrev X : Bool
  X = leb (exponents a).x (exponents b).x

  abbrev Y : Bool
  Y = leb (exponents a).y (exponents b).y

  abbrev Z : Bool
  Z = leb (exponents a).z (exponents b).z

  pub at_most_says : at_most a b ≡ true → exponents a ≼ exponents b
  unfolding at_most
  at_most_says h =
      let xyz : X && Y && Z ≡ true = and_elim_left (X && Y && Z) _ h in
      let xy : X && Y ≡ true = and_elim_left (X && Y) Z xyz in
      record {
        x = leb-true _ _ (and_elim_left X Y xy);
        y = leb-true _ _ (and_elim_right X Y xy);
        z = leb-true _ _ (and_elim_right (X && Y) Z xyz);
        w = leb-true _ _ (and_elim_right (X && Y && Z) _ h);
      }

  pub at_most_of : exponents a ≼ exponents b → at_most a b ≡ true
  unfolding at_most
  at_most_of h =
      and_intro (and_intro (and_intro (le-leb _ _ h.x) (le-leb _ _ h.y)) (le-leb _ _ h.z)) (le-leb _ _ h.w)

difference : (a b c k l : ℕ) → a + b ≡ c → c ≡ k → b ≡ l → k - l ≡ a
difference a b c k l p q r = omega arith

at_least : (a b c k l : ℕ) → a + b ≡ c → c ≡ k → b ≡ l → l ≤ k
at_least a b c k l p q r = omega arith

-- over plain exponents, so that no digit is taken apart
module _ (a b : ℕ) (m n : Exponents) (em : exponents b ≡ m) (en : exponents a ≡ n) (h : n ≼ m) where
  abbrev less : Exponents
  less = record { x = m.x - n.x; y = m.y - n.y; z = m.z - n.z; w = m.w - n.w }

  less_sum : less ⊞ n ≡ m
  less_sum =
      let hx = h.x in let hy = h.y in let hz = h.z in let hw = h.w in
      exponents_path (omega arith) (omega arith) (omega arith) (omega arith)

  less_digits : Digits less
  less_digits =
      let d : Digits m = subst Digits em (digits_of b) in
      record { y = let l = d.y in omega arith; z = let l = d.z in omega arith; w = let l = d.w in omega arith }

  keys_sum : key less + key n ≡ key m
  keys_sum = sym (key_add less n) ∙ ap key less_sum

  m_key : key m ≡ b
  m_key = ap key (sym em) ∙ key_of_exponents b

  n_key : key n ≡ a
  n_key = ap key (sym en) ∙ key_of_exponents a

  key_difference : exponents (b - a) ≡ less
  key_difference =
      ap exponents (difference (key less) (key n) (key m) b a keys_sum m_key n_key) ∙ exponents_of_key less less_digits

  plain_difference : m ≡ exponents (b - a) ⊞ n
  plain_difference = sym less_sum ∙ ap (λ (e : Exponents). e ⊞ n) (sym key_difference)

  plain_at_least : a ≤ b
  plain_at_least = at_least (key less) (key n) (key m) b a keys_sum m_key n_key

module _ (a b : ℕ) (h : exponents a ≼ exponents b) where
  below_key : a ≤ b
  below_key = plain_at_least a b (exponents b) (exponents a) refl refl h

  pub exponents_difference : exponents b ≡ exponents (b - a) ⊞ exponents a
  exponents_difference = plain_difference a b (exponents b) (exponents a) refl refl h

pub at_most_key : (a b : ℕ) → at_most a b ≡ true → a ≤ b
at_most_key a b h = below_key a b (at_most_says a b h)

-- the test of a leading term, as the code makes it
module _ (lead bound k : ℕ) where
  pub fits_not : at_most lead k ≡ false → false ≡ fits_in lead bound k
  unfolding fits_in
  fits_not h = ap (λ (a : Bool). a && at_most (k - lead) bound) (sym h)

  pub fits_rest : at_most lead k ≡ true → {r : Bool} → r ≡ at_most (k - lead) bound → r ≡ fits_in lead bound k
  unfolding fits_in
  fits_rest h e = e ∙ ap (λ (a : Bool). a && at_most (k - lead) bound) (sym h)

  pub fits_key : fits_in lead bound k ≡ true → lead ≤ k
  unfolding fits_in
  fits_key h = at_most_key lead k (and_elim_left (at_most lead k) _ h)

-- the quotient's exponents are those of the difference
pub difference_only : (a b : ℕ) (e : Exponents) → exponents b ≡ e ⊞ exponents a → (exponents a ≼ exponents b) × (exponents (b - a) ≡ e)
difference_only a b e p = (l, exponents_cancel (exponents (b - a)) e (exponents a) (sym (exponents_difference a b l) ∙ p))
  where
    below : (n m : Exponents) → m ≡ e ⊞ n → n ≼ m
    below n m q = subst (λ (i : Exponents). n ≼ i) (sym q) (record { x = omega arith; y = omega arith; z = omega arith; w = omega arith })

    l : exponents a ≼ exponents b
    l = below (exponents a) (exponents b) p
