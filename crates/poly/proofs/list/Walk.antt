-- What the search of the first wrong term keeps: no term before i is wrong, and the key before is at hand.
use mathlib.Core.Path.{◌≡◌, refl, sym, ap, ◌∙◌}
use mathlib.Core.Bool.{Bool, true, false, ◌&&◌, true≢false}
use mathlib.Core.List.{List}
use mathlib.Mathlib.Data.Bool.Basic.{and_elim_left, and_elim_right}
use Prim.Native.Nat.{ℕ, ◌+◌, ◌≤◌, ◌<◌}
use native.Mathlib.Numerals.{add-one}
use native.Mathlib.Omega.{arith}
use lib.Dec.{ltb}
use lib.ListN.{length, get_or}
use borrow.Author.Tests.{ltb-true, ltb-false}
use Rattle.poly.specs.Keys.{keys}
use Rattle.poly.specs.Terms.{key_of, coefficient_of}
use Rattle.poly.specs.Lists.{WrongModulo, wrong_term, coefficient_zero, coefficient_large}
use Rattle.poly.specs.Search.{Searched}
use Rattle.poly.specs.List.Searching.{Searching}
use Rattle.poly.specs.List.Model.{key_before}
use Rattle.poly.specs.List.Search.{search_begins, search_goes_on, search_stops}
use Rattle.poly.specs.List.Check.{key_is_wrong, term_is_right}

pub record Walked (bound : ℕ) (ts : List ℕ) (before i : ℕ) : Type 0 where
  pub searching : Searching (WrongModulo bound ts) (length ts) i
  pub key : before ≡ key_before ts i
  pub in_range : before ≤ keys

module _ (bound : ℕ) (ts : List ℕ) where
  pub walk_begins : Walked bound ts keys 0
  unfolding key_before
  walk_begins = record { searching = search_begins; key = refl; in_range = omega arith }

  pub walk_ends : (before i : ℕ) → Walked bound ts before i → length ts ≤ i → Searched (WrongModulo bound ts) (length ts) (length ts)
  walk_ends before i h l =
      record { within = omega arith; before = λ k m. h.searching.before k (omega arith); here = λ m. absurd (omega arith) }

  -- at the term with the key k and the coefficient c
  module _ (before i : ℕ) (h : Walked bound ts before i) (l : i < length ts) (k c : ℕ) (ek : k ≡ key_of (get_or ts i 0))
      (ec : c ≡ coefficient_of (get_or ts i 0)) where
    wrong_by : (x y z : Bool) → ltb k before ≡ x → ltb 0 c ≡ y → ltb c bound ≡ z → (x && (y && z)) ≡ false → WrongModulo bound ts i
    wrong_by false y z ex ey ez e = key_is_wrong bound ts i l (omega (arith, h.key, ltb-false k before ex))
    wrong_by true false z ex ey ez e = wrong_term (coefficient_zero l (omega (arith, ltb-false 0 c ey)))
    wrong_by true true false ex ey ez e = coefficient_large l (omega (arith, ltb-false c bound ez))
    wrong_by true true true ex ey ez e = absurd (true≢false e)

    term_right : (ltb k before && (ltb 0 c && ltb c bound)) ≡ true → ¬ WrongModulo bound ts i
    term_right e =
        let coefficient = and_elim_right (ltb k before) _ e in
        term_is_right bound ts i (omega (arith, h.key, h.in_range)) (omega (arith, h.key, ltb-true k before (and_elim_left _ _ e)))
        (omega (arith, ltb-true 0 c (and_elim_left _ _ coefficient)))
        (omega (arith, ltb-true c bound (and_elim_right (ltb 0 c) _ coefficient)))

    pub walk_stops : (ltb k before && (ltb 0 c && ltb c bound)) ≡ false → Searched (WrongModulo bound ts) (length ts) i
    walk_stops e = search_stops h.searching (wrong_by _ _ _ refl refl refl e)

    pub walk_goes_on : (ltb k before && (ltb 0 c && ltb c bound)) ≡ true → Walked bound ts k (i + 1)
    unfolding key_before
    walk_goes_on e =
        record {
          searching = search_goes_on h.searching l (term_right e);
          key = ek ∙ ap (key_before ts) (sym (add-one i));
          in_range = omega (arith, h.in_range, ltb-true k before (and_elim_left _ _ e));
        }
