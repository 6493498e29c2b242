-- What is known of lists that pass the check: they have terms, not too many, and these fall. Such lists pass.
use Rattle.std.specs.Prelude.{◌≡◌, List, ℕ, ◌≤◌, ◌<◌, length}
use Rattle.std.proofs.Common.{inl, inr, arith}
use Rattle.field.specs.Moduli.{Listed}
use Rattle.field.specs.Modulus.Laws.{listed_stable}
use Rattle.field.specs.Numbers.{FIRST_COUNT, FIRST_TERM, SECOND_COUNT, SECOND_TERM}
use Rattle.field.specs.Refusal.{Passes}
use Rattle.field.specs.Faults.Laws.{placed_never, never_placed}
use Rattle.poly.specs.Keys.{keys}
use Rattle.poly.specs.Lists.{most_terms, WrongModulo, of_terms, of_lists, Falling}
use Rattle.poly.specs.List.Laws.{terms_fall}
use Rattle.poly.specs.List.Falling.{falling_right}

pub record RightList (p : ℕ) (ts : List ℕ) : Type 0 where
  pub some : 0 < length ts
  pub most : length ts ≤ most_terms
  pub falls : Falling p keys ts

list_is_right : (count term p : ℕ) (ts : List ℕ) → Passes (of_terms count term (WrongModulo p ts) ts) → RightList p ts
list_is_right count term p ts h =
    let counted = never_placed h.0 in
    record {
      some = let n : ¬ (length ts ≡ 0) = λ e. counted (inl e) in omega arith;
      most = let n : ¬ (most_terms < length ts) = λ l. counted (inr l) in omega arith;
      falls = terms_fall p ts h.1.0;
    }

-- what the lines 1 to 5 leave
pub record RightLists (p : ℕ) (A B : List ℕ) : Type 0 where
  pub is_listed : Listed p
  pub first : RightList p A
  pub second : RightList p B

pub lists_are_right : (p : ℕ) (A B : List ℕ) → Passes (of_lists p A B) → RightLists p A B
lists_are_right p A B h =
    record {
      is_listed = listed_stable p (never_placed h.0);
      first = list_is_right FIRST_COUNT FIRST_TERM p A (h.1.0, (h.1.1.0, tt));
      second = list_is_right SECOND_COUNT SECOND_TERM p B h.1.1.1;
    }

right_list_passes : (count term p : ℕ) (ts : List ℕ) → RightList p ts → Passes (of_terms count term (WrongModulo p ts) ts)
right_list_passes count term p ts h = (
  placed_never λ n. elim n [ inl e ↦ (let l = h.some in omega arith) | inr l ↦ (let m = h.most in omega arith) ],
  (λ place w. falling_right p ts h.falls place w.0, tt),
)

pub right_lists_pass : (p : ℕ) (A B : List ℕ) → RightLists p A B → Passes (of_lists p A B)
right_lists_pass p A B h =
    let first = right_list_passes FIRST_COUNT FIRST_TERM p A h.first in
    (placed_never (λ n. n h.is_listed), (first.0, (first.1.0, right_list_passes SECOND_COUNT SECOND_TERM p B h.second)))
