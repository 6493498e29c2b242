-- The check of one list: what a term's test says; without a modulus the bound is one that no coefficient reaches.
use Rattle.std.specs.Prelude.{◌≡◌, List, map, get_or, Result, Ok, Err}
use Rattle.std.proofs.Math.Path.{refl, ap}
use Rattle.std.proofs.Common.{inl, inr}
use Prim.Native.Nat.{ℕ, zero, suc, ◌≤◌, ◌<◌}
use native.Mathlib.Omega.{arith}
use Rattle.std.proofs.Math.ListN.{length, length-map, get_or-map}
use Rattle.field.specs.Refusal.{Passes, Tested, refused, passed, Checked}
use Rattle.field.specs.Faults.Laws.{OnePlaceEach, whole_one_place, first_one_place, tested_determined, checked_determined}
use Rattle.field.specs.declared.faults.Fault.{Fault}
use Rattle.poly.specs.Keys.{keys}
use Rattle.poly.specs.Terms.{key_of, coefficient_of, coefficient_limit}
use Rattle.poly.specs.Lists.{WrongKey, above, not_below, WrongTerm, wrong_key, coefficient_zero, WrongModulo, wrong_term, coefficient_large}
use Rattle.poly.specs.Lists.{of_terms, of_lists}
use Rattle.poly.specs.LeadingPart.{of_list}
use Rattle.poly.specs.ShorterPart.{of_two_lists}
use Rattle.poly.specs.List.Model.{key_before}

key_at : (ts : List ℕ) (i : ℕ) → get_or (map key_of ts) i 0 ≡ key_of (get_or ts i 0)
key_at ts i = get_or-map key_of ts i 0

-- no term is wrong beyond the list
pub wrong_within : (p : ℕ) (ts : List ℕ) (i : ℕ) → WrongModulo p ts i → i < length ts
wrong_within p ts i (wrong_term (wrong_key (above l m))) = omega (arith, length-map ts key_of)
wrong_within p ts i (wrong_term (wrong_key (not_below j e l m))) = omega (arith, length-map ts key_of)
wrong_within p ts i (wrong_term (coefficient_zero l e)) = l
wrong_within p ts i (coefficient_large l m) = l

pub wrong_beyond : (p : ℕ) (ts : List ℕ) (i : ℕ) → length ts ≤ i → ¬ WrongModulo p ts i
wrong_beyond p ts i l w = omega (arith, wrong_within p ts i w)

-- what the test of the term at i says, where the key before is in range
module _ (bound : ℕ) (ts : List ℕ) (i : ℕ) where
  pub key_is_wrong : i < length ts → key_before ts i ≤ key_of (get_or ts i 0) → WrongModulo bound ts i
  unfolding key_before
  key_is_wrong l h = wrong_term (wrong_key (go i l h))
    where
      go : (i : ℕ) → i < length ts → key_before ts i ≤ key_of (get_or ts i 0) → WrongKey (map key_of ts) i
      go zero l h = above (omega (arith, length-map ts key_of)) (omega (arith, key_at ts 0))
      go (suc j) l h =
          not_below j refl (omega (arith, length-map ts key_of)) (omega (arith, key_at ts j, key_at ts (suc j)))

  pub term_is_right : key_before ts i ≤ keys → key_of (get_or ts i 0) < key_before ts i
      → 0 < coefficient_of (get_or ts i 0) → coefficient_of (get_or ts i 0) < bound → ¬ WrongModulo bound ts i
  unfolding key_before
  term_is_right r h n m (wrong_term (wrong_key (above b a))) = omega (arith, key_at ts i)
  term_is_right r h n m (wrong_term (wrong_key (not_below j e b a))) =
      let q : key_before ts i ≡ key_of (get_or ts j 0) = ap (key_before ts) e in omega (arith, key_at ts i, key_at ts j)
  term_is_right r h n m (wrong_term (coefficient_zero b e)) = omega arith
  term_is_right r h n m (coefficient_large b a) = omega arith

-- without a modulus: no coefficient reaches the bound
module _ (ts : List ℕ) where
  small_coefficient : (i : ℕ) → WrongModulo coefficient_limit ts i → WrongTerm ts i
  small_coefficient i (wrong_term w) = w
  small_coefficient i (coefficient_large l m) = absurd (omega arith)

  pub checked_without_modulus : (count term : ℕ) (r : Result Unit Fault) → Checked (of_terms count term (WrongModulo coefficient_limit ts) ts) r
      → Checked (of_terms count term (WrongTerm ts) ts) r
  checked_without_modulus count term (Ok _) h = (h.0, ((λ i w. h.1.0 i (wrong_term w.0, λ j l v. w.1 j l (small_coefficient j v))), tt))
  checked_without_modulus count term (Err f) (inl h) = inl h
  checked_without_modulus count term (Err f) (inr (n, inl h)) =
      inr (n, inl (h.0, h.1, (small_coefficient h.0 h.2.0, λ j l v. h.2.1 j l (wrong_term v))))
  checked_without_modulus count term (Err f) (inr (n, inr h)) = absurd h.1

  -- and of a fault that a test tells
  pub tested_without_modulus : {count term : ℕ} {f : Fault} → Tested (of_terms count term (WrongModulo coefficient_limit ts) ts) f
      → Tested (of_terms count term (WrongTerm ts) ts) f
  tested_without_modulus {count} {term} {f} (refused h) = refused (checked_without_modulus count term (Err f) h)
  tested_without_modulus {count} {term} (passed h e) = passed (checked_without_modulus count term (Ok tt) h) e

-- two lists that pass do so in either order
pub lists_swap : (p : ℕ) (A B : List ℕ) → Passes (of_lists p A B) → Passes (of_lists p B A)
lists_swap p A B h = (h.0, (h.1.1.1.0, (h.1.1.1.1.0, (h.1.0, (h.1.1.0, tt)))))

-- each line has one place
pub lists_one_place : (p : ℕ) (A B : List ℕ) → OnePlaceEach (of_lists p A B)
lists_one_place p A B =
    (whole_one_place _, (whole_one_place _, (first_one_place _, (whole_one_place _, (first_one_place _, tt)))))

-- the promises of the checks settle their faults
pub lists_check_determined : (p : ℕ) (A B : List ℕ) (f g : Fault) → Tested (of_lists p A B) f → Tested (of_lists p A B) g → f ≡ g
lists_check_determined p A B = tested_determined (of_lists p A B) (lists_one_place p A B)

pub list_check_determined : (ts : List ℕ) (f g : Fault) → Tested (of_list ts) f → Tested (of_list ts) g → f ≡ g
list_check_determined ts = tested_determined (of_list ts) (whole_one_place _, (first_one_place _, tt))

pub two_lists_check_determined : (A B : List ℕ) (f g : Fault) → Tested (of_two_lists A B) f → Tested (of_two_lists A B) g → f ≡ g
two_lists_check_determined A B =
    tested_determined (of_two_lists A B) (whole_one_place _, (first_one_place _, (whole_one_place _, (first_one_place _, tt))))

-- and their results
pub lists_checked_determined : (p : ℕ) (A B : List ℕ) (r q : Result Unit Fault) → Checked (of_lists p A B) r → Checked (of_lists p A B) q → r ≡ q
lists_checked_determined p A B = checked_determined (of_lists p A B) (lists_one_place p A B)

pub list_checked_determined : (ts : List ℕ) (r q : Result Unit Fault) → Checked (of_list ts) r → Checked (of_list ts) q → r ≡ q
list_checked_determined ts = checked_determined (of_list ts) (whole_one_place _, (first_one_place _, tt))

pub two_lists_checked_determined : (A B : List ℕ) (r q : Result Unit Fault) → Checked (of_two_lists A B) r → Checked (of_two_lists A B) q → r ≡ q
two_lists_checked_determined A B =
    checked_determined (of_two_lists A B) (whole_one_place _, (first_one_place _, (whole_one_place _, (first_one_place _, tt))))
