-- The list that a number is about: number by number, and beyond the table.
use Rattle.std.specs.Prelude.{◌≡◌, refl, Bool, true, false, List, [], ◌∷◌, map, ℕ, suc, ◌≤◌, ◌<◌, ltb}
use Rattle.std.proofs.Common.{sym, ap, ◌∙◌, arith, ne_eqb, ltb-true}
use Rattle.std.proofs.Math.Bool.{and-eq-true_iff}
use Rattle.std.proofs.Math.Decide.{dec_lt}
use Rattle.field.specs.Moduli.{among}
use Rattle.field.specs.Numbers.{LIST_NONE, at_fault, list_with, list_at_fault}
use Rattle.field.specs.Modulus.Laws.{every}

-- 2, 3 give 1; 4, 5 give 2; 6, 7 give 3; 8, 9 give 4; 10 gives 5; 11 gives 6; 0 and 1 give 0
pub lists_by_number : map list_at_fault (0 ∷ 1 ∷ 2 ∷ 3 ∷ 4 ∷ 5 ∷ 6 ∷ 7 ∷ 8 ∷ 9 ∷ 10 ∷ 11 ∷ []) ≡ (0 ∷ 0 ∷ 1 ∷ 1 ∷ 2 ∷ 2 ∷ 3 ∷ 3 ∷ 4 ∷ 4 ∷ 5 ∷ 6 ∷ [])
unfolding list_at_fault
lists_by_number = refl

-- a number is not among lower ones
among_lower : (bound number : ℕ) (ms : List ℕ) → bound ≤ number → every (λ m. ltb m bound) ms ≡ true → among number ms ≡ false
among_lower bound number [] h k = refl
among_lower bound number (m ∷ ms) h k =
    let both = (and-eq-true_iff (ltb m bound) (every (λ m. ltb m bound) ms)).0 k in
    let below : m < bound = ltb-true m bound both.0 in
    rw (ne_eqb number m (λ e. omega arith)) (among_lower bound number ms h both.1)

with_lower : (bound number : ℕ) (lists : List (ℕ × List ℕ)) → bound ≤ number → every (λ (l : ℕ × List ℕ). every (λ m. ltb m bound) l.1) lists ≡ true
    → list_with number lists ≡ LIST_NONE
with_lower bound number [] h k = refl
with_lower bound number (l ∷ lists) h k =
    let both = (and-eq-true_iff (every (λ m. ltb m bound) l.1) _).0 k in
    ap (λ (b : Bool). elim b as (λ _. ℕ) [ true ↦ l.0 | false ↦ list_with number lists ]) (among_lower bound number l.1 h both.0)
    ∙ with_lower bound number lists h both.1

-- all others give 0
pub list_none : (number : ℕ) → 12 ≤ number → list_at_fault number ≡ LIST_NONE
unfolding list_at_fault
list_none number h = with_lower 12 number at_fault h refl

-- two numbers, one after the other, that are about one list
pub list_of_two : (k number : ℕ) → k ≤ number → number < suc (suc k) → list_at_fault k ≡ list_at_fault (suc k) → list_at_fault number ≡ list_at_fault k
list_of_two k number h l same = elim (dec_lt number (suc k)) [ yes m ↦ ap list_at_fault (omega arith) | no n ↦ ap list_at_fault (omega arith) ∙ sym same ]
