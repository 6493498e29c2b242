-- A computed check of each line decides a table.
use Rattle.std.specs.Prelude.{◌≡◌, refl, ◌⊎◌, List, [], ◌∷◌, ℕ, zero, suc, ◌+◌, ◌≤◌, ◌<◌, T}
use Rattle.std.proofs.Common.{inl, inr, arith}
use Rattle.std.proofs.Math.Decide.{dec_lt}
use Rattle.field.specs.declared.faults.Fault.{Fault}
use Rattle.field.specs.Refusal.{Line, line, placed, first, fault, none, Passes, Tested}
use Rattle.field.specs.Faults.Laws.{tested_line, tested_past, tested_end, numbered, tested_passes}

-- the decision of one of two statements
abbrev pub either_decided : {X Y : Type 0} → Dec X → Dec Y → Dec (X ⊎ Y)
either_decided (yes x) y = yes (inl x)
either_decided (no n) (yes y) = yes (inr y)
either_decided (no n) (no m) = no (λ h. elim h [ inl x ↦ n x | inr y ↦ m y ])

-- what a check of a line finds: the place at which it applies, or that it does not
pub data Check (l : Line) : Type 0 where
  applies : (place : ℕ) → l.given place → Check l
  never : ((place : ℕ) → ¬ l.given place) → Check l

abbrev pub Checks : List Line → Type 0
Checks [] = Unit {0}
Checks (l ∷ lines) = Check l × Checks lines

unfoldable pub placed_check : (number k : ℕ) (X : Type 0) → Dec X → Check (line number (placed k X))
placed_check number k X (yes x) = applies k (x, refl)
placed_check number k X (no n) = never (λ place h. n h.0)

-- the first wrong place is looked for below a bound, from which on nothing is wrong
module _ (number : ℕ) (Wrong : ℕ → Type 0) (wrong : (i : ℕ) → Dec (Wrong i)) (bound : ℕ) (beyond : (i : ℕ) → bound ≤ i → ¬ Wrong i) where
  pub one_more : (i : ℕ) → ((before : ℕ) → before < i → ¬ Wrong before) → ¬ Wrong i → (before : ℕ) → before < suc i → ¬ Wrong before
  one_more i h n before l w = elim (dec_lt before i) [ yes k ↦ h before k w | no k ↦ n (at before (omega arith) w) ]
    where
      at : (j : ℕ) → j ≡ i → Wrong j → Wrong i
      at j e w = rw e at w

  unfoldable pub look : (left i : ℕ) → left + i ≡ bound → ((before : ℕ) → before < i → ¬ Wrong before) → Check (line number (first Wrong))
  look zero i e h =
      never (λ place w. elim (dec_lt place i) [ yes l ↦ h place l w.0 | no l ↦ beyond place (omega arith) w.0 ])
  look (suc left) i e h =
      elim (wrong i) [ yes w ↦ applies i (w, h) | no n ↦ look left (suc i) (omega arith) (one_more i h n) ]

  unfoldable pub first_check : Check (line number (first Wrong))
  unfolding look
  first_check = look bound 0 (omega arith) (λ before l. absurd (omega arith))

-- the fault that a table gives, computed, and that it is the one
unfoldable pub decided : (lines : List Line) → Checks lines → Fault
decided [] cs = none
decided (l ∷ lines) cs = elim cs.0 [ applies place g ↦ fault l.number place | never n ↦ decided lines cs.1 ]

pub decided_tested : (lines : List Line) (cs : Checks lines) → Tested lines (decided lines cs)
unfolding decided
decided_tested [] cs = tested_end refl
decided_tested (l ∷ lines) cs = go cs.0 (decided_tested lines cs.1)
  where
    go : (c : Check l) → Tested lines (decided lines cs.1)
        → Tested (l ∷ lines) (elim c [ applies place g ↦ fault l.number place | never n ↦ decided lines cs.1 ])
    go (applies place g) rest = tested_line place g refl
    go (never n) rest = tested_past n rest

pub decided_passes : (lines : List Line) → T (numbered lines) → (cs : Checks lines) → (decided lines cs).number ≡ 0 → Passes lines
decided_passes lines some cs z = (tested_passes lines some (decided lines cs) (decided_tested lines cs) z).0
