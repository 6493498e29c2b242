-- The shorter leading part of two lists, and the check beside it: the lines of both lists, without a modulus.
use Rattle.std.specs.Prelude.{◌≡◌, List, [], ◌++◌, length, ℕ, ◌≤◌, ◌<◌}
use Rattle.std.specs.Borrow.{Bor}
use Rattle.field.specs.Numbers.{SECOND_COUNT, SECOND_TERM}
use Rattle.field.specs.Refusal.{Line, Refuses, Passes}
use Rattle.field.specs.declared.faults.Fault.{Fault}
use Rattle.poly.specs.declared.Picked.{Picked}
use Rattle.poly.specs.declared.Picked.TheVariants.{First, Second}
use Rattle.poly.specs.Lists.{WrongTerm, of_terms}
use Rattle.poly.specs.LeadingPart.{of_list, IsLeading}

-- 2 and 3 of the first list, then 4 and 5 of the second, all without a modulus
abbrev pub of_two_lists : List ℕ → List ℕ → List Line
of_two_lists first second = of_list first ++ of_terms SECOND_COUNT SECOND_TERM (WrongTerm second) second

-- which list the shorter leading part is of, 1 or 2, and its terms: the part that has fewer of them, the first one's on a tie;
-- on refusal the empty head of the first list
pub data Shorter (first second : List ℕ) : ℕ → List ℕ → Type 0 where
  refused : (f : Fault) → Refuses (of_two_lists first second) f → Shorter first second 1 []
  of_first : (head other : List ℕ) → Passes (of_two_lists first second) → IsLeading first head → IsLeading second other
      → length head ≤ length other → Shorter first second 1 head
  of_second : (head other : List ℕ) → Passes (of_two_lists first second) → IsLeading second head → IsLeading first other
      → length head < length other → Shorter first second 2 head

-- a part that is told by its list, 1 or 2, and its number of terms
pub record Head : Type 0 where
  pub list : ℕ
  pub terms : ℕ

abbrev pub head_of : Picked → Head
head_of (First n) = record { list = 1; terms = n }
head_of (Second n) = record { list = 2; terms = n }

-- the promise where the part is told so
pub data ShorterHead (first second : List ℕ) : Head → Type 0 where
  picked : (list : ℕ) (head : List ℕ) → Shorter first second list head → ShorterHead first second (record { list = list; terms = length head })

-- the promise where the part itself is handed back: its terms, and that it is the head of the caller's own list, also on refusal
pub data ShorterPart (first second part : Bor (List ℕ)) : Type 0 where
  part_of_first : Shorter first.now second.now 1 part.now → part.ref_ptr ≡ first.ref_ptr → ShorterPart first second part
  part_of_second : Shorter first.now second.now 2 part.now → part.ref_ptr ≡ second.ref_ptr → ShorterPart first second part
