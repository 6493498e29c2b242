-- The leading part of a list, and the list check beside it: the same tests, without a modulus.
use Rattle.std.specs.Prelude.{◌≡◌, List, [], ◌++◌, length, get_or, ℕ, ◌<◌}
use Rattle.std.specs.Borrow.{Bor}
use Rattle.field.specs.Numbers.{FIRST_COUNT, FIRST_TERM}
use Rattle.field.specs.Refusal.{Line, Refuses, Passes}
use Rattle.field.specs.declared.faults.Fault.{Fault}
use Rattle.poly.specs.Keys.{exponents}
use Rattle.poly.specs.Terms.{key_of}
use Rattle.poly.specs.Lists.{WrongTerm, of_terms}

-- 2, then 3 without a modulus
abbrev pub of_list : List ℕ → List Line
of_list terms = of_terms FIRST_COUNT FIRST_TERM (WrongTerm terms) terms

-- a term's power of x
abbrev pub x_of : ℕ → ℕ
x_of t = (exponents (key_of t)).x

-- head is all terms with the highest power of x, which in a list that falls stand first
pub record IsLeading (terms head : List ℕ) : Type 0 where
  pub rest : List ℕ
  pub parts : terms ≡ head ++ rest
  pub highest : (i : ℕ) → i < length head → x_of (get_or head i 0) ≡ x_of (get_or terms 0 0)
  pub lower : (i : ℕ) → i < length rest → x_of (get_or rest i 0) < x_of (get_or terms 0 0)

-- the terms that come back: on refusal those of the list's empty head
pub data LeadingTerms (terms : List ℕ) : List ℕ → Type 0 where
  refused : (f : Fault) → Refuses (of_list terms) f → LeadingTerms terms []
  answered : (head : List ℕ) → Passes (of_list terms) → IsLeading terms head → LeadingTerms terms head

-- the promise of the leading part: its terms, and that it is the head of the caller's own list, also on refusal
pub record LeadingPart (terms part : Bor (List ℕ)) : Type 0 where
  pub leading : LeadingTerms terms.now part.now
  pub place : part.ref_ptr ≡ terms.ref_ptr
