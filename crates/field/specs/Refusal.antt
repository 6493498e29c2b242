-- Refusals: a table of lines, tested in order. Each line gives a number, at a place, exactly when something holds. The number says which list is at fault.
use Rattle.std.specs.Prelude.{◌≡◌, ◌⊎◌, List, [], ◌∷◌, ℕ, ◌<◌, get_or, Result, MatchResult}
use Rattle.field.specs.Numbers.{list_at_fault}
use Rattle.field.specs.declared.faults.Fault.{Fault}

pub record Line : Type 1 where
  pub number : ℕ
  pub given : ℕ → Type 0

abbrev pub line : ℕ → (ℕ → Type 0) → Line
line number given = record { number = number; given = given }

-- a line with one stated place
abbrev pub placed : ℕ → Type 0 → ℕ → Type 0
placed stated X place = X × (place ≡ stated)

-- a line whose place is 0
abbrev pub whole : Type 0 → ℕ → Type 0
whole X = placed 0 X

-- a line whose place is the first at which something is wrong
abbrev pub first : (ℕ → Type 0) → ℕ → Type 0
first Wrong place = Wrong place × ((before : ℕ) → before < place → ¬ Wrong before)

abbrev pub fault : ℕ → ℕ → Fault
fault number place = record { number = number; list = list_at_fault number; place = place }

-- acceptance is number 0, list 0, place 0
abbrev pub none : Fault
none = fault 0 0

-- a record told in numbers: those of its fault, then the rest
abbrev pub after_fault : Fault → List ℕ → List ℕ
after_fault f rest = f.number ∷ f.list ∷ f.place ∷ rest

-- the fault that such numbers begin with
abbrev pub fault_in : List ℕ → Fault
fault_in numbers = record { number = get_or numbers 0 0; list = get_or numbers 1 0; place = get_or numbers 2 0 }

-- the first line that applies gives the fault
abbrev pub Refuses : List Line → Fault → Type 0
Refuses [] f = ⊥
Refuses (l ∷ lines) f =
    ((place : ℕ) × (f ≡ fault l.number place) × l.given place) ⊎ (((place : ℕ) → ¬ l.given place) × Refuses lines f)

-- no line applies
abbrev pub Passes : List Line → Type 0
Passes [] = Unit {0}
Passes (l ∷ lines) = ((place : ℕ) → ¬ l.given place) × Passes lines

-- what a test of the lines gives: the fault of the first that applies, or none
pub data Tested (lines : List Line) (f : Fault) : Type 0 where
  refused : Refuses lines f → Tested lines f
  passed : Passes lines → f ≡ none → Tested lines f

-- a check of the lines: it passes, or its error is the fault of the first that applies
abbrev pub Checked : List Line → Result Unit Fault → Type 0
Checked lines r = MatchResult r (λ _. Passes lines) (Refuses lines)

-- A `Result` for what a promise speaks of: that is said of its value, or of its error, which is a fault with a number.
abbrev pub StandsFor : {A B : Type 0} → (Fault → B) → (A → B) → (B → Type 0) → Result A Fault → Type 0
StandsFor of_fault of_value Promise r = MatchResult r (λ v. Promise (of_value v)) (λ f. (0 < f.number) × Promise (of_fault f))

-- a fault that names another list than its number's
abbrev pub AnotherList : Fault → Type 0
AnotherList f = ¬ (f.list ≡ list_at_fault f.number)

-- a promise refutes every result whose fault names another list
abbrev pub RefutesAnotherList : {Result : Type 0} → (Result → Fault) → (Result → Type 0) → Type 0
RefutesAnotherList {Result} fault_of Promise = (r : Result) → AnotherList (fault_of r) → ¬ Promise r
