-- What a solution of the equations settles, in plain numbers: the number, and the terms that are handed out.
use Rattle.std.specs.Prelude.{◌≡◌, ◌↔◌, Result, Ok, Err, Bool, true, List, [], ℕ, ◌≤◌, ◌<◌, length, get_or, take}
use Rattle.field.specs.Prime.{Prime}
use Rattle.field.specs.Modulo.{Modulo}
use Rattle.field.specs.Numbers.{NO_GOOD_POINT, NO_SOLUTION, SEVERAL_SOLUTIONS, DOES_NOT_DIVIDE, CEILING_REACHED}
use Rattle.poly.specs.Keys.{keys}
use Rattle.poly.specs.Terms.{terms_of}
use Rattle.field.specs.Lent.{written}
use Rattle.poly.specs.Room.{work_room, cleared}
use Rattle.poly.specs.TrialDivision.{Trial}
use Rattle.poly.specs.TrialDivision.{CanDivide, Told}
use Rattle.poly.specs.Lists.{Falling}
use Rattle.poly.specs.List.Right.{RightLists}
use Rattle.divisor.specs.declared.CandidateRecord.{CandidateRecord}
use Rattle.divisor.specs.Rule.{none_good, report, DividesBoth, Steps}
use Rattle.divisor.specs.Candidate.{most_keys}
use Rattle.divisor.specs.declared.table.Solution.{Solution}
use Rattle.divisor.specs.declared.table.Solution.TheVariants.{None, One, Several}
use Rattle.divisor.specs.declared.verdict.Accepted.{Accepted}
use Rattle.poly.specs.declared.Stopped.{Stopped}
use Rattle.divisor.specs.Monic.Model.{leading, monic_terms}

-- the list G divides the lists A and B, as polynomials
abbrev pub Both : (p : ℕ) → Prime p → List ℕ → List ℕ → List ℕ → Type 0
Both p P A B G = DividesBoth (Modulo p P) (terms_of p P A) (terms_of p P B) (terms_of p P G)

pub record CanDivideBoth (p : ℕ) (A B G work : List ℕ) : Type 0 where
  pub first : CanDivide p A G work
  pub second : CanDivide p B G work

-- the divisions of A and B by G take n steps
abbrev pub Takes : ℕ → List ℕ → List ℕ → List ℕ → ℕ → Type 0
Takes p A B G n = (P : Prime p) → Steps (Modulo p P) (terms_of p P A) (terms_of p P B) (terms_of p P G) n

-- the steps that both divisions take, and whether G divides both: what is told of them under a ceiling; the work room is cleared
pub record BothDivided (p : ℕ) (A B G : List ℕ) (ceiling : ℕ) (before after : List ℕ) (r : Trial) : Type 0 where
  pub steps : ℕ
  pub takes : Takes p A B G steps
  pub whole : Bool
  pub says : (P : Prime p) → (whole ≡ true) ↔ Both p P A B G
  pub told : Told ceiling steps whole r
  pub room : after ≡ cleared before

-- the coefficients make a divisor: the leading one is not 0, and the terms fall
pub record MakesDivisor (p : ℕ) (ks cs : List ℕ) : Type 0 where
  pub led : 0 < leading cs
  pub some : 0 < length (monic_terms p ks cs)
  pub falls : Falling p keys (monic_terms p ks cs)

-- values of which the first are the coefficients of a divisor
pub record OneReady (p : ℕ) (ks values : List ℕ) : Type 0 where
  pub long : length ks ≤ length values
  pub below : (i : ℕ) → get_or values i 0 < p
  pub makes : MakesDivisor p ks (take (length ks) values)

pub record VerdictReady (p : ℕ) (A B ks : List ℕ) (s : Solution) (output work : List ℕ) : Type 0 where
  pub lists : RightLists p A B
  pub few : length ks ≤ most_keys
  pub one : (values : List ℕ) → s ≡ One values → OneReady p ks values
  pub fits : length ks ≤ length output
  pub room : work_room ≤ length work

-- the divisor's terms, of the values of the only solution
abbrev pub divisor_terms : ℕ → List ℕ → List ℕ → List ℕ
divisor_terms p ks values = monic_terms p ks (take (length ks) values)

-- the number that the solution settles under a ceiling, the terms that are handed out, and the steps taken
pub data Settles (p : ℕ) (A B ks : List ℕ) (s : Solution) (ceiling : ℕ) : ℕ → List ℕ → ℕ → Type 0 where
  unsolvable : s ≡ None → Settles p A B ks s ceiling NO_SOLUTION [] 0
  several : s ≡ Several → Settles p A B ks s ceiling SEVERAL_SOLUTIONS [] 0
  cut_off : (values : List ℕ) → s ≡ One values → (n : ℕ) → Takes p A B (divisor_terms p ks values) n → ceiling < n → Settles p A B ks s ceiling CEILING_REACHED [] ceiling
  rejected : (values : List ℕ) → s ≡ One values → (n : ℕ) → Takes p A B (divisor_terms p ks values) n → n ≤ ceiling
      → ((P : Prime p) → ¬ Both p P A B (divisor_terms p ks values))
      → Settles p A B ks s ceiling DOES_NOT_DIVIDE [] n
  accepted : (values : List ℕ) → s ≡ One values → (n : ℕ) → Takes p A B (divisor_terms p ks values) n → n ≤ ceiling
      → ((P : Prime p) → Both p P A B (divisor_terms p ks values)) → Settles p A B ks s ceiling 0 (divisor_terms p ks values) n

-- what is told of a ruling: the number, the count of the terms that are written, and the steps of division taken
pub record Ruling : Type 0 where
  pub number : ℕ
  pub terms : ℕ
  pub steps : ℕ

abbrev pub ruling : Result Accepted Stopped → Ruling
ruling (Ok a) = record { number = 0; terms = a.terms; steps = a.steps }
ruling (Err s) = record { number = s.number; terms = 0; steps = s.steps }

pub record Settled (p : ℕ) (A B ks : List ℕ) (s : Solution) (ceiling : ℕ) (output output_after work work_after : List ℕ) (r : Ruling) : Type 0 where
  pub terms : List ℕ
  pub settles : Settles p A B ks s ceiling r.number terms r.steps
  pub count : r.terms ≡ length terms
  pub writes : output_after ≡ written terms output
  pub clears : work_after ≡ cleared work

-- a refusal with its number: no term, no step, and the work room cleared
pub record Refused (number : ℕ) (work work_after : List ℕ) (r : Ruling) : Type 0 where
  pub is : r ≡ record { number = number; terms = 0; steps = 0 }
  pub clears : work_after ≡ cleared work

-- what is answered where no point of n is good; the work room is cleared
pub record NoGoodPoint (n : ℕ) (work work_after : List ℕ) (r : CandidateRecord) : Type 0 where
  pub is : r ≡ report NO_GOOD_POINT (none_good n) 0 0
  pub clears : work_after ≡ cleared work
