-- How what a service answers is laid out in what a caller of the static library has lent. A record is numbers, in the order of docs/RULE.md: those of its
-- fault, then what the service adds.
use Rattle.std.specs.Prelude.{List, [], ◌∷◌, ℕ}
use Rattle.field.specs.Refusal.{after_fault}
use Rattle.field.specs.declared.faults.Fault.{Fault}
use Rattle.field.specs.Arithmetic.{Answer}
use Rattle.poly.specs.ImageCall.{ImageRecord}
use Rattle.poly.specs.ShorterPart.{Head}
use Rattle.poly.specs.QuotientCall.{QuotientResult}
use Rattle.divisor.specs.Candidate.{Result}
use Rattle.cancel.specs.CancelCall.{CancelResult}
use Rattle.case_file.specs.Handed.{Contents}
use Rattle.case_file.specs.WriteCall.{WriteResult}

-- the promise of a call: what is left is an answer that the service promises, laid out
pub data Laid {Found Left : Type 0} (layout : Found → Left) (Promise : Found → Type 0) : Left → Type 0 where
  laid : (found : Found) → Promise found → Laid layout Promise (layout found)

abbrev pub of_fault : Fault → List ℕ
of_fault f = after_fault f []

-- the number of terms, then which list
abbrev pub of_picked : Head → List ℕ
of_picked r = r.terms ∷ r.list ∷ []

abbrev pub of_answer : Answer → List ℕ
of_answer r = after_fault r.fault (r.element.modulus ∷ r.element.value ∷ [])

-- what a call with an output and a work room leaves
pub record InRooms : Type 0 where
  pub numbers : List ℕ
  pub output : List ℕ
  pub work : List ℕ

abbrev pub of_quotient : QuotientResult → InRooms
of_quotient r = record { numbers = after_fault r.found.fault (r.found.terms ∷ []); output = r.output; work = r.work }

abbrev pub of_candidate : Result → InRooms
of_candidate r =
    let f = r.found in
    record {
      numbers = after_fault f.fault (f.degree ∷ f.bad ∷ f.unlucky ∷ f.kept ∷ f.terms ∷ f.steps ∷ []);
      output = r.output;
      work = r.work;
    }

-- what a call with two outputs and a work room leaves
pub record InThreeRooms : Type 0 where
  pub numbers : List ℕ
  pub numerator_output : List ℕ
  pub denominator_output : List ℕ
  pub work : List ℕ

abbrev pub of_cancel : CancelResult → InThreeRooms
of_cancel r =
    let f = r.found in
    record {
      numbers = after_fault f.fault (f.degree ∷ f.bad ∷ f.unlucky ∷ f.kept ∷ f.numerator ∷ f.denominator ∷ f.steps ∷ []);
      numerator_output = r.numerator_output;
      denominator_output = r.denominator_output;
      work = r.work;
    }

-- the image's eight coefficients have an array of their own
pub record WithCoefficients : Type 0 where
  pub numbers : List ℕ
  pub coefficients : List ℕ

abbrev pub of_image : ImageRecord → WithCoefficients
of_image r = record { numbers = after_fault r.fault (r.degree ∷ []); coefficients = r.coefficients }

-- the reader's four lists have arrays of their own
pub record WithLists : Type 0 where
  pub numbers : List ℕ
  pub first : List ℕ
  pub second : List ℕ
  pub skeleton : List ℕ
  pub points : List ℕ

abbrev pub of_contents : Contents → WithLists
of_contents r =
    record {
      numbers = after_fault r.fault (r.modulus ∷ r.first_count ∷ r.second_count ∷ r.skeleton_count ∷ r.points_count ∷ []);
      first = r.first;
      second = r.second;
      skeleton = r.skeleton;
      points = r.points;
    }

-- what the writer leaves
pub record InBuffer : Type 0 where
  pub numbers : List ℕ
  pub buffer : List ℕ

abbrev pub of_write : WriteResult → InBuffer
of_write r = record { numbers = after_fault r.found.fault (r.found.length ∷ []); buffer = r.buffer }
