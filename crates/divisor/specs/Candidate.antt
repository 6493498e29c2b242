-- The candidate call: what is lent, the refusals in table order, and what is found and left behind in every case.
use Rattle.std.specs.Prelude.{◌≡◌, ◌⊎◌, List, [], ◌∷◌, ◌++◌, map, length, take, drop, ℕ, ◌*◌, ◌%◌}
use Rattle.algebra.specs.Field.{Field}
use Rattle.algebra.specs.Four.{Exponents}
use Rattle.field.specs.Fp.{el}
use Rattle.field.specs.Prime.{Prime}
use Rattle.field.specs.Moduli.{Listed}
use Rattle.field.specs.Modulus.Laws.{listed_prime}
use Rattle.field.specs.Modulo.{Modulo}
use Rattle.field.specs.Numbers.{SKELETON_COUNT, SKELETON_KEY, POINTS_COUNT, POINT_NUMBER}
use Rattle.field.specs.Refusal.{Line, line, whole, first, Refuses, Passes}
use Rattle.field.specs.declared.case.Case.{Case}
use Rattle.field.specs.declared.faults.Fault.{Fault}
use Rattle.poly.specs.Keys.{exponents, keys}
use Rattle.poly.specs.Terms.{Polynomial, terms_of, numbers_of}
use Rattle.poly.specs.PointValue.{Point}
use Rattle.poly.specs.Lists.{Count, WrongKey, WrongNumber, of_lists}
use Rattle.field.specs.Lent.{written}
use Rattle.poly.specs.Room.{of_rooms, cleared}
use Rattle.divisor.specs.declared.CandidateRecord.{CandidateRecord}
use Rattle.divisor.specs.Rule.{RuleAnswer}

-- what is lent, and the ceiling on the steps of division
pub record Call : Type 0 where
  pub modulus : ℕ
  pub first_list : List ℕ
  pub second_list : List ℕ
  pub skeleton : List ℕ
  pub points : List ℕ
  pub ceiling : ℕ
  pub output : List ℕ
  pub work : List ℕ

-- a call by its parts
abbrev pub candidate_call : ℕ → List ℕ → List ℕ → List ℕ → List ℕ → ℕ → List ℕ → List ℕ → Call
candidate_call p A B skeleton points ceiling output work =
    record { modulus = p; first_list = A; second_list = B; skeleton = skeleton; points = points; ceiling = ceiling; output = output; work = work }

-- a call about a case
abbrev pub call_of : Case → ℕ → List ℕ → List ℕ → Call
call_of c = candidate_call c.modulus c.first.now c.second.now c.skeleton.now c.points.now

abbrev pub most_keys : ℕ
most_keys = 32

abbrev pub most_points : ℕ
most_points = 32

abbrev pub most_point_numbers : ℕ
most_point_numbers = 3 * most_points

-- 8,192: two divisions never take more steps, each one for each key at most
abbrev pub most_steps : ℕ
most_steps = 2 * keys

-- the lines of the skeleton, and of the points
abbrev pub of_skeleton : List ℕ → List Line
of_skeleton ks = line SKELETON_COUNT (whole (Count most_keys ks)) ∷ line SKELETON_KEY (first (WrongKey ks)) ∷ []

abbrev pub of_points : ℕ → List ℕ → List Line
of_points p points =
    line POINTS_COUNT (whole (Count most_point_numbers points ⊎ (¬ (length points % 3 ≡ 0)))) ∷ line POINT_NUMBER (first (WrongNumber p points)) ∷ []

-- the refusals of the inputs, tested in this order, and behind them those of the rooms
abbrev pub of_inputs : ℕ → List ℕ → List ℕ → List ℕ → List ℕ → List Line → List Line
of_inputs p A B ks points rooms = of_lists p A B ++ (of_skeleton ks ++ (of_points p points ++ rooms))

-- of the two rooms only the lengths matter
abbrev pub of_call : ℕ → List ℕ → List ℕ → List ℕ → List ℕ → ℕ → ℕ → List Line
of_call p A B ks points output work = of_inputs p A B ks points (of_rooms output (length ks) work)

abbrev pub of_case : Case → ℕ → ℕ → List Line
of_case c = of_call c.modulus c.first.now c.second.now c.skeleton.now c.points.now

abbrev pub table : Call → List Line
table c = of_call c.modulus c.first_list c.second_list c.skeleton c.points (length c.output) (length c.work)

-- the three numbers of point i
abbrev pub point_at : List ℕ → ℕ → List ℕ
point_at points i = take 3 (drop (3 * i) points)

-- what the point numbers mean modulo p
module _ (p : ℕ) (P : Prime p) where
  unfoldable pub points_of : List ℕ → List (Point (Modulo p P).ring)
  points_of [] = []
  points_of (y ∷ []) = []
  points_of (y ∷ z ∷ []) = []
  points_of (y ∷ z ∷ w ∷ ns) = record { y = el p y; z = el p z; w = el p w } ∷ points_of ns

-- the question that a call asks
module _ (c : Call) (listed : Listed c.modulus) where
  abbrev pub prime : Prime c.modulus
  prime = listed_prime listed

  abbrev pub Numbers : Field
  Numbers = Modulo c.modulus prime

  abbrev pub A : Polynomial Numbers
  A = terms_of c.modulus prime c.first_list

  abbrev pub B : Polynomial Numbers
  B = terms_of c.modulus prime c.second_list

  abbrev pub monomials : List Exponents
  monomials = map exponents c.skeleton

  abbrev pub lent_points : List (Point Numbers.ring)
  lent_points = points_of c.modulus prime c.points

  -- what the rule answers to it
  abbrev pub AnswerTo : CandidateRecord → Polynomial Numbers → Type 0
  AnswerTo = RuleAnswer Numbers A B monomials lent_points c.ceiling

-- what is answered, and the output and the work room afterwards
pub record Result : Type 0 where
  pub found : CandidateRecord
  pub output : List ℕ
  pub work : List ℕ

abbrev pub candidate_result : CandidateRecord → List ℕ → List ℕ → Result
candidate_result found output work = record { found = found; output = output; work = work }

-- the record of a refusal by the table: zeros beside the fault
abbrev pub refused_record : Fault → CandidateRecord
refused_record f = record { fault = f; degree = 0; bad = 0; unlucky = 0; kept = 0; terms = 0; steps = 0 }

-- the promise of the candidate call
pub data Candidate (c : Call) : Result → Type 0 where
  refused : (f : Fault) → Refuses (table c) f
      → Candidate c (candidate_result (refused_record f) c.output c.work)
  answered : Passes (table c) → (listed : Listed c.modulus) (found : CandidateRecord) (G : Polynomial (Numbers c listed)) → AnswerTo c listed found G
      → Candidate c (candidate_result found (written (numbers_of c.modulus (prime c listed) G) c.output) (cleared c.work))

-- the polynomial that is handed out: the terms first in the output
abbrev pub handed_out : (c : Call) (listed : Listed c.modulus) → Result → Polynomial (Numbers c listed)
handed_out c listed r = terms_of c.modulus (prime c listed) (take r.found.terms r.output)
