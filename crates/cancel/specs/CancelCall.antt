-- The Cancel key: what is lent, the refusals in table order, and what is answered and left behind in every case.
use Rattle.std.specs.Prelude.{◌≡◌, ◌⊎◌, List, [], length, ℕ, ◌<◌}
use Rattle.algebra.specs.Field.{Field}
use Rattle.algebra.specs.SeriesRing.{S4}
use Rattle.algebra.specs.Monomial.{polynomial}
use Rattle.field.specs.Prime.{Prime}
use Rattle.field.specs.Fp.{Fp, el}
use Rattle.field.specs.Moduli.{Listed}
use Rattle.field.specs.Modulus.Laws.{listed_prime}
use Rattle.field.specs.Modulo.{Modulo}
use Rattle.field.specs.Lent.{written}
use Rattle.field.specs.Refusal.{Line, Refuses, Passes}
use Rattle.field.specs.declared.case.Case.{Case}
use Rattle.field.specs.declared.faults.Fault.{Fault}
use Rattle.poly.specs.Keys.{keys}
use Rattle.poly.specs.Terms.{Polynomial, terms_of, poly}
use Rattle.poly.specs.Lists.{WrongModulo}
use Rattle.poly.specs.Room.{room_lines, cleared}
use Rattle.divisor.specs.declared.CandidateRecord.{CandidateRecord}
use Rattle.divisor.specs.Candidate.{Call, candidate_call, of_inputs, AnswerTo, refused_record}
use Rattle.divisor.specs.Demands.{LeadsWith, constant}
use Rattle.cancel.specs.declared.CancelRecord.{CancelRecord}

-- what the key is lent, and the ceiling on the steps of division
pub record CancelCall : Type 0 where
  pub modulus : ℕ
  pub numerator : List ℕ
  pub denominator : List ℕ
  pub skeleton : List ℕ
  pub points : List ℕ
  pub ceiling : ℕ
  pub numerator_output : List ℕ
  pub denominator_output : List ℕ
  pub work : List ℕ

-- a call by its parts
abbrev pub cancel_call : ℕ → List ℕ → List ℕ → List ℕ → List ℕ → ℕ → List ℕ → List ℕ → List ℕ → CancelCall
cancel_call p N D skeleton points ceiling numerator_output denominator_output work =
    record {
      modulus = p;
      numerator = N;
      denominator = D;
      skeleton = skeleton;
      points = points;
      ceiling = ceiling;
      numerator_output = numerator_output;
      denominator_output = denominator_output;
      work = work;
    }

-- a call about a case, whose two lists are the numerator and the denominator
abbrev pub call_of : Case → ℕ → List ℕ → List ℕ → List ℕ → CancelCall
call_of c = cancel_call c.modulus c.first.now c.second.now c.skeleton.now c.points.now

-- an output is under 4,096
abbrev pub TooShort : CancelCall → Type 0
TooShort c = (length c.numerator_output < keys) ⊎ (length c.denominator_output < keys)

-- the candidate's table, in its order, with 10 for either output
abbrev pub cancel_table : CancelCall → List Line
cancel_table c =
    of_inputs c.modulus c.numerator c.denominator c.skeleton c.points (room_lines (TooShort c) (length c.work))

-- the candidate's call with the same inputs, the same ceiling and the same work room, and an output for G
abbrev pub divisor_call : CancelCall → List ℕ → Call
divisor_call c output = candidate_call c.modulus c.numerator c.denominator c.skeleton c.points c.ceiling output c.work

module _ (c : CancelCall) (listed : Listed c.modulus) where
  abbrev pub Numbers : Field
  Numbers = Modulo c.modulus (listed_prime listed)

  -- the candidate answers these inputs with this record and with G, whatever output it is lent
  abbrev pub Finds : CandidateRecord → Polynomial Numbers → Type 0
  Finds = AnswerTo (divisor_call c []) listed

module _ (p : ℕ) (P : Prime p) where
  -- f = g q c
  abbrev pub Times : Polynomial (Modulo p P) → List ℕ → Fp p → List ℕ → Type 0
  Times g q c f =
      (S4 (Modulo p P).ring).mul ((S4 (Modulo p P).ring).mul (polynomial (Modulo p P).ring g) (poly p P q)) (constant (Modulo p P) c) ≡ poly p P f

  -- The lists ns and ds are N and D without G: for one number c, N = G N' c and D = G D' c, and D' has the leading coefficient 1. None of their terms
  -- is wrong.
  pub record Reduced (N D : List ℕ) (G : Polynomial (Modulo p P)) (ns ds : List ℕ) : Type 0 where
    pub factor : Fp p
    pub numerator : Times G ns factor N
    pub denominator : Times G ds factor D
    pub monic : LeadsWith (Modulo p P) (el p 1) (terms_of p P ds)
    pub numerator_right : (i : ℕ) → ¬ WrongModulo p ns i
    pub denominator_right : (i : ℕ) → ¬ WrongModulo p ds i

-- what is answered, and the two outputs and the work room afterwards
pub record CancelResult : Type 0 where
  pub found : CancelRecord
  pub numerator_output : List ℕ
  pub denominator_output : List ℕ
  pub work : List ℕ

abbrev pub cancel_result : CancelRecord → List ℕ → List ℕ → List ℕ → CancelResult
cancel_result found numerator_output denominator_output work =
    record { found = found; numerator_output = numerator_output; denominator_output = denominator_output; work = work }

-- the candidate's record, with both counts of terms in place of one
abbrev pub with_both : CandidateRecord → ℕ → ℕ → CancelRecord
with_both r numerator denominator =
    record {
      fault = r.fault;
      degree = r.degree;
      bad = r.bad;
      unlucky = r.unlucky;
      kept = r.kept;
      numerator = numerator;
      denominator = denominator;
      steps = r.steps;
    }

-- the promise of the key
pub data Cancel (c : CancelCall) : CancelResult → Type 0 where
  refused : (f : Fault) → Refuses (cancel_table c) f
      → Cancel c (cancel_result (with_both (refused_record f) 0 0) c.numerator_output c.denominator_output c.work)
  no_divisor : Passes (cancel_table c) → (listed : Listed c.modulus) (found : CandidateRecord)
      (G : Polynomial (Numbers c listed)) → Finds c listed found G → ¬ (found.fault.number ≡ 0)
      → Cancel c (cancel_result (with_both found 0 0) c.numerator_output c.denominator_output (cleared c.work))
  cancelled : Passes (cancel_table c) → (listed : Listed c.modulus) (found : CandidateRecord)
      (G : Polynomial (Numbers c listed)) → Finds c listed found G → found.fault.number ≡ 0
      → (ns ds : List ℕ) → Reduced c.modulus (listed_prime listed) c.numerator c.denominator G ns ds
      → Cancel c (cancel_result (with_both found (length ns) (length ds)) (written ns c.numerator_output) (written ds c.denominator_output)
      (cleared c.work))
