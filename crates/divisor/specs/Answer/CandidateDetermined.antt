-- The promise of the candidate call settles the record, the output and the work room: two results that meet it are equal. It refutes another list.
use Rattle.std.specs.Prelude.{◌≡◌, refl, List, ◌++◌, ℕ, length}
use Rattle.std.proofs.Common.{subst}
use Rattle.field.specs.Moduli.{Listed}
use Rattle.field.specs.Modulus.Laws.{listed_unique}
use Rattle.field.specs.Numbers.{list_at_fault}
use Rattle.field.specs.Refusal.{Line, RefutesAnotherList}
use Rattle.field.specs.Faults.Laws.{OnePlaceEach, whole_one_place, first_one_place, one_place_append, refuses_determined, not_passes_and_refuses}
use Rattle.field.specs.Faults.Laws.{refuses_names}
use Rattle.poly.specs.Terms.{Polynomial, numbers_of}
use Rattle.poly.specs.Lists.{of_lists}
use Rattle.field.specs.Lent.{written}
use Rattle.poly.specs.Room.{of_rooms, cleared}
use Rattle.poly.specs.List.Check.{lists_one_place}
use Rattle.divisor.specs.declared.CandidateRecord.{CandidateRecord}
use Rattle.divisor.specs.Candidate.{Call, table, prime, Numbers, A, B, monomials, lent_points, AnswerTo, refused_record, Result, Candidate}
use Rattle.divisor.specs.Candidate.{refused, answered, of_skeleton, of_points, of_inputs}
use Rattle.divisor.specs.Rule.{all_bad, some_good}
use Rattle.divisor.specs.Answer.Determined.{answer_determined}

-- each line of the inputs has one place
pub inputs_one_place : (p : ℕ) (A B ks points : List ℕ) (rooms : List Line) → OnePlaceEach rooms → OnePlaceEach (of_inputs p A B ks points rooms)
inputs_one_place p A B ks points rooms h =
    one_place_append (of_lists p A B) (of_skeleton ks ++ (of_points p points ++ rooms)) (lists_one_place p A B)
    (whole_one_place _, (first_one_place _, (whole_one_place _, (first_one_place _, h))))

table_one_place : (c : Call) → OnePlaceEach (table c)
table_one_place c =
    inputs_one_place c.modulus c.first_list c.second_list c.skeleton c.points
    (of_rooms (length c.output) (length c.skeleton) (length c.work)) (whole_one_place _, (whole_one_place _, tt))

abbrev pub result_of : (c : Call) (listed : Listed c.modulus) → CandidateRecord → Polynomial (Numbers c listed) → Result
result_of c listed f G =
    record { found = f; output = written (numbers_of c.modulus (prime c listed) G) c.output; work = cleared c.work }

-- the evidence that the modulus is listed does not matter
answered_determined : (c : Call) (listed listed' : Listed c.modulus) (f g : CandidateRecord) (G : Polynomial (Numbers c listed))
    (H : Polynomial (Numbers c listed'))
    → AnswerTo c listed f G → AnswerTo c listed' g H → result_of c listed f G ≡ result_of c listed' g H
answered_determined c listed listed' f g G H x y =
    (subst (λ (l : Listed c.modulus). (H : Polynomial (Numbers c l)) → AnswerTo c l g H → result_of c listed f G ≡ result_of c l g H)
    (listed_unique _ listed listed')
    (λ H y.
    let e = answer_determined (Numbers c listed) (A c listed) (B c listed) (monomials c listed) (lent_points c listed) c.ceiling f g G H x y in
    λ i. result_of c listed (e.0 i) (e.1 i)))
    H y

pub candidate_determined : (c : Call) (r q : Result) → Candidate c r → Candidate c q → r ≡ q
candidate_determined c r q (refused f h) (refused g k) =
    let e = refuses_determined (table c) (table_one_place c) f g h k in
    λ i. record { found = refused_record (e i); output = c.output; work = c.work }
candidate_determined c r q (refused f h) (answered pass listed g G x) = absurd (not_passes_and_refuses (table c) f pass h)
candidate_determined c r q (answered pass listed f G x) (refused g h) = absurd (not_passes_and_refuses (table c) g pass h)
candidate_determined c r q (answered pass listed f G x) (answered pass' listed' g H y) =
    answered_determined c listed listed' f g G H x y

-- the rule's answer names the list of its number
pub answer_names : (c : Call) (listed : Listed c.modulus) (f : CandidateRecord) (G : Polynomial (Numbers c listed)) → AnswerTo c listed f G
    → f.fault.list ≡ list_at_fault f.fault.number
answer_names c listed f G (all_bad b) = refl
answer_names c listed f G (some_good d b u k kept s number H m v) = refl

pub candidate_another_list : (c : Call) → RefutesAnotherList (λ r. r.found.fault) (Candidate c)
candidate_another_list c r other (refused f h) = other (refuses_names (table c) f h)
candidate_another_list c r other (answered pass listed f G x) = other (answer_names c listed f G x)
