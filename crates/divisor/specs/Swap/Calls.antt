-- Swapping A and B, where both lists pass: from a result of the one call comes one of the other, and a call has one result.
use Rattle.std.specs.Prelude.{◌≡◌, refl, List, ◌++◌, ℕ, length}
use Rattle.std.proofs.Common.{subst}
use Rattle.field.specs.Numbers.{DOES_NOT_DIVIDE, CEILING_REACHED}
use Rattle.field.specs.Refusal.{Line, Refuses, Passes}
use Rattle.field.specs.Faults.Laws.{passes_append, passes_back, refuses_back, refuses_behind}
use Rattle.field.specs.declared.faults.Fault.{Fault}
use Rattle.poly.specs.Lists.{of_lists}
use Rattle.poly.specs.Room.{of_rooms}
use Rattle.poly.specs.List.Check.{lists_swap}
use Rattle.divisor.specs.Candidate.{Call, of_skeleton, of_points, table, A, B, Numbers, monomials, lent_points, Result, Candidate, refused, answered}
use Rattle.divisor.specs.declared.CandidateRecord.{CandidateRecord}
use Rattle.divisor.specs.Swapped.{swapped, NotAccepted, does_not_divide, ceiling_reached, ToldAlike, same, not_accepted, SwappedAlike, SwapKeeps}
use Rattle.divisor.specs.Swapped.{SwapChangesNothing}
use Rattle.divisor.specs.Swap.Rule.{sorted_swap, answer_swap}
use Rattle.divisor.specs.Ceiling.Steps.{divisor_steps}
use Rattle.divisor.specs.Answer.CandidateDetermined.{result_of, candidate_determined}

module _ (c : Call) (right : Passes (of_lists c.modulus c.first_list c.second_list)) where
  abbrev lists : List Line
  lists = of_lists c.modulus c.first_list c.second_list

  abbrev swapped_lists : List Line
  swapped_lists = of_lists c.modulus c.second_list c.first_list

  -- the lines behind those of the lists, which both calls have
  abbrev later : List Line
  later =
      of_skeleton c.skeleton ++ (of_points c.modulus c.points ++ of_rooms (length c.output) (length c.skeleton) (length c.work))

  swapped_right : Passes swapped_lists
  swapped_right = lists_swap c.modulus c.first_list c.second_list right

  refuses_swapped : (f : Fault) → Refuses (table c) f → Refuses (table (swapped c)) f
  refuses_swapped f h = refuses_back swapped_lists later f swapped_right (refuses_behind lists later f right h)

  passes_swapped : Passes (table c) → Passes (table (swapped c))
  passes_swapped h = passes_append swapped_lists later swapped_right (passes_back lists later h)

  -- a result of the other call
  record OtherResult (r : Result) : Type 0 where
    other : Result
    meets : Candidate (swapped c) other
    alike : SwappedAlike c.ceiling r other

  result_swapped : (r : Result) → Candidate c r → OtherResult r
  result_swapped r (refused f h) = record {
    other = r;
    meets = refused f (refuses_swapped f h);
    alike = record { found = same; same_output = refl; same_work = refl };
  }
  result_swapped r (answered pass listed found G x) =
      let a = answer_swap (Numbers c listed) (A c listed) (B c listed) (monomials c listed) (lent_points c listed) c.ceiling
      (λ d b u k kept s t only.
      let n = divisor_steps (swapped c) (passes_swapped pass) listed
      (record { d = d; bad = b; unlucky = u; first = k; others = kept; sorted = sorted_swap (Numbers c listed) (A c listed) (B c listed) s }) t only.0 in
      (n.steps, n.takes)) found G x in
      record {
        other = result_of (swapped c) listed a.found G;
        meets = answered (passes_swapped pass) listed a.found G a.answer;
        alike = record { found = a.told; same_output = refl; same_work = refl };
      }

-- THE SWAP
pub swap_keeps : (c : Call) → SwapKeeps c
swap_keeps c right r r' meets meets' =
    let o = result_swapped c right r meets in
    subst (SwappedAlike c.ceiling r) (candidate_determined (swapped c) o.other r' o.meets meets') o.alike

-- where neither 15 nor 18 is said, nothing changes
told_same : (ceiling : ℕ) (r r' : CandidateRecord) → ToldAlike ceiling r r' → ¬ (r.fault.number ≡ DOES_NOT_DIVIDE) → ¬ (r.fault.number ≡ CEILING_REACHED)
    → r' ≡ r
told_same ceiling r r' same x y = refl
told_same ceiling r r' (not_accepted h n m k) x y = absurd (neither ceiling r.fault.number r.steps h x y)
  where
    neither : (ceiling n m : ℕ) → NotAccepted ceiling n m → ¬ (n ≡ DOES_NOT_DIVIDE) → ¬ (n ≡ CEILING_REACHED) → ⊥
    neither ceiling n m (does_not_divide k l) x y = x refl
    neither ceiling n m ceiling_reached x y = y refl

pub swap_changes_nothing : (c : Call) → SwapChangesNothing c
swap_changes_nothing c right r r' meets meets' x y =
    let a = swap_keeps c right r r' meets meets' in
    let e = told_same c.ceiling r.found r'.found a.found x y in
    λ i. record { found = e i; output = a.same_output i; work = a.same_work i }
