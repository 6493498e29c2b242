-- From what the calls of the routine give back to the promise of the call, where the inputs pass.
use Rattle.std.specs.Prelude.{◌≡◌, List, ℕ, suc, ◌+◌, ◌-◌, ◌*◌, ◌≤◌, ◌<◌, length, get_or, take}
use Rattle.std.proofs.Common.{sym, ◌∙◌, ap, subst, arith}
use Rattle.field.specs.Moduli.{Listed}
use Rattle.field.specs.Prime.{Prime}
use Rattle.field.specs.Fp.{Fp}
use Rattle.field.specs.Refusal.{fault, Passes}
use Rattle.field.specs.declared.faults.Fault.{Fault}
use Rattle.divisor.specs.declared.CandidateRecord.{CandidateRecord}
use Rattle.divisor.specs.declared.table.Solution.{Solution}
use Rattle.divisor.specs.declared.table.Solution.TheVariants.{None, One, Several}
use Rattle.divisor.specs.declared.table.Table.{Table}
use Rattle.divisor.specs.Verdict.Model.{Ruling}
use Rattle.divisor.specs.Rule.{Kept}
use Rattle.divisor.specs.Candidate.{Call, table, prime, Numbers, monomials, Candidate}
use Rattle.divisor.specs.Table.Model.{empty_table, solved}
use Rattle.divisor.specs.Table.Meaning.{added, rows_of, Says}
use Rattle.divisor.specs.Table.Answer.{table_answers, solved_below, solved_length}
use Rattle.divisor.specs.Equations.Rows.{kept_rows, all_rows}
use Rattle.divisor.specs.Equations.Model.{AddsFirst, Solves}
use Rattle.divisor.specs.Equations.Adding.{rows_ready, table_solvable}
use Rattle.divisor.specs.Equations.System.{system_rows}
use Rattle.divisor.specs.Sorting.Model.{sizes_of, least, alike, places_before}
use Rattle.divisor.specs.Points.Model.{Looks}
use Rattle.divisor.specs.Verdict.Model.{NoGoodPoint, VerdictReady, Settles, Settled, OneReady, unsolvable, several, cut_off}
use Rattle.divisor.specs.Verdict.Model.{rejected, accepted}
use Rattle.divisor.specs.Checks.Passed.{point_count, looks_of, right_lists, keys_most, output_fits}
use Rattle.divisor.specs.Sorting.Laws.{least_is}
use Rattle.divisor.specs.Monic.Terms.{AllBelow, all_below}
use Rattle.divisor.specs.Answer.Assembled as assembled
use Rattle.divisor.specs.Sorting.Kept.{SomeGood, KeptPoints, room_after, same_room, sizes_are, columns_fit, kept_points}
use Rattle.divisor.specs.Sorting.Kept.{counted_places, long_places, ready_system, can_solve}

module _ (c : Call) (pass : Passes (table c)) (after sizes : List ℕ)
    (look : Looks (point_count c) c.modulus c.first_list c.second_list c.points c.work after sizes) where
  -- no point is good
  pub nothing_good : least (take (point_count c) sizes) ≡ 0 → (end : List ℕ) (r : CandidateRecord) → NoGoodPoint (point_count c) after end r
      → Candidate c (record { found = r; output = c.output; work = end })
  nothing_good e end r h = subst (Candidate c)
      (λ i. record { found = sym h.is i; output = c.output; work = sym (h.clears ∙ same_room c pass after sizes look) i })
      (assembled.answer_all_bad c pass (right_lists c pass).is_listed
      ((least_is 0 (sizes_of (looks_of c))).zero (ap least (sym (sizes_are c pass after sizes look)) ∙ e)))

-- some point is good
module _ {c : Call} {after sizes : List ℕ} {m count : ℕ} (good : SomeGood c after sizes m count) where
  abbrev p : ℕ
  p = c.modulus

  abbrev pass : Passes (table c)
  pass = good.pass

  abbrev listed : Listed c.modulus
  listed = (right_lists c pass).is_listed

  abbrev P : Prime c.modulus
  P = prime c listed

  abbrev d : ℕ
  d = m - 1

  abbrev kept : KeptPoints c listed after sizes m count
  kept = kept_points good

  abbrev k : Kept (Numbers c listed)
  k = kept.first

  abbrev ks : List (Kept (Numbers c listed))
  ks = kept.others

  abbrev unknowns : ℕ
  unknowns = length c.skeleton + length ks

  abbrev equations : List (List (Fp p))
  equations = all_rows (Numbers c listed) (monomials c listed) k ks

  module _ (places : List ℕ) (at : places ≡ places_before m sizes (point_count c)) where
    -- what a table of the equations says of those of the rule
    module _ (t : Table) (made : AddsFirst (8 * length places) c.modulus (empty_table (length c.skeleton + length places)) c.skeleton c.points
        places after (8 * length places) t) where
      means : rows_of p unknowns made.rows ≡ equations
      means =
          let e = long_places good places at ∙ kept.count_is in
          system_rows P c.skeleton c.points after (places_before m sizes (point_count c)) (ready_system good places at) (omega arith)
          (omega (arith, counted_places good, long_places good places at)) (λ a l. ap (λ (ps : List ℕ). get_or ps a 0) at) made
          ∙ ap (kept_rows (Numbers c listed) (monomials c listed) (length ks)) kept.in_room

      -- what the solution says of the equations of the rule
      says : Says p P unknowns equations (solved p t)
      says =
          let e = long_places good places at in
          let l = (columns_fit good).most in
          let a : length c.skeleton + length places ≡ suc unknowns = omega (arith, kept.count_is) in
          subst (λ (rs : List (List (Fp p))). Says p P unknowns rs (solved p t)) means
          (subst (λ (u : Table). Says p P unknowns (rows_of p unknowns made.rows) (solved p u))
          (sym (made.is ∙ ap (λ (x : ℕ). added p (empty_table x) made.rows) a))
          (table_answers p P unknowns (omega arith) made.rows listed (rows_ready made (ready_system good places at))))

    module _ (s : Solution) (h : Solves c.modulus c.skeleton c.points places after (8 * length places) (length c.skeleton + length places) s) where
      says_as : (x : Solution) → s ≡ x → Says p P unknowns equations x
      says_as x e = subst (Says p P unknowns equations) (sym h.is ∙ e) (says h.table h.made)

      -- the values of the only solution
      module _ (values : List ℕ) (e : s ≡ One values) where
        below : (i : ℕ) → get_or values i 0 < p
        below = solved_below p h.table values (sym h.is ∙ e) (table_solvable (can_solve good places at) h.made).0

        long : length c.skeleton ≤ length values
        long = let q = solved_length p h.table values (sym h.is ∙ e) in let l = keys_most c pass in omega arith

        first_below : AllBelow p (take (length c.skeleton) values)
        first_below = all_below p (length c.skeleton) values below

        one_ready : OneReady p c.skeleton values
        one_ready =
            let g = assembled.list c pass listed d kept.at_least k ks kept.kept_is values (says_as (One values) e) long first_below in
            record { long = long; below = below; makes = record { led = let q = g.led in omega arith; some = g.some; falls = g.falls } }

      pub ready_verdict : VerdictReady c.modulus c.first_list c.second_list c.skeleton s c.output after
      ready_verdict = record {
        lists = right_lists c pass;
        few = keys_most c pass;
        one = one_ready;
        fits = output_fits c pass;
        room = room_after c pass after sizes good.look;
      }

      -- what is settled is the rule's verdict
      settles : (number : ℕ) (terms : List ℕ) (steps : ℕ) → Settles p c.first_list c.second_list c.skeleton s c.ceiling number terms steps
          → Candidate c (assembled.result c pass listed d kept.at_least k ks kept.kept_is number terms steps)
      settles number terms steps (unsolvable e) =
          assembled.answer_none c pass listed d kept.at_least k ks kept.kept_is (says_as None e)
      settles number terms steps (several e) =
          let q = says_as Several e in assembled.answer_several c pass listed d kept.at_least k ks kept.kept_is q.0 q.1 q.2
      settles number terms steps (cut_off values e n t l) =
          assembled.answer_cut c pass listed d kept.at_least k ks kept.kept_is values (says_as (One values) e) (long values e) (first_below values e) n (t P) l
      settles number terms steps (rejected values e n t l h) =
          assembled.answer_rejected c pass listed d kept.at_least k ks kept.kept_is values (says_as (One values) e) (long values e) (first_below values e) n (t P) l (h P)
      settles number terms steps (accepted values e n t l h) =
          assembled.answer_accepted c pass listed d kept.at_least k ks kept.kept_is values (says_as (One values) e) (long values e) (first_below values e) n (t P) l (h P)

      pub answered_so : (bad : ℕ) → bad ≡ alike 0 (take (point_count c) sizes) → {output work : List ℕ} (v : Ruling)
          → Settled c.modulus c.first_list c.second_list c.skeleton s c.ceiling c.output output after work v
          → (f : Fault) → f ≡ fault v.number 0
          → Candidate c (record {
            found = record {
              fault = f;
              degree = m - 1;
              bad = bad;
              unlucky = point_count c - bad - count;
              kept = count;
              terms = v.terms;
              steps = v.steps;
            };
            output = output;
            work = work;
          })
      answered_so bad is_bad v h f e =
          let bads = sym (is_bad ∙ ap (alike 0) (sizes_are c pass after sizes good.look)) in
          let kepts = sym kept.counted in
          subst (Candidate c)
          (λ i. record {
            found = record {
              fault = sym e i;
              degree = d;
              bad = bads i;
              unlucky = point_count c - bads i - kepts i;
              kept = kepts i;
              terms = sym h.count i;
              steps = v.steps;
            };
            output = sym h.writes i;
            work = sym (h.clears ∙ same_room c pass after sizes good.look) i;
          })
          (settles v.number h.terms v.steps h.settles)
