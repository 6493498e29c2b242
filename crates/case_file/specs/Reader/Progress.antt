-- What the reader's loop keeps, in today's format: the arrays hold a case, and reading on from here gives what reading from the start gives.
-- The counts say how many records there are.
use Rattle.std.specs.Prelude.{ℕ, ◌+◌, ◌-◌, ◌%◌, ◌≤◌, ◌<◌, ◌≡◌, refl, List, [], ◌∷◌, get_or, drop}
use Rattle.std.proofs.Common.{sym, ap, ◌∙◌, arith, add-one, length-drop, drop_of_length-le, drop-cons, drop-drop}
use Rattle.std.proofs.Math.Bool.{true}
use Rattle.std.proofs.Math.ListN.{length}
use Rattle.field.specs.Numbers.{NO_END}
use Rattle.case_file.specs.Format.{modulus_kind, first_kind, second_kind, skeleton_kind, point_kind, end_kind}
use Rattle.case_file.specs.Format.{known, follows, kind_of, body, content, today}
use Rattle.case_file.specs.Case.{Case, no_records, added}
use Rattle.case_file.specs.Reading.{whole, refused, fault_number, reading, read_one_in, read_one}
use Rattle.case_file.specs.Handed.{Counts, Gives, counts}
use Rattle.case_file.specs.Record.Room.{held}
use Rattle.case_file.specs.Record.Arrays.{gives}
use Rattle.case_file.specs.Reader.Adding.{Ready, Adds}
use Rattle.case_file.specs.Record.Tests.{Passed, passed, fault_same, not_second}
use Rattle.case_file.specs.Record.Today.{by_kind, range}
use Rattle.case_file.specs.Reader.Steps.{runs_out, passed_over, stops, ends, goes_on}
use Rattle.case_file.specs.Reader.Standing.{Standing, standing_start, standing_more}

module _ (before : ℕ) (c : Case) (s : Standing today before c) (r : Counts) (e : r ≡ counts (whole c 0)) where
  -- if one more may stand here
  counted : before < end_kind → (k : ℕ) → known today k ≡ true → follows today before k ≡ true → held r k ≡ length (c k)
  unfolding kind_of
  counted below k t =
      by_kind (λ (k : ℕ). follows today before k ≡ true → held r k ≡ length (c k)) k (range k t).0 (range k t).1
      (λ o. rw (s.later modulus_kind (omega (arith, not_second today before o))))
      (λ o. rw e (omega (arith, s.even first_kind)))
      (λ o. rw e (omega (arith, s.even second_kind)))
      (λ o. rw e (omega (arith, s.even skeleton_kind)))
      (λ o. rw e (omega (arith, s.even point_kind)))
      (λ o. rw (s.later end_kind below))

  threes : r.points % 3 ≡ 0
  unfolding kind_of
  threes = rw e (omega (arith, s.even point_kind))

pub record Progress (bs : List ℕ) (r : Counts) (first second skeleton points : List ℕ) (before at : ℕ) : Type 0 where
  pub case : Case
  pub given : Gives (whole case 0) r first second skeleton points
  pub standing : Standing today before case
  pub not_ended : before < end_kind
  pub within : at ≤ length bs
  pub same : read_one bs ≡ reading today 0 at before case (drop at bs)

pub begun : {r : Counts} {f s k p : List ℕ} (bs : List ℕ) → Gives (refused 0 0) r f s k p → Progress bs r f s k p 0 0
unfolding read_one_in
begun bs g =
    record {
      case = no_records;
      given = gives g.record_is g.first_is g.second_is g.skeleton_is g.points_is;
      standing = standing_start today;
      not_ended = omega arith;
      within = omega arith;
      same = refl;
    }

module _ {bs : List ℕ} {r : Counts} {f s k p : List ℕ} {before at : ℕ} (q : Progress bs r f s k p before at) where
  pub out : length bs ≤ at → read_one bs ≡ refused NO_END at
  out h = rw (q.same, drop_of_length-le bs h) (runs_out today 0 at before q.case)

  module _ (h : at < length bs) where
    -- the kind byte and the bytes after it
    abbrev kind : ℕ
    kind = get_or bs at 0

    abbrev after : List ℕ
    after = drop (at + 1) bs

    opened : read_one bs ≡ reading today 0 at before q.case (kind ∷ after)
    opened = rw (add-one, ← drop-cons bs at 0 h) q.same

    left : length bs - (at + 1) ≡ length after
    left = rw length-drop (omega arith)

    module _ {e : ℕ} (t : e ≡ fault_number today before kind (held r kind) (length bs - (at + 1))) where
      tests : fault_number today before kind (length (q.case kind)) (length after) ≡ e
      tests =
          rw (← left) (sym (t ∙ fault_same today before kind _ _ _ (counted before q.case q.standing r q.given.record_is q.not_ended kind)))

      pub stopped : (e ≡ 0 → ⊥) → read_one bs ≡ refused e at
      stopped z = opened ∙ stops today at before q.case kind after e tests z

      module _ (z : e ≡ 0) where
        well : Passed today before kind (length (q.case kind)) (length after)
        well = passed today before kind _ _ (tests ∙ z)

        pub ended : kind ≡ end_kind → read_one bs ≡ whole (added kind (content today kind after ∷ []) q.case) (at + 1)
        ended y = opened ∙ ends today at before q.case kind after (tests ∙ z) y

        pub fits_in : at + 1 + body today kind ≤ length bs
        fits_in = omega (arith, well.in_file, left)

        module _ (ne : kind ≡ end_kind → ⊥) where
          pub ready : Ready bs kind (at + 1) r
          ready =
              record {
                low = (range kind well.is_known).0;
                high = omega (arith, (range kind well.is_known).1);
                whole = fits_in;
                room =
                    rw (counted before q.case q.standing r q.given.record_is q.not_ended kind well.is_known well.in_order)
                    well.room;
                threes = threes before q.case q.standing r q.given.record_is;
              }

          pub fresh : kind ≡ modulus_kind → q.case kind ≡ []
          fresh y = q.standing.later kind (omega (arith, not_second today before (rw y at well.in_order)))

          pub carried : {r' : Counts} {f' s' k' p' : List ℕ} → Adds bs kind (at + 1) r r' f s k p f' s' k' p'
              → Progress bs r' f' s' k' p' kind (at + 1 + body today kind)
          carried g =
              record {
                case = added kind (content today kind after ∷ []) q.case;
                given = g q.case q.given fresh;
                standing = standing_more today before kind (length after) q.case after q.standing well;
                not_ended = omega (arith, (range kind well.is_known).1);
                within = fits_in;
                same =
                    opened ∙ goes_on today at before q.case kind after (tests ∙ z) ne
                    ∙ passed_over today (body today kind) (at + 1) kind (added kind (content today kind after ∷ []) q.case) after well.in_file
                    ∙ ap (λ (l : List ℕ). reading today 0 (at + 1 + body today kind) kind (added kind (content today kind after ∷ []) q.case) l)
                    (drop-drop (body today kind) (at + 1) bs);
              }
