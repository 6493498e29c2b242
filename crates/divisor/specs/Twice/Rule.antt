-- A point that is lent once more, at any place behind: the rule's answer has the same number, degree and polynomial, and one more is counted in the
-- point's class.
use Rattle.std.proofs.Common.{sym, subst, arith}
use Rattle.std.specs.Prelude.{List, [], ◌∷◌, length, ℕ, suc, ◌<◌}
use Rattle.algebra.specs.Field.{Field}
use Rattle.algebra.specs.Series.{Seq}
use Rattle.algebra.specs.Four.{Exponents}
use Rattle.field.specs.Numbers.{NO_GOOD_POINT}
use Rattle.poly.specs.Terms.{Polynomial}
use Rattle.poly.specs.PointValue.{Point}
use Rattle.poly.specs.PointImage.{Bad, Image}
use Rattle.poly.specs.Value.Laws.{Bounded}
use Rattle.poly.specs.Image.Laws.{image_small}
use Rattle.divisor.specs.declared.CandidateRecord.{CandidateRecord}
use Rattle.divisor.specs.Rule.{none_good, report, Kept, Sorted, bad, unlucky, keep, AllBad, RuleAnswer, all_bad, some_good}
use Rattle.divisor.specs.Repeated.{OneMore, one_bad, one_unlucky, one_kept}
use Rattle.divisor.specs.Twice.Equations.{Inserted, here, there, Again, behind, later, again_length, repeated_verdict}

module _ (K : Field) (A B : Polynomial K) where
  open K use {ring as R}

  bad_inserted : {at : Point R} {ps qs : List (Point R)} → Bad K A B at → Inserted at ps qs → AllBad K A B ps → AllBad K A B qs
  bad_inserted x here h = (x, h)
  bad_inserted x (there a) h = (h.0, bad_inserted x a h.1)

  bad_there : {at : Point R} {ps qs : List (Point R)} → Again at ps qs → AllBad K A B ps → Bad K A B at
  bad_there (behind a) h = h.0
  bad_there (later b) h = bad_there b h.1

  bad_again : {at : Point R} {ps qs : List (Point R)} → Again at ps qs → AllBad K A B ps → AllBad K A B qs
  bad_again (behind a) h = (h.0, bad_inserted h.0 a h.1)
  bad_again (later b) h = (h.0, bad_again b h.1)

  module _ (d : ℕ) where
    inserted_bad : {at : Point R} {ps qs : List (Point R)} {b u : ℕ} {ks : List (Kept K)} → Bad K A B at
        → Inserted at ps qs → Sorted K A B d ps b u ks → Sorted K A B d qs (suc b) u ks
    inserted_bad x here s = bad x s
    inserted_bad x (there a) (bad y s) = bad y (inserted_bad x a s)
    inserted_bad x (there a) (unlucky f W j m s) = unlucky f W j m (inserted_bad x a s)
    inserted_bad x (there a) (keep W j s) = keep W j (inserted_bad x a s)

    inserted_unlucky : {at : Point R} {ps qs : List (Point R)} {b u : ℕ} {ks : List (Kept K)} (e : ℕ) (U : Seq R) → Image K A B at e U → d < e
        → Inserted at ps qs → Sorted K A B d ps b u ks → Sorted K A B d qs b (suc u) ks
    inserted_unlucky e U i l here s = unlucky e U i l s
    inserted_unlucky e U i l (there a) (bad y s) = bad y (inserted_unlucky e U i l a s)
    inserted_unlucky e U i l (there a) (unlucky f W j m s) = unlucky f W j m (inserted_unlucky e U i l a s)
    inserted_unlucky e U i l (there a) (keep W j s) = keep W j (inserted_unlucky e U i l a s)

    inserted_kept : {at : Point R} {ps qs : List (Point R)} {b u : ℕ} {ks : List (Kept K)} (U : Seq R) → Image K A B at d U → Inserted at ps qs
        → Sorted K A B d ps b u ks
        → (ls : List (Kept K)) × Sorted K A B d qs b u ls × Inserted (record { point = at; image = U }) ks ls
    inserted_kept U i here s = (_, keep U i s, here)
    inserted_kept U i (there a) (bad y s) = let r = inserted_kept U i a s in (r.0, bad y r.1, r.2)
    inserted_kept U i (there a) (unlucky f W j m s) = let r = inserted_kept U i a s in (r.0, unlucky f W j m r.1, r.2)
    inserted_kept U i (there a) (keep W j s) = let r = inserted_kept U i a s in (_, keep W j r.1, there r.2)

    -- the counts and the kept points with one point more, of its class
    data Counted (at : Point R) (b u : ℕ) (ks : List (Kept K)) : ℕ → ℕ → List (Kept K) → Type 0 where
      bad_more : Bad K A B at → Counted at b u ks (suc b) u ks
      unlucky_more : (e : ℕ) (U : Seq R) → Image K A B at e U → d < e → Counted at b u ks b (suc u) ks
      kept_more : {ls : List (Kept K)} (U : Seq R) → Image K A B at d U → Again (record { point = at; image = U }) ks ls → Counted at b u ks b u ls

    -- and with a point before
    counted_bad : {at : Point R} {b u c v : ℕ} {ks ls : List (Kept K)} → Counted at b u ks c v ls → Counted at (suc b) u ks (suc c) v ls
    counted_bad (bad_more x) = bad_more x
    counted_bad (unlucky_more e U i l) = unlucky_more e U i l
    counted_bad (kept_more U i q) = kept_more U i q

    counted_unlucky : {at : Point R} {b u c v : ℕ} {ks ls : List (Kept K)} → Counted at b u ks c v ls → Counted at b (suc u) ks c (suc v) ls
    counted_unlucky (bad_more x) = bad_more x
    counted_unlucky (unlucky_more e U i l) = unlucky_more e U i l
    counted_unlucky (kept_more U i q) = kept_more U i q

    counted_kept : {at : Point R} {b u c v : ℕ} {k : Kept K} {ks ls : List (Kept K)} → Counted at b u ks c v ls → Counted at b u (k ∷ ks) c v (k ∷ ls)
    counted_kept (bad_more x) = bad_more x
    counted_kept (unlucky_more e U i l) = unlucky_more e U i l
    counted_kept (kept_more U i q) = kept_more U i (later q)

    sorted_again : {at : Point R} {ps qs : List (Point R)} {b u : ℕ} {ks : List (Kept K)} → Again at ps qs → Sorted K A B d ps b u ks
        → (c v : ℕ) × (ls : List (Kept K)) × Sorted K A B d qs c v ls × Counted at b u ks c v ls
    sorted_again (behind a) (bad x s) = (_, _, _, bad x (inserted_bad x a s), bad_more x)
    sorted_again (behind a) (unlucky e U i l s) =
        (_, _, _, unlucky e U i l (inserted_unlucky e U i l a s), unlucky_more e U i l)
    sorted_again (behind a) (keep U i s) =
        let r = inserted_kept U i a s in (_, _, _, keep U i r.1, kept_more U i (behind r.2))
    sorted_again (later q) (bad x s) = let r = sorted_again q s in (_, _, _, bad x r.3, counted_bad r.4)
    sorted_again (later q) (unlucky e U i l s) =
        let r = sorted_again q s in (_, _, _, unlucky e U i l r.3, counted_unlucky r.4)
    sorted_again (later q) (keep U i s) = let r = sorted_again q s in (_, _, _, keep U i r.3, counted_kept r.4)

  -- an answer that differs in one count of points alone
  pub record AnsweredAlike (es : List Exponents) (at : Point R) (points : List (Point R)) (ceiling : ℕ) (r : CandidateRecord) (G : Polynomial K) : Type 0 where
    pub found : CandidateRecord
    pub answer : RuleAnswer K A B es points ceiling found G
    pub one_more : OneMore K A B at r found

  pub repeated_point : Bounded K A → Bounded K B → (es : List Exponents) {at : Point R} {ps qs : List (Point R)} → Again at ps qs
      → (ceiling : ℕ) (r : CandidateRecord) (G : Polynomial K) → RuleAnswer K A B es ps ceiling r G → AnsweredAlike es at qs ceiling r G
  repeated_point first second es {at} {ps} {qs} a ceiling r G (all_bad h) = record {
    found = report NO_GOOD_POINT (none_good (length qs)) 0 0;
    answer = all_bad (bad_again a h);
    one_more = subst (λ (n : ℕ). OneMore K A B at (report NO_GOOD_POINT (none_good (length ps)) 0 0) (report NO_GOOD_POINT (none_good n) 0 0))
        (sym (again_length a)) (one_bad (bad_there a h));
  }
  repeated_point first second es {at} {ps} {qs} a ceiling r G (some_good d b u k kept s n H m v) =
      let t = sorted_again d a s in go t.0 t.1 t.2 t.3 t.4
    where
      told : ℕ → CandidateRecord
      told c = report n (record { d = d; bad = b; unlucky = u; kept = c }) (length H) m

      before : CandidateRecord
      before = told (length (k ∷ kept))

      kept_once_more : (ls : List (Kept K)) (U : Seq R) → Image K A B at d U → Again (record { point = at; image = U }) (k ∷ kept) ls
          → Sorted K A B d qs b u ls → AnsweredAlike es at qs ceiling before H
      kept_once_more [] U i q t = absurd (let e = again_length q in omega arith)
      kept_once_more (l ∷ ls) U i q t = record {
        found = told (length (l ∷ ls));
        answer = some_good d b u l ls t n H m
            ((repeated_verdict K A B es q d (image_small K A B at d U first second i) i.monic.leads ceiling n H m).0 v);
        one_more = subst (λ (c : ℕ). OneMore K A B at before (told c)) (sym (again_length q)) (one_kept U i);
      }

      go : (c w : ℕ) (ls : List (Kept K)) → Sorted K A B d qs c w ls → Counted d at b u (k ∷ kept) c w ls → AnsweredAlike es at qs ceiling before H
      go c w ls t (bad_more x) = record { found = _; answer = some_good d c w k kept t n H m v; one_more = one_bad x }
      go c w ls t (unlucky_more e U i l) =
          record { found = _; answer = some_good d c w k kept t n H m v; one_more = one_unlucky e U i l }
      go c w ls t (kept_more U i q) = kept_once_more ls U i q t
