-- What was read is what a case's written form begins with, and the case can be stored: at each record the bytes passed are
-- the records of the case so far (`Stored`).
use Prim.Native.Nat.{ℕ, zero, suc, ◌+◌, ◌≤◌, ◌<◌}
use Rattle.std.specs.Prelude.{◌≡◌, drop}
use Rattle.std.proofs.Math.Path.{refl, sym}
use Rattle.std.proofs.Common.{ap, ◌∙◌, arith, take-append-drop}
use Rattle.std.proofs.Math.Bool.{true}
use mathlib.Core.List.{List, [], ◌∷◌, ◌++◌, append_assoc, append-nil}
use Rattle.std.proofs.Math.ListN.{length, length-append}
use Rattle.field.specs.Numbers.{NO_END}
use Rattle.case_file.specs.Format.{Format, WellFormed, base, first_byte, last_byte, order, member, known, rises, widths, body, content}
use Rattle.case_file.specs.Case.{Case, no_records, added}
use Rattle.case_file.specs.Reading.{Reading, whole, reading, read_one_in}
use Rattle.case_file.specs.Written.{packed, records, in_order, file_of, Below, EachFits, Storable}
use Rattle.case_file.specs.Record.Tests.{risen, by_member, Passed, passed, not_first, not_below}
use Rattle.case_file.specs.Record.Packing.{packed_numbers, numbers_fit}
use Rattle.case_file.specs.Reader.Steps.{refused_no_case, by_record}
use Rattle.case_file.specs.Reader.Added.{added_own, added_other, added_each}
use Rattle.case_file.specs.Reader.Standing.{Standing, standing_start, standing_more}
use Rattle.case_file.specs.Reader.RoundTrip.{read_one_of_written}

each_append : (ws : List ℕ) (rs ss : List (List ℕ)) → EachFits ws rs → EachFits ws ss → EachFits ws (rs ++ ss)
each_append ws [] ss b d = d
each_append ws (ns ∷ rs) ss b d = (b.0, each_append ws rs ss b.1 d)

module _ (f : Format) where
  records_append : (k : ℕ) (rs ss : List (List ℕ)) → records f k (rs ++ ss) ≡ records f k rs ++ records f k ss
  unfolding records
  records_append k [] ss = refl
  records_append k (ns ∷ rs) ss = rw (records_append k rs ss, append_assoc)

  -- where no kind above n has records
  in_order_none : (n : ℕ) (ks : List ℕ) (c : Case) → rises n ks ≡ true → ((j : ℕ) → n < j → c j ≡ []) → in_order f ks c ≡ []
  unfolding in_order records
  in_order_none n [] c r later = refl
  in_order_none n (k ∷ ks) c r later =
      let t = risen n k ks r in
      rw (later k t.0) (in_order_none k ks c t.1 (λ j h. later j (omega (arith, t.0))))

  -- a record of a kind after which no kind has records stands last
  in_order_more : (k : ℕ) (ns : List ℕ) (c : Case) → ((j : ℕ) → k < j → c j ≡ []) → (ks : List ℕ) → member k ks ≡ true → (n : ℕ) → rises n ks ≡ true
      → in_order f ks (added k (ns ∷ []) c) ≡ in_order f ks c ++ k ∷ packed (widths f k) ns
  unfolding in_order records
  in_order_more k ns c later =
      by_member k (λ (ks : List ℕ). (n : ℕ) → rises n ks ≡ true
      → in_order f ks (added k (ns ∷ []) c) ≡ in_order f ks c ++ k ∷ packed (widths f k) ns)
      (λ ks n r.
      let up = (risen n k ks r).1 in
      let more = in_order_none k ks (added k (ns ∷ []) c) up (λ i h. added_other k (ns ∷ []) c i (λ q. omega arith) ∙ later i h) in
      rw (in_order_none k ks c up later, more, added_own, records_append, append-nil, append-nil, append-nil))
      (λ j ks ne ih n r. rw (added_other k (ns ∷ []) c j ne, ih j (risen n j ks r).1, append_assoc))

  -- where reading stands: the bytes passed are the records of the case so far
  record Stored (before : ℕ) (c : Case) (done : List ℕ) : Type 0 where
    standing : Standing f before c
    exact : done ≡ file_of f c
    bodies : (j : ℕ) → EachFits (widths f j) (c j)
    begun : 1 ≤ before → 1 ≤ length (c (first_byte f))

module _ (f : Format) (w : WellFormed f) where
  stored_start : Stored f 0 no_records []
  unfolding file_of
  stored_start =
      record {
        standing = standing_start f;
        exact = sym (in_order_none f 0 (order f) no_records w.rising (λ j h. refl));
        bodies = λ j. tt;
        begun = λ h. absurd (omega arith);
      }

  module _ (before k m : ℕ) (c : Case) (bs done : List ℕ) (s : Stored f before c done) (p : Passed f before k (length (c k)) m) where
    has_first : 1 ≤ length (added k (content f k bs ∷ []) c (first_byte f))
    has_first =
        added_each k (content f k bs ∷ []) c (λ (j : ℕ) (rs : List (List ℕ)). j ≡ first_byte f → 1 ≤ length rs)
        (λ e. rw length-append (omega arith))
        (λ j ne e. rw e (s.begun (not_first f before k p.in_order (λ q. ne (e ∙ sym q)))))
        (first_byte f) refl

    stored_more : Below base bs → Stored f k (added k (content f k bs ∷ []) c) (done ++ k ∷ packed (widths f k) (content f k bs))
    unfolding file_of known
    stored_more b =
        let up : before ≤ k = not_below f before k p.in_order in
        let later : (j : ℕ) → k < j → c j ≡ [] = λ j h. s.standing.later j (omega arith) in
        record {
          standing = standing_more f before k m c bs s.standing p;
          exact = rw (s.exact, in_order_more f k (content f k bs) c later (order f) p.is_known 0 w.rising);
          bodies =
              added_each k (content f k bs ∷ []) c (λ (j : ℕ) (rs : List (List ℕ)). EachFits (widths f j) rs)
              (each_append (widths f k) (c k) (content f k bs ∷ []) (s.bodies k) (numbers_fit (widths f k) bs b, tt))
              (λ j ne. s.bodies j);
          begun = λ h. has_first;
        }

  -- what was read is the written form of the case, and what stands after it
  record Back (done bs : List ℕ) (c : Case) : Type 0 where
    rest : List ℕ
    same : done ++ bs ≡ file_of f c ++ rest
    storable : Storable f c

  module _ (before k : ℕ) (c : Case) (bs done : List ℕ) (s : Stored f before c done) (b : Below base bs) (p : Passed f before k (length (c k)) (length bs))
      (c' : Case) where
    -- a record's bytes are its kind and its numbers
    onward : Back (done ++ k ∷ packed (widths f k) (content f k bs)) (drop (body f k) bs) c' → Back done (k ∷ bs) c'
    onward r =
        record {
          rest = r.rest;
          same = rw (packed_numbers (widths f k) bs p.in_file b, append_assoc, take-append-drop) at r.same;
          storable = r.storable;
        }

    -- after the end record the case can be stored
    at_end : k ≡ last_byte f → added k (content f k bs ∷ []) c ≡ c' → Back done (k ∷ bs) c'
    at_end e q =
        let t : Stored f k c' (done ++ k ∷ packed (widths f k) (content f k bs)) = rw q at (stored_more before k (length bs) c bs done s p b) in
        let begun : 1 ≤ length (c' (first_byte f)) = rw q at (has_first before k (length bs) c bs done s p) in
        let ended : 1 ≤ length (c' (last_byte f)) = rw (← q, ← e, added_own, length-append) (omega arith) in
        onward (record {
          rest = drop (body f k) bs;
          same = rw t.exact;
          storable =
              record {
                within = t.standing.within;
                bodies = t.bodies;
                one_first = omega (arith, t.standing.within (first_byte f), w.one_first);
                one_last = omega (arith, t.standing.within (last_byte f), w.one_last);
              };
        })

  back : (c' : Case) (n s at before : ℕ) (c : Case) (bs done : List ℕ) → Stored f before c done → Below base bs → reading f s at before c bs ≡ whole c' n
      → Back done (drop s bs) c'
  unfolding reading
  back c' n zero at before c [] done t b e = absurd (refused_no_case NO_END at c' n e)
  back c' n (suc s) at before c [] done t b e = absurd (refused_no_case NO_END at c' n e)
  back c' n (suc s) at before c (x ∷ bs) done t b e = back c' n s (at + 1) before c bs done t b.1 e
  back c' n zero at before c (k ∷ bs) done t b e =
      by_record f at before c k bs (λ (o : Reading). o ≡ whole c' n → Back done (k ∷ bs) c')
      (λ x h z w. absurd (refused_no_case x at c' n w))
      (λ h q w. at_end before k c bs done t b.1 (passed f before k _ _ h) c' q (cc))
      (λ h q w.
      let p = passed f before k _ _ h in
      onward before k c bs done t b.1 p c'
      (back c' n (body f k) (at + 1) k (added k (content f k bs ∷ []) c) bs _ (stored_more before k (length bs) c bs done t p b.1) b.1 w))
      e

  -- what was read is the written form of a case that can be stored, with what stands after it; reading stops after the case
  pub written_of_read_one : (bs : List ℕ) (c : Case) (n : ℕ) → Below base bs → read_one_in f bs ≡ whole c n
      → (rest : List ℕ) × (bs ≡ file_of f c ++ rest) × (n + length rest ≡ length bs) × Storable f c
  unfolding read_one_in
  written_of_read_one bs c n b e =
      let r = back c n 0 0 0 no_records bs [] stored_start b e in
      let again : whole c (length (file_of f c)) ≡ whole c n = sym (read_one_of_written f w c r.storable r.rest) ∙ rw (← r.same) e in
      let l : length (file_of f c) ≡ n = cc in
      (r.rest, r.same, omega (arith, simp length-append at (ap length r.same)), r.storable)
