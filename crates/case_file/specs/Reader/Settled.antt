-- A file's first bytes settle what it says, in any format: the records of a case are few, so that longer input can be cut. By the bytes that
-- records can still take (`room`).
use Prim.Native.Nat.{ℕ, zero, suc, ◌+◌, ◌-◌, ◌*◌, ◌≤◌, ◌<◌}
use Rattle.std.specs.Prelude.{◌≡◌, Bool, leb}
use Rattle.std.proofs.Math.Path.{refl, ap}
use Rattle.std.proofs.Common.{sym, ◌∙◌, mul-suc, le-leb, leb-true, leb-false, length-take}
use Rattle.std.proofs.Math.Bool.{true, false}
use mathlib.Core.List.{List, [], ◌∷◌, ◌++◌, map}
use Rattle.std.proofs.Math.Nat.{sub-zero, mul-le-mul_left}
use native.Mathlib.Omega.{arith}
use Rattle.std.proofs.lemmas.Bool.{lt-leb}
use Rattle.std.proofs.Math.ListN.{length, take, length-append}
use Rattle.std.proofs.Math.Seq.{take-nil}
use Rattle.field.specs.Numbers.{NO_END}
use Rattle.case_file.specs.Format.{Kind, Format, order, member, known, widths, limit, sum, body, content, fullest, greatest, enough}
use Rattle.case_file.specs.Case.{Case, no_records, added}
use Rattle.case_file.specs.Reading.{Reading, whole, refused, fault_number, reading, read_one_in, alone, read_in}
use Rattle.case_file.specs.Record.Tests.{by_member, at_most_greatest, unknown_kind, Passed, passed}
use Rattle.case_file.specs.Record.Packing.{numbers_take}
use Rattle.case_file.specs.Reader.Steps.{refused_no_case, stops, ends, goes_on, by_record}
use Rattle.case_file.specs.Reader.Added.{added_own, added_other, added_each}
use Rattle.case_file.specs.Reader.Alone.{alone_whole}

-- a length that is not beyond the cut is reached by both or by neither
leb_take : (x m : ℕ) (bs : List ℕ) → x ≤ m → leb x (length (take m bs)) ≡ leb x (length bs)
leb_take x m bs h = go (leb x (length bs)) refl
  where
    go : (b : Bool) → leb x (length bs) ≡ b → leb x (length (take m bs)) ≡ leb x (length bs)
    go true e = le-leb x (length (take m bs)) (rw length-take (omega (arith, leb-true x (length bs) e))) ∙ sym e
    go false e = lt-leb x (length (take m bs)) (rw length-take (omega (arith, leb-false x (length bs) e))) ∙ sym e

-- one factor less
less_one : (b l n : ℕ) → n < l → b * (l - suc n) + b ≡ b * (l - n)
less_one b l n h =
    let e : l - n ≡ suc (l - suc n) = omega arith in
    rw (e, mul-suc)

module _ (f : Format) where
  -- the length of the longest body
  abbrev longest : ℕ
  longest = greatest (map (body f) (order f))

  body_small : (k : ℕ) → body f k ≤ longest
  unfolding known
  body_small k = go (known f k) refl
    where
      go : (b : Bool) → known f k ≡ b → body f k ≤ longest
      go true e = at_most_greatest (body f) k (order f) e
      go false e = let z : body f k ≡ 0 = ap (λ (j : Kind). sum j.widths) (unknown_kind f k e) in omega arith

  -- the bytes that further records of the kinds ks can take
  room : List ℕ → Case → ℕ
  room [] c = 0
  room (k ∷ ks) c = (1 + body f k) * (limit f k - length (c k)) + room ks c

  module _ (k : ℕ) (ns : List ℕ) (c : Case) where
    room_less : (ks : List ℕ) → room ks (added k (ns ∷ []) c) ≤ room ks c
    unfolding room
    room_less [] = omega arith
    room_less (j ∷ ks) =
        let l : length (c j) ≤ length (added k (ns ∷ []) c j) =
        added_each k (ns ∷ []) c (λ (i : ℕ) (rs : List (List ℕ)). length (c i) ≤ length rs) (rw length-append (omega arith)) (λ i ne. omega arith) j in
        let m : limit f j - length (added k (ns ∷ []) c j) ≤ limit f j - length (c j) = omega arith in
        omega (arith, mul-le-mul_left (1 + body f j) m, room_less ks)

    -- a record takes its bytes from those that are left
    spent : length (c k) < limit f k → (ks : List ℕ) → member k ks ≡ true → room ks (added k (ns ∷ []) c) + (1 + body f k) ≤ room ks c
    unfolding room
    spent h =
        let l : length (c k ++ ns ∷ []) ≡ suc (length (c k)) = rw length-append (omega arith) in
        by_member k (λ (ks : List ℕ). room ks (added k (ns ∷ []) c) + (1 + body f k) ≤ room ks c)
        (λ ks. rw (added_own, l) (omega (arith, less_one (1 + body f k) (limit f k) (length (c k)) h, room_less ks)))
        (λ j ks ne ih. rw (added_other k (ns ∷ []) c j ne) (omega arith))

  room_start : (ks : List ℕ) → room ks no_records ≡ sum (map (λ (k : ℕ). (1 + body f k) * limit f k) ks)
  unfolding room
  room_start [] = refl
  room_start (k ∷ ks) = rw (sub-zero, room_start ks)

  -- the bytes that records can still take
  abbrev left : Case → ℕ
  left c = room (order f) c

  takes : (before k m : ℕ) (c : Case) (ns : List ℕ) → Passed f before k (length (c k)) m → left (added k (ns ∷ []) c) + (1 + body f k) ≤ left c
  unfolding known
  takes before k m c ns p = spent k ns c p.room (order f) p.is_known

  fault_take : (before k n m : ℕ) (bs : List ℕ) → body f k ≤ m → fault_number f before k n (length (take m bs)) ≡ fault_number f before k n (length bs)
  unfolding fault_number
  fault_take before k n m bs h = rw (leb_take (body f k) m bs h)

  -- reading looks at no byte beyond those that are left and one record
  cut : (s at before : ℕ) (c : Case) (bs : List ℕ) (m : ℕ) → s + left c + (1 + longest) ≤ m → reading f s at before c (take m bs) ≡ reading f s at before c bs
  unfolding reading
  cut zero at before c [] m h = rw take-nil
  cut (suc s) at before c [] m h = rw take-nil
  cut zero at before c (k ∷ bs) zero h = absurd (omega arith)
  cut (suc s) at before c (b ∷ bs) zero h = absurd (omega arith)
  cut (suc s) at before c (b ∷ bs) (suc m) h = cut s (at + 1) before c bs m (omega arith)
  cut zero at before c (k ∷ bs) (suc m) h =
      let w : body f k ≤ m = omega (arith, body_small k) in
      let t = fault_take before k (length (c k)) m bs w in
      let n : content f k (take m bs) ≡ content f k bs = numbers_take (widths f k) m bs w in
      by_record f at before c k bs (λ (o : Reading). reading f 0 at before c (k ∷ take m bs) ≡ o)
      (λ e u z. stops f at before c k (take m bs) e (t ∙ u) z)
      (λ u q. ends f at before c k (take m bs) (t ∙ u) q ∙ ap (λ (ns : List ℕ). whole (added k (ns ∷ []) c) (at + 1)) n)
      (λ u q.
      goes_on f at before c k (take m bs) (t ∙ u) q
      ∙ ap (λ (ns : List ℕ). reading f (body f k) (at + 1) k (added k (ns ∷ []) c) (take m bs)) n
      ∙ cut (body f k) (at + 1) k (added k (content f k bs ∷ []) c) bs m
      (omega (arith, takes before k (length bs) c (content f k bs) (passed f before k _ _ u))))

  ends_by : (c' : Case) (n s at before : ℕ) (c : Case) (bs : List ℕ) → reading f s at before c bs ≡ whole c' n → n ≤ at + s + left c
  unfolding reading
  ends_by c' n zero at before c [] e = absurd (refused_no_case NO_END at c' n e)
  ends_by c' n (suc s) at before c [] e = absurd (refused_no_case NO_END at c' n e)
  ends_by c' n (suc s) at before c (b ∷ bs) e = omega (arith, ends_by c' n s (at + 1) before c bs e)
  ends_by c' n zero at before c (k ∷ bs) e =
      by_record f at before c k bs (λ (o : Reading). o ≡ whole c' n → n ≤ at + 0 + left c)
      (λ x t z w. absurd (refused_no_case x at c' n w))
      (λ t q w.
      let l : at + 1 ≡ n = cc in
      omega (arith, takes before k (length bs) c (content f k bs) (passed f before k _ _ t)))
      (λ t q w. omega (
        arith,
        ends_by c' n (body f k) (at + 1) k (added k (content f k bs ∷ []) c) bs w,
        takes before k (length bs) c (content f k bs) (passed f before k _ _ t),
      ))
      e

  module _ (bs : List ℕ) where
    end_early : (c : Case) (n : ℕ) → read_one_in f bs ≡ whole c n → n ≤ fullest f
    unfolding read_one_in
    end_early c n e = omega (arith, ends_by c n 0 0 0 no_records bs e, room_start (order f))

    -- an accepted file is not longer than the fullest
    pub never_longer : (c : Case) (n : ℕ) → read_in f bs ≡ whole c n → length bs ≤ fullest f
    unfolding read_in
    never_longer c n e =
        let a = alone_whole (length bs) (read_one_in f bs) c n e in
        omega (arith, a.1, end_early c n a.0)

    module _ (m : ℕ) (h : enough f ≤ m) where
      -- the case at the start of the bytes
      pub settled_one : read_one_in f (take m bs) ≡ read_one_in f bs
      unfolding read_one_in
      settled_one = cut 0 0 0 no_records bs m (omega (arith, room_start (order f)))

      -- a case file
      pub settled : read_in f (take m bs) ≡ read_in f bs
      unfolding read_in alone
      settled = rw settled_one (go (read_one_in f bs) refl)
        where
          go : (o : Reading) → read_one_in f bs ≡ o → alone (length (take m bs)) o ≡ alone (length bs) o
          go (refused e i) s = refl
          go (whole c n) s =
              let a : suc n ≤ m = omega (arith, end_early c n s) in
              rw (alone, leb_take (suc n) m bs a)
