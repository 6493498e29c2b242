-- Reading what is written gives the case, whatever stands after it: reading comes through the records of one kind after another, and the
-- case read so far has all records but those of the kinds still to come (`Partly`).
use Prim.Native.Nat.{ℕ, suc, ◌+◌, ◌≤◌, ◌<◌}
use Rattle.std.specs.Prelude.{◌≡◌, true, false}
use Rattle.std.proofs.Math.Path.{refl, sym, fun_ext}
use Rattle.std.proofs.Common.{ap, ◌∙◌, add-zero, arith, ne_eqb, drop_of_length-le}
use mathlib.Core.List.{List, [], ◌∷◌, ◌++◌, append_assoc, append-nil}
use Rattle.std.proofs.Math.ListN.{length, length-append}
use Rattle.std.proofs.Math.Seq.{drop_at}
use Rattle.case_file.specs.Format.{Kind, Format, WellFormed, first_byte, last_byte, bytes_of, order, member, known, rises, widths, limit, body, follows}
use Rattle.case_file.specs.Case.{Case, no_records, added}
use Rattle.case_file.specs.Reading.{Reading, whole, reading, read_one_in}
use Rattle.case_file.specs.Written.{packed, records, in_order, file_of, Fits, EachFits, Storable}
use Rattle.case_file.specs.Record.Tests.{risen, unknown_kind, room_known, may_follow, may_begin, passes}
use Rattle.case_file.specs.Record.Packing.{length_packed, fits_length, numbers_packed}
use Rattle.case_file.specs.Reader.Steps.{passed_over, goes_on, ends}
use Rattle.case_file.specs.Reader.Added.{added_own, added_other, added_each, added_none, added_twice}

-- a list of one record
single : (rs : List (List ℕ)) → length rs ≡ 1 → (ns : List ℕ) × (rs ≡ ns ∷ [])
single [] h = absurd (omega arith)
single (ns ∷ []) h = (ns, refl)
single (ns ∷ ms ∷ rs) h = absurd (omega arith)

module _ (f : Format) where
  -- the bytes of the kinds ks and of the last kind
  abbrev with_last : List Kind → List ℕ
  with_last ks = bytes_of (ks ++ f.last ∷ [])

  below_last : (n : ℕ) (ks : List Kind) → rises n (with_last ks) ≡ true → n < last_byte f
  below_last n [] r = (risen n (last_byte f) [] r).0
  below_last n (k ∷ ks) r =
      let t = risen n k.byte (with_last ks) r in
      omega (arith, t.0, below_last k.byte ks t.1)

  -- a case that can be stored has no records of a kind that is not known
  pub none_unknown : (c : Case) → Storable f c → (j : ℕ) → known f j ≡ false → c j ≡ []
  none_unknown c s j h = drop_of_length-le (c j) {i = 0} (omega (arith, s.within j, ap (λ (k : Kind). k.limit) (unknown_kind f j h)))

  one_record : (k : ℕ) {rs : List (List ℕ)} (ns rest : List ℕ) → rs ≡ ns ∷ [] → records f k rs ++ rest ≡ k ∷ packed (widths f k) ns ++ rest
  unfolding records
  one_record k ns rest e = rw e (ap (λ (l : List ℕ). k ∷ l ++ rest) (append-nil (packed (widths f k) ns)))

  -- one record
  module _ (k before : ℕ) (o : follows f before k ≡ true) (at : ℕ) (d : Case) (ns rest : List ℕ)
      (room : length (d k) < limit f k) (small : Fits (widths f k) ns) where
    length_body : length (packed (widths f k) ns) ≡ body f k
    length_body = length_packed (widths f k) ns (fits_length (widths f k) ns small)

    record_whole : body f k ≤ length (packed (widths f k) ns ++ rest)
    record_whole = rw (length-append, length_body) (omega arith)

    read_record : (k ≡ last_byte f → ⊥) → reading f 0 at before d (k ∷ packed (widths f k) ns ++ rest)
        ≡ reading f 0 (at + length (records f k (ns ∷ []))) k (added k (ns ∷ []) d) rest
    unfolding records
    read_record ne =
        let e : at + 1 + body f k ≡ at + suc (length (packed (widths f k) ns ++ [])) = rw (append-nil, length_body) (omega arith) in
        goes_on f at before d k (packed (widths f k) ns ++ rest) (sym (passes f before k (length (d k)) _ (room_known f k _ room) o record_whole room)) ne
        ∙ passed_over f (body f k) (at + 1) k _ (packed (widths f k) ns ++ rest) record_whole
        ∙ rw (numbers_packed (widths f k) ns rest small, drop_at (packed (widths f k) ns) rest (body f k) length_body, e)

    read_end : k ≡ last_byte f → body f k ≡ 0 → reading f 0 at before d (k ∷ packed (widths f k) ns ++ rest)
        ≡ whole (added k (ns ∷ []) d) (at + length (records f k (ns ∷ [])))
    unfolding records
    read_end y none =
        let e : at + 1 ≡ at + suc (length (packed (widths f k) ns ++ [])) = rw (append-nil, length_body, none) (omega arith) in
        ends f at before d k (packed (widths f k) ns ++ rest) (sym (passes f before k (length (d k)) _ (room_known f k _ room) o record_whole room)) y
        ∙ rw (numbers_packed (widths f k) ns rest small, e)

  -- the records of one kind between the first and the last: reading comes to what stands after them
  module _ (k : ℕ) (positive : 1 ≤ k) (low : first_byte f < k) (high : k < last_byte f) (o : Reading) where
    through : (rs : List (List ℕ)) (at before : ℕ) (d : Case) (rest : List ℕ) → ((j : ℕ) → k ≤ j → follows f before j ≡ true)
        → length (d k) + length rs ≤ limit f k → EachFits (widths f k) rs
        → ((last : ℕ) → ((j : ℕ) → k < j → follows f last j ≡ true) → reading f 0 (at + length (records f k rs)) last (added k rs d) rest ≡ o)
        → reading f 0 at before d (records f k rs ++ rest) ≡ o
    unfolding records
    through [] at before d rest order r b on = rw (added_none, add-zero) at (on before (λ j h. order j (omega arith)))
    through (ns ∷ rs) at before d rest order r b on =
        let q : length (added k (ns ∷ []) d k) + length rs ≤ limit f k = rw (added_own, length-append) (omega arith) in
        let e : at + length (records f k (ns ∷ [])) + length (records f k rs) ≡ at + suc (length (packed (widths f k) ns ++ records f k rs)) =
        simp length-append (omega arith) in
        rw append_assoc
        (read_record k before (order k (omega arith)) at d ns (records f k rs ++ rest) (omega arith) b.0 (λ e. omega arith)
        ∙ through rs (at + length (records f k (ns ∷ []))) k (added k (ns ∷ []) d) rest (λ j h. may_follow f k j positive h (omega arith)) q b.1
        (λ last ok. rw (e, added_twice) (on last ok)))

module _ (f : Format) (w : WellFormed f) (c : Case) (s : Storable f c) where
  -- before the kinds ks, which are above n: the case d has all records of the others, and none above n
  record Partly (n : ℕ) (ks : List ℕ) (d : Case) : Type 0 where
    same : (j : ℕ) → member j ks ≡ false → d j ≡ c j
    later : (j : ℕ) → n < j → d j ≡ []

  partly_start : Partly 0 (order f) no_records
  unfolding known
  partly_start =
      record {
        same = λ j h. sym (none_unknown f c s j h);
        later = λ j h. refl;
      }

  partly_more : (n k : ℕ) (ks : List ℕ) (d : Case) → n < k → Partly n (k ∷ ks) d → Partly k ks (added k (c k) d)
  partly_more n k ks d l p =
      record {
        same =
            added_each k (c k) d (λ (j : ℕ) (rs : List (List ℕ)). member j ks ≡ false → rs ≡ c j)
            (λ h. ap (λ (rs : List (List ℕ)). rs ++ c k) (p.later k l))
            (λ j ne h. p.same j (rw (ne_eqb j k ne, member) h));
        later = λ j h. added_other k (c k) d j (λ e. omega arith) ∙ p.later j (omega arith);
      }

  room_left : (n k : ℕ) (ks : List ℕ) (d : Case) → n < k → Partly n ks d → length (d k) + length (c k) ≤ limit f k
  room_left n k ks d l p = rw (p.later k l) (omega (arith, s.within k))

  comes : (ks : List Kind) (n at before : ℕ) (d : Case) (rest : List ℕ) → 1 ≤ n → first_byte f ≤ n
      → rises n (with_last f ks) ≡ true → Partly n (with_last f ks) d → ((j : ℕ) → n < j → follows f before j ≡ true)
      → reading f 0 at before d (in_order f (with_last f ks) c ++ rest) ≡ whole c (at + length (in_order f (with_last f ks) c))
  unfolding in_order
  comes [] n at before d rest u v r p o =
      let k : ℕ = last_byte f in
      let q = single (c k) s.one_last in
      let l : n < k = below_last f n [] r in
      let b : EachFits (widths f k) (q.0 ∷ []) = rw q.1 at (s.bodies k) in
      let t : length (d k) < limit f k = omega (arith, room_left n k (k ∷ []) d l p, s.one_last) in
      let all : added k (c k) d ≡ c = fun_ext (λ j. (partly_more n k [] d l p).same j refl) in
      rw append-nil
      (ap (reading f 0 at before d) (one_record f k q.0 rest q.1)
      ∙ read_end f k before (o k l) at d q.0 rest t b.0 refl (rw w.bare_last)
      ∙ rw (← q.1, all))
  comes (m ∷ ks) n at before d rest u v r p o =
      let k : ℕ = m.byte in
      let after : List ℕ = in_order f (with_last f ks) c in
      let t : (n < k) × (rises k (with_last f ks) ≡ true) = risen n k (with_last f ks) r in
      rw append_assoc
      (through f k (omega (arith, t.0)) (omega (arith, t.0)) (below_last f k ks t.1) (whole c (at + length (records f k (c k) ++ after)))
      (c k) at before d (after ++ rest)
      (λ j h. o j (omega (arith, t.0))) (room_left n k (k ∷ with_last f ks) d t.0 p) (s.bodies k)
      (λ last ok.
      comes ks k (at + length (records f k (c k))) last (added k (c k) d) rest (omega (arith, t.0)) (omega (arith, t.0)) t.1
      (partly_more n k (with_last f ks) d t.0 p) ok
      ∙ rw length-append (ap (whole c) (omega arith))))

  -- reading what is written gives the case; what stands after it is left
  pub read_one_of_written : (rest : List ℕ) → read_one_in f (file_of f c ++ rest) ≡ whole c (length (file_of f c))
  unfolding read_one_in file_of in_order
  read_one_of_written rest =
      let k : ℕ = first_byte f in
      let after : List ℕ = in_order f (with_last f f.between) c in
      let t : (0 < k) × (rises k (with_last f f.between) ≡ true) = risen 0 k (with_last f f.between) w.rising in
      let q = single (c k) s.one_first in
      let b : EachFits (widths f k) (q.0 ∷ []) = rw q.1 at (s.bodies k) in
      let l : length (no_records k) < limit f k = omega (arith, w.one_first) in
      rw append_assoc
      (ap (reading f 0 0 0 no_records) (one_record f k q.0 (after ++ rest) q.1)
      ∙ read_record f k 0 (may_begin f) 0 no_records q.0 (after ++ rest) l b.0 (λ e. omega (arith, below_last f k f.between t.1))
      ∙ rw (← q.1)
      (comes f.between k (0 + length (records f k (c k))) k (added k (c k) no_records) rest t.0 (omega arith) t.1
      (partly_more 0 k (with_last f f.between) no_records t.0 partly_start) (λ j h. may_follow f k j t.0 (omega arith) h)
      ∙ rw length-append (ap (whole c) (omega arith))))
