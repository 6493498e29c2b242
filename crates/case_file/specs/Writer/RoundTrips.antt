-- The two round trips and the greatest length, of the calls: reading what was written gives the lists, and writing what was read gives the bytes.
use Rattle.std.specs.Prelude.{ℕ, ◌≤◌, ◌≡◌, refl, List, length, take, drop, get_or}
use Rattle.std.proofs.Common.{sym, ap, ◌∙◌, arith, length-append, take_at}
use Rattle.field.specs.Refusal.{Passes}
use Rattle.field.specs.Faults.Laws.{placed_never, never_placed, not_passes_and_refuses, refuses_numbered}
use Rattle.field.specs.declared.case.Case.{Case as Lent}
use Rattle.case_file.specs.declared.Contents.{Contents as ReadContents}
use Rattle.case_file.specs.Format.{modulus_kind, first_kind, second_kind, skeleton_kind, point_kind, today}
use Rattle.case_file.specs.Case.{Case, added, flat}
use Rattle.case_file.specs.Reading.{Reading, whole, read_one, read}
use Rattle.case_file.specs.Reading as reading
use Rattle.case_file.specs.Written.{file_of, Storable}
use Rattle.case_file.specs.Handed.{Contents, Counts, contents, contained, Gives, Lends}
use Rattle.case_file.specs.WriteCall.{WriteCall, write_call, write_call_of, call_case, file, write_table, WriteResult, wrote, Write, refused, accepted}
use Rattle.case_file.specs.RoundTrips.{OfWidth, lists_of, call_of, ReadOfWritten, WrittenOfRead, NeverLonger}
use Rattle.case_file.specs.RoundTrips.{together, HandsBack, ReadIntoOfWritten, ReadOneIntoOfWritten, WrittenOfReadInto, WrittenOfReadOneInto}
use Rattle.case_file.specs.Reader.Alone.{Numbered, read_one_numbered}
use Rattle.case_file.specs.Reader.Lent.{take_padded, lends_read}
use Rattle.case_file.specs.Reader.Today as reader
use Rattle.case_file.specs.Writer.Cases.{flat_singles, flat_triples, CanWrite, writable, not_unwritable, case_within, case_storable}
use Rattle.case_file.specs.Writer.Cases.{lists_writable, case_of_lists}
use Rattle.case_file.specs.Writer.Length.{case_has, at_most_fullest}

module _ (c : WriteCall) where
  can_write : Passes (write_table c) → CanWrite c
  can_write p = writable _ _ _ _ (never_placed p.0)

  passes : CanWrite c → length (file c) ≤ length c.buffer → Passes (write_table c)
  passes h l = (placed_never (not_unwritable _ _ _ _ h), (placed_never (λ s. omega arith), tt))

  -- where the lists can be written and the buffer is long enough, the call is accepted
  pub write_accepted : CanWrite c → length (file c) ≤ length c.buffer → (w : WriteResult) → Write c w → w ≡ wrote (file c) c.buffer
  write_accepted h l w (refused f r) = absurd (not_passes_and_refuses (write_table c) f (passes h l) r)
  write_accepted h l w (accepted p) = refl

pub never_longer_written : NeverLonger
never_longer_written c w (refused f h) = omega arith
never_longer_written c w (accepted p) = at_most_fullest today (call_case c) (case_has c) (case_within c (can_write c p))

-- what the readers give of the bytes that were written, and of a buffer that begins with them
pub record ReadsBack (c : WriteCall) (w : WriteResult) : Type 0 where
  pub can : CanWrite c
  pub alone : read (take w.found.length w.buffer) ≡ whole (call_case c) w.found.length
  pub begins : read_one w.buffer ≡ whole (call_case c) w.found.length

pub reads_back : (c : WriteCall) → OfWidth c → (w : WriteResult) → Write c w → w.found.fault.number ≡ 0 → ReadsBack c w
reads_back c o w (refused f h) z = absurd (refuses_numbered (write_table c) tt f h z)
reads_back c o w (accepted p) z =
    let h = can_write c p in
    let s = case_storable c h o in
    record {
      can = h;
      alone = ap read (take_at (file c) (drop (length (file c)) c.buffer) (length (file c)) refl) ∙ reader.read_of_written (call_case c) s;
      begins = reader.read_one_of_written (call_case c) s (drop (length (file c)) c.buffer);
    }

-- reading the case of a call hands back its modulus and its lists
lists_back : (c : WriteCall) → CanWrite c → (n : ℕ) → contents (whole (call_case c) n) ≡ lists_of c
unfolding added flat
lists_back c h n = rw (flat_singles c.first_list, flat_singles c.second_list, flat_singles c.skeleton, flat_triples c.points h.threes)

pub read_of_written : ReadOfWritten
read_of_written c o w h z r e =
    let b = reads_back c o w h z in
    e ∙ ap contents b.alone ∙ lists_back c b.can w.found.length

-- a case that is lent of what was read is written back as what was handed back
pub lent_call : (bs : List ℕ) {r : ReadContents} {k : Lent} → contained r ≡ contents (read bs) → Lends r k → (buffer : List ℕ)
    → write_call_of k buffer ≡ call_of (contained r) buffer
lent_call bs {k = k} e l buffer =
    let h = lends_read bs e l in
    let again : write_call_of k buffer ≡ call_of (contents (read bs)) buffer =
    rw (h.modulus, h.first, h.second, h.skeleton, h.points, take_padded, take_padded, take_padded, take_padded) refl in
    again ∙ ap (λ (c : Contents). call_of c buffer) (sym e)

-- a case that can be stored, handed back and written again, gives its file
written_again : (c : Case) (n : ℕ) → Storable today c → (r : Contents) → r ≡ contents (whole c n) → (buffer : List ℕ)
    → length (file_of today c) ≤ length buffer → (w : WriteResult) → Write (call_of r buffer) w → w ≡ wrote (file_of today c) buffer
written_again c n s r e buffer l w h =
    let again : WriteCall = write_call (get_or (flat (c modulus_kind)) 0 0) (flat (c first_kind)) (flat (c second_kind)) (flat (c skeleton_kind))
    (flat (c point_kind)) buffer in
    let call : call_of r buffer ≡ again = rw (e, take_padded, take_padded, take_padded, take_padded) in
    let same : file again ≡ file_of today c = ap (file_of today) (case_of_lists c s) in
    rw same at (write_accepted again (lists_writable c s) (rw same l) w (rw call at h))

pub written_of_read : WrittenOfRead
written_of_read bs b r e z buffer l w h =
    let a = (reader.accepted_written bs b).0 (rw e at z) in
    let back : r ≡ contents (whole a.0 (length (file_of today a.0))) =
    e ∙ ap (λ (bs : List ℕ). contents (read bs)) a.2 ∙ ap contents (reader.read_of_written a.0 a.1) in
    rw a.2 (written_again a.0 (length (file_of today a.0)) a.1 r back buffer (rw a.2 at l) w h)

gives_contents : {o : Reading} {r : Counts} {f s k p : List ℕ} → Gives o r f s k p → together r f s k p ≡ contents o
gives_contents g = rw (g.record_is, g.first_is, g.second_is, g.skeleton_is, g.points_is)

hands_back : {c : WriteCall} {w : WriteResult} {o : Reading} {r : Counts} {f s k p : List ℕ} → CanWrite c → o ≡ whole (call_case c) w.found.length
    → Gives o r f s k p → HandsBack c w r f s k p
hands_back {c} {w} h e g =
    record {
      lists = gives_contents g ∙ ap contents e ∙ lists_back c h w.found.length;
      next = rw (g.record_is, e);
    }

pub read_into_of_written : ReadIntoOfWritten
read_into_of_written c o w h z r f s k p g = let b = reads_back c o w h z in hands_back b.can b.alone g

pub read_one_into_of_written : ReadOneIntoOfWritten
read_one_into_of_written c o w h z r f s k p g = let b = reads_back c o w h z in hands_back b.can b.begins g

pub written_of_read_into : WrittenOfReadInto
written_of_read_into bs b r f s k p g z buffer l w h = written_of_read bs b (together r f s k p) (gives_contents g) z buffer l w h

pub written_of_read_one_into : WrittenOfReadOneInto
written_of_read_one_into bs b r f s k p g z buffer l w h = go (read_one bs) refl (read_one_numbered today bs) g
  where
    go : (o : Reading) → read_one bs ≡ o → Numbered o → Gives o r f s k p → w ≡ wrote (take r.next bs) buffer
    go (reading.refused e i) q m g = absurd (m (rw g.record_is at z))
    go (whole c n) q m g =
        let t = reader.written_of_read_one bs c n b q in
        let at : length (file_of today c) ≡ n = omega (arith, t.2, rw length-append at (ap length t.1)) in
        let next : r.next ≡ n = rw g.record_is in
        let same : take n bs ≡ file_of today c = ap (take n) t.1 ∙ take_at (file_of today c) t.0 n at in
        rw (next, same) (written_again c n t.3 (together r f s k p) (gives_contents g) buffer (omega arith) w h)
