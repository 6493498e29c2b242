-- `console::input::read_full`: what a read puts behind the bytes that were read before is what the reader lost, so the longer front is. The invariant says so.
use Rattle.std.proofs.Common.{rules, ◌≡◌, ℕ, ◌+◌, ◌-◌, ◌≤◌, List, ◌++◌, length, take, sym, ap, ◌∙◌, subst, le_refl, drop_at, length-take-le}
use Rattle.std.proofs.lemmas.Slice.{take-put_mid_below}
use Rattle.std.proofs.KnownBytes.{Consumes-trans}
use Rattle.std.specs.Io.KnownBytes.{Consumes}
use borrow.Rule.Slice.PartMut.{put_mid, post_of}
use lib.Seq.{take-add, take-append-le}
use Rattle.console.proofs.input.read_full.Goals as goal

-- the front of a list, and of what was put from there on
filled : (at k n : ℕ) (list part : List ℕ) → at ≤ length list → n ≤ length part → take at list ++ take n part ≡ take (at + n) (put_mid at k list part)
filled at k n list part within fits =
    let all = put_mid at k list part in
    let after = drop_at (take at list) (part ++ post_of at k list) at (length-take-le at list within) in
    let back = ap (take n) after ∙ take-append-le n part (post_of at k list) fits in
    let front = take-put_mid_below _ _ _ _ _ (le_refl at) within in
    ap (λ l. l ++ take n part) (sym front) ∙ ap (λ l. take at all ++ l) (sym back) ∙ sym (take-add at n all)

pub loop-done-preserved : goal.loop-done-preserved
loop-done-preserved g c =
    let more = Consumes-trans _ _ _ _ _ c.loop-done.invariant.2 c.in_ok-n.ensures.bytes.0 in
    let front = filled c.loop-done.done (length c.loop-done.room - c.loop-done.done) c.in_ok-n.n c.loop-done.room c.read.new.buf c.loop-done.invariant.0 c.in_ok-n.ensures.bound.0 in
    (search rules, search rules, subst (Consumes _ _) front more)
