-- A list in an array, zeros beyond it: further numbers go to the first places after the list.
use Rattle.std.specs.Prelude.{ℕ, suc, ◌+◌, ◌-◌, ◌≤◌, ◌<◌, ◌≡◌, refl, List, [], ◌∷◌, ◌++◌, length, drop, set, replicate}
use Rattle.std.proofs.Common.{sym, ap, ◌∙◌, append_assoc, append-nil, arith, length-append}
use Rattle.std.proofs.lemmas.List.{set_at}
use Rattle.std.proofs.lemmas.List.Edits.{sets}
use Rattle.case_file.specs.Format.{Kind, numbers, first_kind, second_kind, skeleton_kind, point_kind}
use Rattle.case_file.specs.Case.{flat}
use Rattle.case_file.specs.Reading.{Reading}
use Rattle.case_file.specs.Handed.{Counts, padded, counts, array, Gives}
use Rattle.field.specs.Loops.Putting.{Puts}
use Rattle.case_file.specs.Record.Room.{most, Place}
use Rattle.case_file.specs.Record.Packing.{length_numbers}

padded_more : (n : ℕ) (xs : List ℕ) (v : ℕ) → length xs < n → set (padded n xs) (length xs) v ≡ padded n (xs ++ v ∷ [])
unfolding padded
padded_more n xs v h =
    let e : n - length xs ≡ suc (n - (length xs + 1)) = omega arith in
    rw (e, set_at xs 0 (replicate (n - (length xs + 1)) 0) v (length xs) refl, length-append, append_assoc)

padded_sets : (n i : ℕ) (xs vs : List ℕ) → i ≡ length xs → i + length vs ≤ n → sets (padded n xs) i vs ≡ padded n (xs ++ vs)
padded_sets n i xs [] e h = rw append-nil
padded_sets n i xs (v ∷ vs) e h =
    let l : length xs < n = omega arith in
    let s : suc i ≡ length (xs ++ v ∷ []) = rw length-append (omega arith) in
    rw (e, padded_more n xs v l) (padded_sets n (suc (length xs)) (xs ++ v ∷ []) vs (rw (← e) s) (omega arith)
    ∙ ap (λ (l : List ℕ). padded n l) (append_assoc xs (v ∷ []) vs))

pub flat_more : (rs : List (List ℕ)) (ns : List ℕ) → flat (rs ++ ns ∷ []) ≡ flat rs ++ ns
unfolding flat
flat_more [] ns = append-nil ns
flat_more (r ∷ rs) ns = rw (flat_more rs ns) (sym (append_assoc r (flat rs) ns))

-- the list of the records rs of kind k, with one more: its count, and the array that holds it
pub one_more : {k : Kind} {bytes : List ℕ} {at n : ℕ} → Place k bytes at n → (rs : List (List ℕ)) → n ≡ length (flat rs)
    → (vs : List ℕ) → numbers k.widths (drop at bytes) ≡ vs
    → {m : ℕ} {before after : List ℕ} → before ≡ padded (most k) (flat rs) → Puts vs n m before after
    → (m ≡ length (flat (rs ++ numbers k.widths (drop at bytes) ∷ []))) × (after ≡ padded (most k) (flat (rs ++ numbers k.widths (drop at bytes) ∷ [])))
one_more {k} {bytes} {at} {n} p rs e vs v b q = (
  rw (q.counted, ← v, flat_more, length-append, e),
  rw (q.stored, flat_more, ← v, b) (padded_sets (most k) n (flat rs) (numbers k.widths (drop at bytes)) e (rw length_numbers p.room)),
)

-- what is handed back, from its parts
pub gives : {o : Reading} {r : Counts} {f s k p : List ℕ} → r ≡ counts o → f ≡ array o first_kind → s ≡ array o second_kind
    → k ≡ array o skeleton_kind → p ≡ array o point_kind → Gives o r f s k p
gives a b c d e = record { record_is = a; first_is = b; second_is = c; skeleton_is = d; points_is = e }
