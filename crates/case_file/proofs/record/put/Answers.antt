-- `put` copies the numbers into the part of the list that begins at the place n.
use Rattle.std.proofs.Common.{◌+◌, ◌≤◌, ◌≡◌, ◌++◌, ℕ, List, length, take, drop, refl, arith, append_assoc, drop-drop}
use Rattle.std.proofs.lemmas.List.Edits.{sets, sets-eq}
use Rattle.case_file.proofs.record.put.Goals as goal

-- what a list holds once a part of it is replaced
replaced : {A : Type 0} (l vs : List A) (n k : ℕ) → k ≡ length vs → n + length vs ≤ length l → take n l ++ (vs ++ drop k (drop n l)) ≡ sets l n vs
replaced l vs n k e h = rw (e, drop-drop (length vs) n l, sets-eq vs l n h, append_assoc) refl

pub returns-clause-after : goal.returns-clause-after
returns-clause-after g c =
    rw c.copy_from_slice.ensures.after (replaced c.args.list.now c.args.numbers.now c.args.n _ (omega arith) c.requires)
