-- What the loop over the terms has filled in is the model.
use Rattle.std.specs.Prelude.{◌≡◌, refl, List, [], ◌∷◌, ℕ, zero, suc, ◌<◌, length, get_or}
use Rattle.std.proofs.Common.{sym, arith}
use Rattle.std.proofs.lemmas.List.{length-map}
use Rattle.field.specs.Loops.Filled.{cells}
use Rattle.field.specs.Loops.Cells.{cells_is}
use Rattle.cancel.specs.Scaling.Model.{term_times, times}

times_at : (p c : ℕ) (ts : List ℕ) (i : ℕ) → i < length ts → get_or (times p c ts) i 0 ≡ term_times p c (get_or ts i 0)
times_at p c [] i l = absurd (omega arith)
times_at p c (t ∷ ts) zero l = refl
times_at p c (t ∷ ts) (suc i) l = times_at p c ts i (omega arith)

pub cells_times : (p c : ℕ) (ts : List ℕ) → cells (λ i. term_times p c (get_or ts i 0)) (length ts) ≡ times p c ts
cells_times p c ts = sym (cells_is _ (length ts) (times p c ts) (length-map ts (term_times p c)) (times_at p c ts))

pub length_times : (p c : ℕ) (ts : List ℕ) → length (times p c ts) ≡ length ts
length_times p c ts = length-map ts (term_times p c)
