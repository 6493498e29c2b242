-- A check of a count, and then of the first wrong place: what each way out of it answers.
use Rattle.std.specs.Prelude.{◌≡◌, refl, false, List, [], ◌∷◌, ℕ, ◌≤◌, ◌<◌, length}
use Rattle.std.specs.Bool.{◌==◌}
use Rattle.std.proofs.Common.{inl, inr, arith, sym, ◌∙◌, eq-eqb, true≢false}
use Rattle.field.specs.Refusal.{line, whole, first, fault, Refuses, Passes}
use Rattle.field.specs.Faults.Laws.{placed_never}
use Rattle.field.specs.declared.faults.Fault.{Fault}
use Rattle.poly.specs.Lists.{Count}
use Rattle.poly.specs.Search.{Searched}
use Rattle.poly.specs.List.Search.{searched_first, searched_none}

-- some, and not too many
pub well_counted : (most : ℕ) (list : List ℕ) → false ≡ (length list == 0) → length list ≤ most → ¬ Count most list
well_counted most list n m (inl e) = true≢false (sym (eq-eqb (length list) 0 e) ∙ sym n)
well_counted most list n m (inr l) = omega arith

pub count_wrong : {count : ℕ} {Miscounted : Type 0} (number : ℕ) (Wrong : ℕ → Type 0) {f : Fault} → Miscounted → f ≡ fault count 0
    → Refuses (line count (whole Miscounted) ∷ line number (first Wrong) ∷ []) f
count_wrong number Wrong m e = inl (0, e, (m, refl))

-- nothing is wrong from n on
module _ (count number : ℕ) {Miscounted : Type 0} {Wrong : ℕ → Type 0} (counted : ¬ Miscounted) {n : ℕ} (beyond : (i : ℕ) → n ≤ i → ¬ Wrong i)
    {place : ℕ} (s : Searched Wrong n place) where
  pub place_wrong : {f : Fault} → place < n → f ≡ fault number place → Refuses (line count (whole Miscounted) ∷ line number (first Wrong) ∷ []) f
  place_wrong l e = inr (placed_never counted, inl (place, e, searched_first Wrong n beyond place s l))

  pub places_right : n ≤ place → Passes (line count (whole Miscounted) ∷ line number (first Wrong) ∷ [])
  places_right l = (placed_never counted, (searched_none Wrong n beyond place s l, tt))
