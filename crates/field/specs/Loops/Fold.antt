-- A left fold over a list, and a loop that takes one element a turn: how it begins, goes on and ends.
use Rattle.std.specs.Prelude.{◌≡◌, ℕ, zero, suc, ◌+◌, ◌-◌, ◌≤◌, ◌<◌, length, get_or, drop}
use Rattle.std.proofs.Math.Path.{refl, ap}
use Rattle.std.proofs.Common.{sym, ◌∙◌, add-one, arith, drop_of_length-le, drop-cons}
use mathlib.Core.List.{List, [], ◌∷◌}

unfoldable pub fold : {E A : Type 0} → (E → A → A) → List E → A → A
fold f [] a = a
fold f (t ∷ ts) a = fold f ts (f t a)

-- what is left of the list is t and ts, or nothing
module _ {E A : Type 0} (f : E → A → A) {left : List E} (a : A) where
  pub fold_turn : {t : E} {ts : List E} → left ≡ t ∷ ts → fold f left a ≡ fold f ts (f t a)
  unfolding fold
  fold_turn e = ap (λ l. fold f l a) e

  pub fold_end : left ≡ [] → fold f left a ≡ a
  unfolding fold
  fold_end e = ap (λ l. fold f l a) e

-- the n numbers from i on, and those below n, the greatest first
unfoldable pub upwards : ℕ → ℕ → List ℕ
upwards i zero = []
upwards i (suc n) = i ∷ upwards (suc i) n

unfoldable pub downwards : ℕ → List ℕ
downwards zero = []
downwards (suc n) = n ∷ downwards n

pub upwards_turn : (i n : ℕ) → i < n → upwards i (n - i) ≡ i ∷ upwards (i + 1) (n - (i + 1))
unfolding upwards
upwards_turn i n l =
    let e : n - i ≡ suc (n - (i + 1)) = omega arith in ap (upwards i) e ∙ ap (λ k. i ∷ upwards k (n - (i + 1))) (sym (add-one i))

pub upwards_end : (i n : ℕ) → n ≤ i → upwards i (n - i) ≡ []
unfolding upwards
upwards_end i n l = let e : n - i ≡ 0 = omega arith in ap (upwards i) e

pub downwards_turn : (n : ℕ) → 0 < n → downwards n ≡ (n - 1) ∷ downwards (n - 1)
unfolding downwards
downwards_turn n l = let e : n ≡ suc (n - 1) = omega arith in ap downwards e

pub downwards_end : (n : ℕ) → n ≤ 0 → downwards n ≡ []
unfolding downwards
downwards_end n l = let e : n ≡ 0 = omega arith in ap downwards e

-- the loop at i: what is left of the list, folded from here on, gives what the whole gave
pub record Folding {A : Type 0} (f : ℕ → A → A) (ts : List ℕ) (old : A) (i : ℕ) (a : A) : Type 0 where
  pub within : i ≤ length ts
  pub same : fold f ts old ≡ fold f (drop i ts) a

module _ {A : Type 0} {f : ℕ → A → A} {ts : List ℕ} {old : A} where
  pub folding_start : Folding f ts old 0 old
  folding_start = record { within = omega arith; same = refl }

  module _ {i : ℕ} {a : A} (h : Folding f ts old i a) where
    pub folding_next : i < length ts → {b : A} → b ≡ f (get_or ts i 0) a → Folding f ts old (i + 1) b
    folding_next l e = record {
      within = omega arith;
      same =
          h.same ∙ fold_turn f a (drop-cons ts i 0 l ∙ ap (λ k. get_or ts i 0 ∷ drop k ts) (sym (add-one i)))
          ∙ ap (fold f (drop (i + 1) ts)) (sym e);
    }

    pub folding_end : length ts ≤ i → a ≡ fold f ts old
    folding_end l = sym (h.same ∙ fold_end f a (drop_of_length-le ts l))

-- the same of cells, of which there are as many as before
pub record FoldingCells (f : ℕ → List ℕ → List ℕ) (ts old : List ℕ) (i : ℕ) (cells : List ℕ) : Type 0 where
  pub same_length : length cells ≡ length old
  pub folding : Folding f ts old i cells

module _ {f : ℕ → List ℕ → List ℕ} {ts old : List ℕ} where
  pub folding_cells_start : FoldingCells f ts old 0 old
  folding_cells_start = record { same_length = refl; folding = folding_start }

  pub folding_cells_next : {i : ℕ} {cells : List ℕ} → FoldingCells f ts old i cells → i < length ts
      → {new : List ℕ} → length new ≡ length cells → new ≡ f (get_or ts i 0) cells → FoldingCells f ts old (i + 1) new
  folding_cells_next h l n e = record { same_length = n ∙ h.same_length; folding = folding_next h.folding l e }

-- what each member of a list keeps, a fold over the list keeps; what changes place with each step does so with the fold
module _ {A : Type 0} {f : ℕ → A → A} (Q : ℕ → Type 0) where
  pub fold_keeps : (P : A → Type 0) → ((t : ℕ) (a : A) → Q t → P a → P (f t a)) → (ts : List ℕ) → ((i : ℕ) → i < length ts → Q (get_or ts i 0))
      → (a : A) → P a → P (fold f ts a)
  unfolding fold
  fold_keeps P step [] q a h = h
  fold_keeps P step (t ∷ ts) q a h =
      fold_keeps P step ts (λ i l. q (suc i) (omega arith)) (f t a) (step t a (q 0 (omega arith)) h)

  pub fold_through : (m : A → A) → ((t : ℕ) (a : A) → Q t → m (f t a) ≡ f t (m a)) → (ts : List ℕ) → ((i : ℕ) → i < length ts → Q (get_or ts i 0))
      → (a : A) → m (fold f ts a) ≡ fold f ts (m a)
  unfolding fold
  fold_through m step [] q a = refl
  fold_through m step (t ∷ ts) q a =
      fold_through m step ts (λ i l. q (suc i) (omega arith)) (f t a) ∙ ap (fold f ts) (step t a (q 0 (omega arith)))

-- where every member keeps it
pub fold_always : {A : Type 0} {f : ℕ → A → A} (P : A → Type 0) → ((t : ℕ) (a : A) → P a → P (f t a)) → (ts : List ℕ) (a : A) → P a → P (fold f ts a)
fold_always P step ts = fold_keeps (λ t. Unit {0}) P (λ t a u. step t a) ts (λ i l. tt)
