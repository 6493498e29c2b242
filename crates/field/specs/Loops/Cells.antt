-- What stands at each place of a list of cells, and how filling an array place after place leads to it.
use Rattle.std.specs.Prelude.{◌≡◌, refl, Bool, true, false, ◌⊎◌, List, ◌++◌, ℕ, zero, suc, ◌+◌, ◌-◌, ◌≤◌, ◌<◌, ltb, length, get_or, set, drop}
use Rattle.std.proofs.Common.{sym, ap, ◌∙◌, subst, inl, inr, arith, length-set, length-append, length-drop, ext_get_or, get_or-set_same, get_or-set_other, get_or-drop, get_or-append-add}
use Rattle.std.proofs.Math.Decide.{ℕ_discrete, dec_lt}
use borrow.Author.Tests.{lt-ltb, le-ltb}
use Rattle.std.proofs.Math.ListN.{get_or-append, get_or-eq_default}
use Rattle.field.specs.Loops.Filled.{cells, Filled, between, FilledPart}

pub cells_length : (h : ℕ → ℕ) (n : ℕ) → length (cells h n) ≡ n
unfolding cells
cells_length h zero = refl
cells_length h (suc n) = ap suc (cells_length (λ i. h (suc i)) n)

pub cells_at : (h : ℕ → ℕ) (n i : ℕ) → i < n → get_or (cells h n) i 0 ≡ h i
unfolding cells
cells_at h zero i l = absurd (omega arith)
cells_at h (suc n) zero l = refl
cells_at h (suc n) (suc i) l = cells_at (λ i. h (suc i)) n i (omega arith)

pub past_end : (n i : ℕ) (f : List ℕ) → length f ≡ n → n ≤ i → get_or f i 0 ≡ 0
past_end n i f e l = get_or-eq_default f 0 (omega arith)

cells_past : (h : ℕ → ℕ) (n i : ℕ) → n ≤ i → get_or (cells h n) i 0 ≡ 0
cells_past h n i l = past_end n i (cells h n) (cells_length h n) l

-- what holds of each h i, and of 0 past the end, holds at each place
pub cells_all : (P : ℕ → Type 0) (h : ℕ → ℕ) (n i : ℕ) → (i < n → P (h i)) → (n ≤ i → P 0) → P (get_or (cells h n) i 0)
cells_all P h n i new none = elim (dec_lt i n) [
  | yes l ↦ subst P (sym (cells_at h n i l)) (new l)
  | no l ↦ subst P (sym (cells_past h n i (omega arith))) (none (omega arith))
]

-- a list that is right at each place is the list
pub cells_is : (h : ℕ → ℕ) (n : ℕ) (r : List ℕ) → length r ≡ n → ((i : ℕ) → i < n → get_or r i 0 ≡ h i) → r ≡ cells h n
cells_is h n r e s =
    ext_get_or 0 r (cells h n) (e ∙ sym (cells_length h n)) (λ i l. let b : i < n = omega arith in s i b ∙ sym (cells_at h n i b))

module _ {h : ℕ → ℕ} {n : ℕ} {old : List ℕ} {i : ℕ} where
  pub filled_start : i ≤ n → length old ≡ n → ((j : ℕ) → j < i → get_or old j 0 ≡ h j) → Filled h n old i old
  filled_start l e s = record { within = l; long = e; done = s; left = λ j k. refl }

  module _ {r : List ℕ} (f : Filled h n old i r) where
    pub filled_next : i < n → {v : ℕ} → v ≡ h i → Filled h n old (i + 1) (set r i v)
    filled_next l {v} e =
        record {
          within = omega arith;
          long = length-set r i v ∙ f.long;
          done = λ j k. go j k (ℕ_discrete j i);
          left = λ j k. get_or-set_other r i j v 0 (λ q. omega arith) ∙ f.left j (omega arith);
        }
      where
        go : (j : ℕ) → j < i + 1 → Dec (j ≡ i) → get_or (set r i v) j 0 ≡ h j
        go j k (yes q) =
            ap (λ (m : ℕ). get_or (set r i v) m 0) q ∙ get_or-set_same r i v 0 (omega (arith, f.long)) ∙ e ∙ ap h (sym q)
        go j k (no q) = get_or-set_other r i j v 0 q ∙ f.done j (omega arith)

    -- nothing is stored where the right number stands
    pub filled_passed : i < n → get_or old i 0 ≡ h i → Filled h n old (i + 1) r
    filled_passed l e =
        record { within = omega arith; long = f.long; done = λ j k. go j k (ℕ_discrete j i); left = λ j k. f.left j (omega arith) }
      where
        go : (j : ℕ) → j < i + 1 → Dec (j ≡ i) → get_or r j 0 ≡ h j
        go j k (yes q) = f.left j (omega arith) ∙ subst (λ (m : ℕ). get_or old m 0 ≡ h m) (sym q) e
        go j k (no q) = f.done j (omega arith)

    -- the loop may end where the right numbers stand from there on
    pub filled_stop : ((j : ℕ) → i ≤ j → j < n → get_or old j 0 ≡ h j) → r ≡ cells h n
    filled_stop s =
        cells_is h n r f.long (λ j k. elim (dec_lt j i) [ yes l ↦ f.done j l | no l ↦ f.left j (omega arith) ∙ s j (omega arith) k ])

    pub filled_end : n ≤ i → r ≡ cells h n
    filled_end l = filled_stop (λ j a b. absurd (omega arith))

    -- what is filled, and the rest
    pub filled_first : length old ≡ n → r ≡ cells h i ++ drop i old
    filled_first o = ext_get_or 0 r (new ++ drop i old) sized (λ j l. go j (dec_lt j i))
      where
        new : List ℕ
        new = cells h i

        counted : length new ≡ i
        counted = cells_length h i

        sized : length r ≡ length (new ++ drop i old)
        sized = omega (arith, length-append new (drop i old), length-drop i old, f.within, f.long, counted)

        go : (j : ℕ) → Dec (j < i) → get_or r j 0 ≡ get_or (new ++ drop i old) j 0
        go j (yes l) =
            f.done j l ∙ sym (cells_at h i j l) ∙ sym (get_or-append new (drop i old) 0 j (omega (arith, counted)))
        go j (no l) =
            let s : j ≡ length new + (j - i) = omega (arith, counted) in
            let t : j ≡ i + (j - i) = omega arith in
            f.left j (omega arith) ∙ ap (λ (k : ℕ). get_or old k 0) t ∙ sym (get_or-drop i old (j - i) 0)
            ∙ sym (get_or-append-add new (drop i old) (j - i) 0) ∙ ap (λ (k : ℕ). get_or (new ++ drop i old) k 0) (sym s)

-- a part is filled
module _ (i n : ℕ) (h : ℕ → ℕ) (old : List ℕ) (k : ℕ) where
  pub between_in : i ≤ k → k < n → between i n h old k ≡ h k
  unfolding between
  between_in l m = rw (le-ltb k i l, lt-ltb k n m, between)

  pub between_out : (k < i) ⊎ (n ≤ k) → between i n h old k ≡ get_or old k 0
  unfolding between
  between_out (inl l) = rw (lt-ltb k i l, between)
  between_out (inr m) =
      elim (dec_lt k i) [ yes l ↦ rw (lt-ltb k i l, between) | no l ↦ rw (le-ltb k i (omega arith), le-ltb k n m, between) ]

pub between_all : (P : ℕ → Type 0) (i n : ℕ) (h : ℕ → ℕ) (old : List ℕ) (k : ℕ) → P (h k) → P (get_or old k 0) → P (between i n h old k)
unfolding between
between_all P i n h old k new left = go (ltb k i) (ltb k n)
  where
    go : (a b : Bool) → P (elim a [ true ↦ get_or old k 0 | false ↦ elim b [ true ↦ h k | false ↦ get_or old k 0 ] ])
    go true b = left
    go false true = new
    go false false = left

module _ {i n : ℕ} {h : ℕ → ℕ} {size : ℕ} {old : List ℕ} where
  pub part_start : i ≤ size → length old ≡ size → FilledPart i n h size old i old
  part_start l e = record { from = omega arith; filled = filled_start l e (λ j k. sym (between_out i n h old j (inl k))) }

  module _ {k : ℕ} {r : List ℕ} (f : FilledPart i n h size old k r) where
    pub part_next : k < n → n ≤ size → {v : ℕ} → v ≡ h k → FilledPart i n h size old (k + 1) (set r k v)
    part_next l m e =
        record { from = omega (arith, f.from); filled = filled_next f.filled (omega arith) (e ∙ sym (between_in i n h old k f.from l)) }

    pub part_end : n ≤ k → r ≡ cells (between i n h old) size
    part_end l = filled_stop f.filled (λ j a b. sym (between_out i n h old j (inr (omega arith))))
