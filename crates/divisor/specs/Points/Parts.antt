-- Parts of a list with as many numbers for each index: the a numbers of index i stand from the place a * i on. Numbers that are stored as the part of
-- an index are that part, and the other parts stay.
use Rattle.std.specs.Prelude.{◌≡◌, refl, ◌⊎◌, List, ℕ, suc, ◌+◌, ◌-◌, ◌*◌, ◌≤◌, ◌<◌, min, length, get_or, take, drop}
use Rattle.std.proofs.Common.{sym, ◌∙◌, ap, inl, inr, mul-suc, mul-le-mul_left, arith, length-take, length-drop, rules, length-take-le, get_or-take, get_or-drop, ext_get_or}
use Rattle.std.proofs.Math.Decide.{dec_lt}
use Rattle.std.proofs.Math.Nat.{min-le_left}
use Rattle.std.proofs.lemmas.List.{places}
use borrow.Rule.Slice.PartMut.{mid_of, put_mid, same_len_mid}
use Rattle.field.specs.Loops.Filled.{between}
use Rattle.field.specs.Loops.Cells.{cells_length, cells_at, cells_all, cells_is, past_end, between_in, between_out}
use Rattle.divisor.specs.Points.PartsModel.{part, stored}

module _ (a i : ℕ) (list : List ℕ) where
  -- as the code takes it
  pub part_is : take (a * i + a - a * i) (drop (a * i) list) ≡ part a i list
  part_is = let e : a * i + a - a * i ≡ a = omega arith in ap (λ (n : ℕ). take n (drop (a * i) list)) e

  pub part_length : a * i + a ≤ length list → length (part a i list) ≡ a
  part_length l = length-take-le a (drop (a * i) list) (let e = length-drop (a * i) list in omega arith)

  pub part_at : (j : ℕ) → j < a → get_or (part a i list) j 0 ≡ get_or list (a * i + j) 0
  part_at j l = get_or-take a (drop (a * i) list) j 0 l ∙ get_or-drop (a * i) list j 0

  -- how long a part is depends only on how long the list is
  part_size : length (part a i list) ≡ min a (length list - a * i)
  part_size = length-take a (drop (a * i) list) ∙ ap (min a) (length-drop (a * i) list)

  part_within : length (part a i list) ≤ a
  part_within = omega (arith, part_size, min-le_left a (length list - a * i))

  -- what holds of every number of the list, and of 0, holds of every number of a part
  pub part_all : (P : ℕ → Type 0) → ((k : ℕ) → P (get_or list k 0)) → P 0 → (j : ℕ) → P (get_or (part a i list) j 0)
  part_all P every none j = elim (dec_lt j a) [
    | yes l ↦ rw (part_at j l) (every (a * i + j))
    | no l ↦ rw (past_end (length (part a i list)) j (part a i list) refl (omega (arith, part_within))) none
  ]

-- n numbers stored from a place on
module _ (n : ℕ) (numbers : List ℕ) (at : ℕ) (list : List ℕ) where
  pub stored_length : length (stored n numbers at list) ≡ length list
  stored_length = cells_length _ (length list)

  stored_here : at + n ≤ length list → (j : ℕ) → j < n → get_or (stored n numbers at list) (at + j) 0 ≡ get_or numbers j 0
  stored_here fits j l =
      let e : at + j - at ≡ j = omega arith in
      cells_at _ (length list) (at + j) (omega arith) ∙ between_in at (at + n) _ list (at + j) (omega arith) (omega arith) ∙ ap (λ k. get_or numbers k 0) e

  pub stored_else : (k : ℕ) → (k < at) ⊎ (at + n ≤ k) → get_or (stored n numbers at list) k 0 ≡ get_or list k 0
  stored_else k o =
      cells_all (λ x. x ≡ get_or list k 0) _ (length list) k (λ l. between_out at (at + n) _ list k o) (λ l. sym (past_end (length list) k list refl l))

  -- as they are copied into a part of the list
  module _ (as_long : length numbers ≡ length (mid_of at (at + n - at) list)) (fits : at + n ≤ length list) where
    abbrev copied : List ℕ
    copied = put_mid at (at + n - at) list numbers

    long : length numbers ≡ n
    long = omega (arith, length-take (at + n - at) (drop at list), length-drop at list)

    copied_at : (k : ℕ) → get_or copied k 0 ≡ between at (at + n) (λ k. get_or numbers (k - at) 0) list k
    copied_at k = let e = long in elim (dec_lt k at) [
      | yes l ↦ rw (between_out at (at + n) (λ k. get_or numbers (k - at) 0) list k (inl l)) (search (rules, places))
      | no l ↦ elim (dec_lt k (at + n)) [
        | yes m ↦ rw (between_in at (at + n) (λ k. get_or numbers (k - at) 0) list k (omega arith) m) (search (rules, places))
        | no m ↦ rw (between_out at (at + n) (λ k. get_or numbers (k - at) 0) list k (inr (omega arith))) (search (rules, places))
      ]
    ]

    pub stored_is : copied ≡ stored n numbers at list
    stored_is = cells_is _ (length list) copied (same_len_mid at (at + n - at) list numbers as_long) (λ k l. copied_at k)

-- the places of one index are not those of another
elsewhere : (a i k j : ℕ) → ¬ (k ≡ i) → j < a → (a * k + j < a * i) ⊎ (a * i + a ≤ a * k + j)
elsewhere a i k j other l = elim (dec_lt k i) [
  | yes b ↦ inl (omega (arith, mul-suc a k, mul-le-mul_left {m = suc k} {n = i} a (omega arith)))
  | no b ↦ inr (omega (arith, mul-suc a i, mul-le-mul_left {m = suc i} {n = k} a (omega arith)))
]

-- the numbers of index i
module _ (a i : ℕ) (numbers list : List ℕ) where
  abbrev after : List ℕ
  after = stored a numbers (a * i) list

  pub part_stored : length numbers ≡ a → a * i + a ≤ length list → part a i after ≡ numbers
  part_stored e fits =
      let size = part_length a i after (omega (arith, stored_length a numbers (a * i) list)) in
      ext_get_or 0 (part a i after) numbers (size ∙ sym e) λ j b.
      let c : j < a = omega (arith, size) in part_at a i after j c ∙ stored_here a numbers (a * i) list fits j c

  pub part_other : (k : ℕ) → ¬ (k ≡ i) → part a k after ≡ part a k list
  part_other k other =
      ext_get_or 0 (part a k after) (part a k list)
      (part_size a k after ∙ ap (λ (m : ℕ). min a (m - a * k)) (stored_length a numbers (a * i) list) ∙ sym (part_size a k list)) λ j b.
      let c : j < a = omega (arith, part_within a k after) in
      part_at a k after j c ∙ stored_else a numbers (a * i) list (a * k + j) (elsewhere a i k j other c) ∙ sym (part_at a k list j c)
