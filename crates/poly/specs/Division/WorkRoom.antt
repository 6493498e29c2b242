-- The parts of the work room while a division goes on: what is written into one leaves the others.
use Rattle.std.specs.Prelude.{◌≡◌, refl, List, ℕ, ◌+◌, ◌-◌, ◌*◌, ◌%◌, ◌≤◌, ◌<◌, length, get_or, set, take, drop}
use Rattle.std.proofs.Common.{sym, ◌∙◌, ap, arith, length-drop, drop-set-lt, get_or-take, get_or-drop, drop-drop, length-take-le}
use Rattle.std.proofs.lemmas.List.{take-set-le, drop-set-add}
use Rattle.std.proofs.Math.Seq.{take-set-lt}
use Rattle.field.specs.Loops.Fold.{fold_keeps, fold_through}
use Rattle.poly.specs.Keys.{keys}
use Rattle.poly.specs.Terms.{key_of, coefficient_of}
use Rattle.poly.specs.Room.{work_room}
use Rattle.poly.specs.Division.Ends.{Empty, empty_cells}
use Rattle.poly.specs.Division.SpreadModel.{spread}
use Rattle.poly.specs.Division.Model.{KeysBelow, less_product}
use Rattle.poly.specs.Division.WorkRoomModel.{remainder_cells, quotient_cells, beyond}

-- the subtraction of a product, in a list of which the cells are the first n numbers
module _ (p s q n : ℕ) where
  take_less : (ts l : List ℕ) → KeysBelow s n ts → take n (less_product p s q ts l) ≡ less_product p s q ts (take n l)
  take_less ts l h =
      fold_through (λ t. key_of t + s < n) (take n)
      (λ t m b. take-set-lt n m (key_of t + s) _ b
      ∙ ap (λ (v : ℕ). set (take n m) (key_of t + s) ((v + (p - q) * coefficient_of t) % p)) (sym (get_or-take n m (key_of t + s) 0 b))) ts h l

  drop_less : (ts l : List ℕ) → KeysBelow s n ts → drop n (less_product p s q ts l) ≡ drop n l
  drop_less ts l h =
      fold_keeps (λ t. key_of t + s < n) (λ m. drop n m ≡ drop n l) (λ t m b e. drop-set-lt n m (key_of t + s) _ b ∙ e) ts h l refl

-- a list spread over the cells
module _ (n : ℕ) where
  pub take_spread : (ts l : List ℕ) → KeysBelow 0 n ts → take n (spread ts l) ≡ spread ts (take n l)
  take_spread ts l h =
      fold_through (λ t. key_of t + 0 < n) (take n) (λ t m b. take-set-lt n m (key_of t) (coefficient_of t) (omega arith)) ts h l

  pub drop_spread : (ts l : List ℕ) → KeysBelow 0 n ts → drop n (spread ts l) ≡ drop n l
  drop_spread ts l h =
      fold_keeps (λ t. key_of t + 0 < n) (λ m. drop n m ≡ drop n l) (λ t m b e. drop-set-lt n m (key_of t) _ (omega arith) ∙ e) ts h l refl

-- what stands behind the remainder's cells settles what is beyond
pub same_beyond : (l m : List ℕ) → drop keys l ≡ drop keys m → beyond l ≡ beyond m
same_beyond l m e = sym (drop-drop keys keys l) ∙ ap (drop keys) e ∙ drop-drop keys keys m

-- one step: the quotient's coefficient q stored at s, and the product subtracted
module _ (p s q : ℕ) (ts work : List ℕ) (small : s < keys) (within : KeysBelow s keys ts) where
  abbrev after : List ℕ
  after = less_product p s q ts (set work (keys + s) q)

  pub step_remainder : remainder_cells after ≡ less_product p s q ts (remainder_cells work)
  step_remainder =
      take_less p s q keys ts (set work (keys + s) q) within
      ∙ ap (less_product p s q ts) (take-set-le keys work (keys + s) q (omega arith))

  behind : drop keys after ≡ set (drop keys work) s q
  behind = drop_less p s q keys ts (set work (keys + s) q) within ∙ drop-set-add keys work s q

  pub step_quotient : quotient_cells after ≡ set (quotient_cells work) s q
  step_quotient = ap (take keys) behind ∙ take-set-lt keys (drop keys work) s q small

  pub step_beyond : beyond after ≡ beyond work
  step_beyond =
      sym (drop-drop keys keys after) ∙ ap (drop keys) behind ∙ drop-set-lt keys (drop keys work) s q small ∙ drop-drop keys keys work

-- the parts are as long as there are keys, and 0 where the room was cleared
module _ (work : List ℕ) (h : work_room ≤ length work) where
  remainder_long : length (remainder_cells work) ≡ keys
  remainder_long = length-take-le keys work (omega arith)

  pub quotient_long : length (quotient_cells work) ≡ keys
  quotient_long = length-take-le keys (drop keys work) (let e = length-drop keys work in omega arith)

  pub remainder_empty : ((i : ℕ) → i < keys → get_or work i 0 ≡ 0) → Empty (remainder_cells work)
  remainder_empty z = empty_cells (remainder_cells work) remainder_long (λ i l. get_or-take keys work i 0 l ∙ z i l)

  pub quotient_empty : ((i : ℕ) → i < work_room → get_or work i 0 ≡ 0) → Empty (quotient_cells work)
  quotient_empty z =
      empty_cells (quotient_cells work) quotient_long
      (λ i l. get_or-take keys (drop keys work) i 0 l ∙ get_or-drop keys work i 0 ∙ z (keys + i) (omega arith))
