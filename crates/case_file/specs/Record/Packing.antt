-- Numbers and bytes: packing and reading undo each other. Then the numbers that the code works: of two bytes, of four, and three numbers.
use Rattle.std.specs.Prelude.{ℕ, zero, suc, ◌+◌, ◌-◌, ◌*◌, ◌/◌, ◌%◌, ◌^◌, ◌≤◌, ◌<◌, ◌≡◌, refl, List, [], ◌∷◌, ◌++◌, length, take, drop}
use Rattle.std.proofs.Common.{sym, ap, ◌∙◌, append_assoc, add-one, arith, length-append, length-drop, take_at, drop_at, take-add, take-take, drop-cons, drop-drop}
use Rattle.std.proofs.Math.Nat.{pow-succ', sub-zero}
use Rattle.std.proofs.Math.Seq.{take-nil}
use Rattle.case_file.specs.Format.{base, sum, little, numbers}
use Rattle.case_file.specs.Written.{bytes, packed, Below, Fits}
use Rattle.case_file.specs.Record.Room.{two, four}

pub length_bytes : (w v : ℕ) → length (bytes w v) ≡ w
unfolding bytes
length_bytes zero v = refl
length_bytes (suc w) v = ap suc (length_bytes w (v / base))

pub length_packed : (ws vs : List ℕ) → length vs ≡ length ws → length (packed ws vs) ≡ sum ws
unfolding packed
length_packed [] [] h = refl
length_packed [] (v ∷ vs) h = absurd (omega arith)
length_packed (w ∷ ws) [] h = absurd (omega arith)
length_packed (w ∷ ws) (v ∷ vs) h = rw (length-append, length_bytes, length_packed ws vs (omega arith))

pub fits_length : (ws vs : List ℕ) → Fits ws vs → length vs ≡ length ws
fits_length [] [] h = refl
fits_length [] (v ∷ vs) h = absurd h
fits_length (w ∷ ws) [] h = absurd h
fits_length (w ∷ ws) (v ∷ vs) h = ap suc (fits_length ws vs h.1)

pub length_numbers : (ws bs : List ℕ) → length (numbers ws bs) ≡ length ws
length_numbers [] bs = refl
length_numbers (w ∷ ws) bs = ap suc (length_numbers ws (drop w bs))

little_bytes : (w v : ℕ) → v < base ^ w → little (bytes w v) ≡ v
unfolding bytes little
little_bytes zero v h = omega arith
little_bytes (suc w) v h =
    let p : v < base * base ^ w = rw (pow-succ' base w) at h in
    rw (little_bytes w (v / base) (omega arith)) (omega arith)

pub numbers_packed : (ws vs rest : List ℕ) → Fits ws vs → numbers ws (packed ws vs ++ rest) ≡ vs
unfolding packed
numbers_packed [] [] rest h = refl
numbers_packed [] (v ∷ vs) rest h = absurd h
numbers_packed (w ∷ ws) [] rest h = absurd h
numbers_packed (w ∷ ws) (v ∷ vs) rest h =
    rw (
      append_assoc,
      take_at (bytes w v) (packed ws vs ++ rest) w (length_bytes w v),
      drop_at (bytes w v) (packed ws vs ++ rest) w (length_bytes w v),
      little_bytes w v h.0,
    )
    (ap (λ (l : List ℕ). v ∷ l) (numbers_packed ws vs rest h.1))

below_drop : (m n : ℕ) (vs : List ℕ) → Below m vs → Below m (drop n vs)
below_drop m zero vs b = b
below_drop m (suc n) [] b = b
below_drop m (suc n) (v ∷ vs) b = below_drop m n vs b.1

bytes_little : (w : ℕ) (bs : List ℕ) → w ≤ length bs → Below base bs → bytes w (little (take w bs)) ≡ take w bs
unfolding bytes little
bytes_little zero bs h b = refl
bytes_little (suc w) [] h b = absurd (omega arith)
bytes_little (suc w) (x ∷ bs) h b =
    let r : (x + base * little (take w bs)) % base ≡ x = omega (arith, b.0) in
    let q : (x + base * little (take w bs)) / base ≡ little (take w bs) = omega (arith, b.0) in
    rw (r, q) (ap (λ (l : List ℕ). x ∷ l) (bytes_little w bs (omega arith) b.1))

pub packed_numbers : (ws bs : List ℕ) → sum ws ≤ length bs → Below base bs → packed ws (numbers ws bs) ≡ take (sum ws) bs
unfolding packed
packed_numbers [] bs h b = refl
packed_numbers (w ∷ ws) bs h b = rw (
  take-add w (sum ws) bs,
  bytes_little w bs (omega arith) b,
  packed_numbers ws (drop w bs) (rw length-drop (omega arith)) (below_drop base w bs b),
)

little_below : (w : ℕ) (bs : List ℕ) → Below base bs → little (take w bs) < base ^ w
unfolding little
little_below zero bs b = omega arith
little_below (suc w) [] b = rw pow-succ' (omega (arith, little_below w [] b))
little_below (suc w) (x ∷ bs) b = rw pow-succ' (omega (arith, b.0, little_below w bs b.1))

pub numbers_fit : (ws bs : List ℕ) → Below base bs → Fits ws (numbers ws bs)
numbers_fit [] bs b = tt
numbers_fit (w ∷ ws) bs b = (little_below w bs b, numbers_fit ws (drop w bs) (below_drop base w bs b))

drop_take : (n m : ℕ) (l : List ℕ) → n ≤ m → drop n (take m l) ≡ take (m - n) (drop n l)
drop_take zero m l h = rw sub-zero
drop_take (suc n) zero l h = absurd (omega arith)
drop_take (suc n) (suc m) [] h = sym (take-nil (suc m - suc n))
drop_take (suc n) (suc m) (x ∷ l) h =
    let e : suc m - suc n ≡ m - n = omega arith in
    rw e (drop_take n m l (omega arith))

-- the numbers of a body are in its bytes
pub numbers_take : (ws : List ℕ) (m : ℕ) (bs : List ℕ) → sum ws ≤ m → numbers ws (take m bs) ≡ numbers ws bs
numbers_take [] m bs h = refl
numbers_take (w ∷ ws) m bs h =
    rw (take-take w m bs (omega arith), drop_take w m bs (omega arith), numbers_take ws (m - w) (drop w bs) (omega arith))

two_halves : (l : List ℕ) → little (take 2 l) + base * base * little (take 2 (drop 2 l)) ≡ little (take 4 l)
unfolding little
two_halves [] = omega arith
two_halves (a ∷ []) = omega arith
two_halves (a ∷ b ∷ l) = omega arith

pub of_two : (l : List ℕ) (at : ℕ) → at + 2 ≤ length l → little (take 2 (drop at l)) ≡ two l at
unfolding little
of_two l at h =
    let p : at < length l = omega arith in
    let q : suc at < length l = omega arith in
    rw (drop-cons l at 0 p, drop-cons l (suc at) 0 q, add-one, little) (omega arith)

module _ (l : List ℕ) (at : ℕ) where
  pub of_four : at + 4 ≤ length l → little (take 4 (drop at l)) ≡ four l at
  of_four h = rw (← two_halves (drop at l), drop-drop 2 at l, of_two l at (omega arith), of_two l (at + 2) (omega arith))

  pub of_three : at + 6 ≤ length l → numbers (2 ∷ 2 ∷ 2 ∷ []) (drop at l) ≡ two l at ∷ two l (at + 2) ∷ two l (at + 4) ∷ []
  of_three h =
      let n : at + 2 + 2 ≡ at + 4 = omega arith in
      let e : drop 2 (drop (at + 2) l) ≡ drop (at + 4) l = drop-drop 2 (at + 2) l ∙ ap (λ (m : ℕ). drop m l) n in
      rw (drop-drop 2 at l, e, of_two l at (omega arith), of_two l (at + 2) (omega arith), of_two l (at + 4) (omega arith))
