-- The model on eight numbers, as numbers: what stays below p, what is clear, and how sizes fall.
use Rattle.std.specs.Prelude.{◌≡◌, refl, List}
use Rattle.std.proofs.Common.{sym, ap₂, ◌∙◌, subst, mul-one, mul-zero, arith}
use Rattle.std.proofs.Math.Path.{ap}
use Prim.Native.Nat.{ℕ, zero, suc, ◌+◌, ◌-◌, ◌*◌, ◌%◌, ◌≤◌, ◌<◌}
use Rattle.std.proofs.Math.Decide.{ℕ_discrete, dec_le, dec_lt}
use Rattle.std.proofs.Math.Nat.{mod-lt, mod_self, zero-mod}
use borrow.Author.Tests.{eq-eqb, ne_eqb}
use Rattle.std.proofs.Math.ListN.{get_or}
use Rattle.poly.specs.Coefficients.{Eight}
use Rattle.field.specs.Loops.Filled.{cells, between}
use Rattle.field.specs.Loops.Fold.{fold, fold_always, downwards}
use Rattle.field.specs.Loops.Cells.{cells_length, cells_all, past_end, between_in, between_all}
use Rattle.field.specs.Loops.Places.{Clear, clear_one_less}
use Rattle.poly.specs.Euclid.Model.{size_to, scaled, less_at, subtract, remainder}

-- the highest number is 1, and stands at n
pub record Leads (n : ℕ) (f : List ℕ) : Type 0 where
  pub one : get_or f n 0 ≡ 1
  pub clear : Clear (suc n) f

-- what holds of the size of no number, past a 0, and where a number stands holds of each size
module _ (f : List ℕ) (Holds : ℕ → ℕ → Type 0) (none : Holds 0 0)
    (passed : (n s : ℕ) → get_or f n 0 ≡ 0 → Holds n s → Holds (suc n) s) (here : (n : ℕ) → ¬ (get_or f n 0 ≡ 0) → Holds (suc n) (suc n)) where
  by_size : (n : ℕ) → Holds n (size_to n f)
  unfolding size_to
  by_size zero = none
  by_size (suc n) = go (ℕ_discrete (get_or f n 0) 0) (by_size n)
    where
      go : Dec (get_or f n 0 ≡ 0) → Holds n (size_to n f) → Holds (suc n) (size_to (suc n) f)
      go (yes e) again = rw (eq-eqb (get_or f n 0) 0 e, size_to) (passed n (size_to n f) e again)
      go (no q) again = rw (ne_eqb (get_or f n 0) 0 q, size_to) (here n q)

-- a list is clear from its size on
pub size_clear : (n : ℕ) (f : List ℕ) → Clear n f → Clear (size_to n f) f
size_clear n f =
    by_size f (λ n s. Clear n f → Clear s f) (λ h. h) (λ n s e again h. again (clear_one_less n f e h)) (λ n q h. h) n

-- the number below the size is not 0
pub size_lead : (n : ℕ) (f : List ℕ) → 0 < size_to n f → ¬ (get_or f (size_to n f - 1) 0 ≡ 0)
size_lead n f =
    by_size f (λ n s. 0 < s → ¬ (get_or f (s - 1) 0 ≡ 0)) (λ l. absurd (omega arith)) (λ n s e again. again)
    (λ n q l. let e : suc n - 1 ≡ n = omega arith in subst (λ (k : ℕ). ¬ (get_or f k 0 ≡ 0)) (sym e) q) n

-- a size is at most where the list is clear
pub size_below : (n m : ℕ) (f : List ℕ) → Clear m f → size_to n f ≤ m
size_below n m f h =
    by_size f (λ n s. s ≤ m) (omega arith) (λ n s e again. again)
    (λ n q. elim (dec_lt n m) [ yes l ↦ omega arith | no l ↦ absurd (q (h n (omega arith))) ]) n

pub size_le : (n : ℕ) (f : List ℕ) → size_to n f ≤ n
size_le n f = by_size f (λ n s. s ≤ n) (omega arith) (λ n s e again. omega arith) (λ n q. omega arith) n

-- the highest number that is not 0 stands at m
size_is : (n m : ℕ) (f : List ℕ) → Clear n f → ¬ (get_or f m 0 ≡ 0) → Clear (suc m) f → size_to n f ≡ suc m
size_is n m f hn q h =
    let l = size_below n (suc m) f h in
    elim (dec_le (size_to n f) m) [ yes k ↦ absurd (q (size_clear n f hn m k)) | no k ↦ omega arith ]

pub eight_clear : (p : ℕ) (f : List ℕ) → Eight p f → Clear 8 f
eight_clear p f h i l = past_end 8 i f h.eight l

-- where the highest number is 1, at d, the size is one more
pub leads_size : (p d : ℕ) (u : List ℕ) → Eight p u → Leads d u → size_to 8 u ≡ suc d
leads_size p d u h l = size_is 8 d u (eight_clear p u h) (λ e. omega (arith, sym l.one ∙ e)) l.clear

module _ (p : ℕ) (pos : 0 < p) where
  cells_eight : (h : ℕ → ℕ) → ((i : ℕ) → i < 8 → h i < p) → Eight p (cells h 8)
  cells_eight h s = record { eight = cells_length h 8; below = λ i. cells_all (λ n. n < p) h 8 i (s i) (λ l. pos) }

  pub scaled_eight : (c : ℕ) (f : List ℕ) → Eight p (scaled p c f)
  unfolding scaled
  scaled_eight c f = cells_eight _ (λ i l. mod-lt _ pos)

  pub subtract_eight : (c k : ℕ) (f g : List ℕ) → Eight p f → Eight p (subtract p c k f g)
  unfolding subtract
  subtract_eight c k f g h =
      cells_eight _ (λ i l. between_all (λ n. n < p) k 8 (less_at p c k f g) f i (mod-lt _ pos) (h.below i))

  -- a step clears the power k + m, where g is monic of degree m and c stands there
  subtract_clear : (k m : ℕ) (f g : List ℕ) → Eight p f → Clear (suc k + m) f → get_or g m 0 ≡ 1 → Clear (suc m) g
      → Clear (k + m) (subtract p (get_or f (k + m) 0) k f g)
  unfolding subtract
  subtract_clear k m f g h cf g1 cg i l =
      cells_all (λ n. n ≡ 0) (between k 8 (less_at p c k f g) f) 8 i
      (λ b. between_in k 8 (less_at p c k f g) f i (omega arith) b ∙ value (ℕ_discrete i (k + m))) (λ b. refl)
    where
      c : ℕ
      c = get_or f (k + m) 0

      below : c < p
      below = h.below (k + m)

      value : Dec (i ≡ k + m) → (get_or f i 0 + (p - c) * get_or g (i - k) 0) % p ≡ 0
      value (yes e) =
          let d : i - k ≡ m = omega arith in
          let s : c + (p - c) ≡ p = omega (arith, below) in
          ap (λ (n : ℕ). n % p)
          (ap₂ (λ (x y : ℕ). x + (p - c) * y) (ap (λ (n : ℕ). get_or f n 0) e) (ap (λ (n : ℕ). get_or g n 0) d ∙ g1)
          ∙ ap (λ (n : ℕ). c + n) (mul-one (p - c))
          ∙ s)
          ∙ mod_self p
      value (no q) =
          ap (λ (n : ℕ). n % p)
          (ap₂ (λ (x y : ℕ). x + (p - c) * y) (cf i (omega arith)) (cg (i - k) (omega arith)) ∙ ap (λ (n : ℕ). 0 + n) (mul-zero (p - c)))
          ∙ zero-mod p

  -- the remainder is clear from the degree of g on
  pub remainder_eight : (m : ℕ) (g : List ℕ) (k : ℕ) (f : List ℕ) → Eight p f → Eight p (remainder p m g k f)
  remainder_eight m g k = fold_always (Eight p) (λ j f. subtract_eight (get_or f (j + m) 0) j f g) (downwards k)

  pub remainder_clear : (m : ℕ) (g : List ℕ) → get_or g m 0 ≡ 1 → Clear (suc m) g → (k : ℕ) (f : List ℕ) → Eight p f → Clear (k + m) f
      → Clear m (remainder p m g k f)
  unfolding fold downwards
  remainder_clear m g g1 cg zero f h cf = λ i l. cf i (omega arith)
  remainder_clear m g g1 cg (suc k) f h cf =
      remainder_clear m g g1 cg k (subtract p (get_or f (k + m) 0) k f g) (subtract_eight (get_or f (k + m) 0) k f g h)
      (subtract_clear k m f g h cf g1 cg)

-- how the code looks for the size: from n down to m
module _ (f : List ℕ) {n : ℕ} where
  pub size_down : {m : ℕ} → n ≡ suc m → get_or f m 0 ≡ 0 → size_to n f ≡ size_to m f
  unfolding size_to
  size_down e z = rw (e, eq-eqb _ _ z, size_to)

  pub size_found : {m : ℕ} → n ≡ suc m → ¬ (get_or f m 0 ≡ 0) → size_to n f ≡ n
  unfolding size_to
  size_found e q = rw (e, ne_eqb _ _ q, size_to)

  pub size_none : n ≡ 0 → size_to n f ≡ 0
  unfolding size_to
  size_none e = ap (λ (k : ℕ). size_to k f) e
