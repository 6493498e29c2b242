-- A list given by what stands at each place, and an array of n numbers while a loop fills it so.
use Rattle.std.specs.Prelude.{◌≡◌, true, false, List, [], ◌∷◌, ℕ, zero, suc, ◌≤◌, ◌<◌, ltb, length, get_or}

-- h 0, h 1, .., h (n - 1)
unfoldable pub cells : (ℕ → ℕ) → ℕ → List ℕ
cells h zero = []
cells h (suc n) = h zero ∷ cells (λ i. h (suc i)) n

-- filled up to i, as it was from i on
pub record Filled (h : ℕ → ℕ) (n : ℕ) (old : List ℕ) (i : ℕ) (r : List ℕ) : Type 0 where
  pub within : i ≤ n
  pub long : length r ≡ n
  pub done : (j : ℕ) → j < i → get_or r j 0 ≡ h j
  pub left : (j : ℕ) → i ≤ j → get_or r j 0 ≡ get_or old j 0

-- h at the places from i up to n, and what stood there at the others
unfoldable pub between : ℕ → ℕ → (ℕ → ℕ) → List ℕ → ℕ → ℕ
between i n h old k = elim (ltb k i) [ true ↦ get_or old k 0 | false ↦ elim (ltb k n) [ true ↦ h k | false ↦ get_or old k 0 ] ]

-- an array of which the places from i up to n are filled so, up to k
pub record FilledPart (i n : ℕ) (h : ℕ → ℕ) (size : ℕ) (old : List ℕ) (k : ℕ) (r : List ℕ) : Type 0 where
  pub from : i ≤ k
  pub filled : Filled (between i n h old) size old k r
