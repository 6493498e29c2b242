-- What holds at each place of a list: after a store, and in a list of one number; zeros from a place on.
use Rattle.std.specs.Prelude.{◌≡◌, List, [], ◌∷◌, ℕ, zero, suc, ◌≤◌, get_or, set, replicate}
use Rattle.std.proofs.Common.{ap, ◌∙◌, arith}
use Rattle.std.proofs.Math.Decide.{ℕ_discrete}

pub set_all : {A : Type 0} (P : A → Type 0) (l : List A) (i k : ℕ) (a d : A) → P a → P (get_or l k d) → P (get_or (set l i a) k d)
set_all P [] i k a d new old = old
set_all P (x ∷ l) zero zero a d new old = new
set_all P (x ∷ l) zero (suc k) a d new old = old
set_all P (x ∷ l) (suc i) zero a d new old = old
set_all P (x ∷ l) (suc i) (suc k) a d new old = set_all P l i k a d new old

pub replicate_all : {A : Type 0} (P : A → Type 0) (n i : ℕ) (a d : A) → P a → P d → P (get_or (replicate n a) i d)
replicate_all P zero i a d pa pd = pd
replicate_all P (suc n) zero a d pa pd = pa
replicate_all P (suc n) (suc i) a d pa pd = replicate_all P n i a d pa pd

-- zeros from n on
abbrev pub Clear : ℕ → List ℕ → Type 0
Clear n f = (i : ℕ) → n ≤ i → get_or f i 0 ≡ 0

pub clear_one_less : (n : ℕ) (f : List ℕ) → get_or f n 0 ≡ 0 → Clear (suc n) f → Clear n f
clear_one_less n f e h i l = elim (ℕ_discrete i n) [ yes q ↦ ap (λ (k : ℕ). get_or f k 0) q ∙ e | no q ↦ h i (omega arith) ]
