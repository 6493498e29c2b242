-- Today's format: it is well formed, its numbers, and its known kinds, by computing.
use Rattle.std.specs.Prelude.{ℕ, zero, suc, ◌≤◌, ◌≡◌, Bool, true, false, [], ◌∷◌}
use Rattle.std.proofs.Math.Path.{refl}
use Rattle.std.proofs.Common.{arith}
use Rattle.std.proofs.Math.ListN.{get_or}
use Rattle.case_file.specs.Format.{WellFormed, today, order, known, kind_of, body, limit, fullest, enough}
use Rattle.case_file.specs.Format.{modulus_kind, first_kind, second_kind, skeleton_kind, point_kind, end_kind}
use Rattle.case_file.specs.Record.Tests.{above, at_most_greatest}

pub well_formed : WellFormed today
unfolding kind_of
well_formed = record { rising = refl; one_first = refl; one_last = refl; bare_last = refl }

pub fullest_is : fullest today ≡ 2884
unfolding kind_of
fullest_is = refl

-- the programs read a buffer of 4,096 bytes
pub enough_in_buffer : enough today ≤ 4096
unfolding kind_of
enough_in_buffer = omega arith

-- what holds for each known kind holds for every known kind
pub by_kind : (P : ℕ → Type 0) (k : ℕ) → modulus_kind ≤ k → k ≤ end_kind
    → P modulus_kind → P first_kind → P second_kind → P skeleton_kind → P point_kind → P end_kind → P k
by_kind P zero low high p₁ p₂ p₃ p₄ p₅ p₆ = absurd (omega arith)
by_kind P (suc zero) low high p₁ p₂ p₃ p₄ p₅ p₆ = p₁
by_kind P (suc (suc zero)) low high p₁ p₂ p₃ p₄ p₅ p₆ = p₂
by_kind P (suc (suc (suc zero))) low high p₁ p₂ p₃ p₄ p₅ p₆ = p₃
by_kind P (suc (suc (suc (suc zero)))) low high p₁ p₂ p₃ p₄ p₅ p₆ = p₄
by_kind P (suc (suc (suc (suc (suc zero))))) low high p₁ p₂ p₃ p₄ p₅ p₆ = p₅
by_kind P (suc (suc (suc (suc (suc (suc zero)))))) low high p₁ p₂ p₃ p₄ p₅ p₆ = p₆
by_kind P (suc (suc (suc (suc (suc (suc (suc k))))))) low high p₁ p₂ p₃ p₄ p₅ p₆ = absurd (omega arith)

module _ (k : ℕ) where
  module _ (low : modulus_kind ≤ k) (high : k ≤ end_kind) where
    pub in_range : known today k ≡ true
    unfolding known
    in_range = by_kind (λ (k : ℕ). known today k ≡ true) k low high refl refl refl refl refl refl

    pub body_at : get_or (0 ∷ 2 ∷ 4 ∷ 4 ∷ 2 ∷ 6 ∷ 0 ∷ []) k 0 ≡ body today k
    unfolding kind_of
    body_at = by_kind (λ (k : ℕ). get_or (0 ∷ 2 ∷ 4 ∷ 4 ∷ 2 ∷ 6 ∷ 0 ∷ []) k 0 ≡ body today k) k low high refl refl refl refl refl refl

    pub limit_at : get_or (0 ∷ 1 ∷ 256 ∷ 256 ∷ 32 ∷ 32 ∷ 1 ∷ []) k 0 ≡ limit today k
    unfolding kind_of
    limit_at = by_kind (λ (k : ℕ). get_or (0 ∷ 1 ∷ 256 ∷ 256 ∷ 32 ∷ 32 ∷ 1 ∷ []) k 0 ≡ limit today k) k low high refl refl refl refl refl refl

  pub range : known today k ≡ true → (modulus_kind ≤ k) × (k ≤ end_kind)
  unfolding known
  range h = (above k (order today) h 0 refl, at_most_greatest (λ (j : ℕ). j) k (order today) h)

  pub out_of_range : ((modulus_kind ≤ k) × (k ≤ end_kind) → ⊥) → known today k ≡ false
  out_of_range h = go (known today k) refl
    where
      go : (b : Bool) → known today k ≡ b → known today k ≡ false
      go true e = absurd (h (range e))
      go false e = e
