-- Homomorphisms that keep the finite elements: coefficientwise maps and swaps of variables.
use Rattle.std.proofs.Common.{sym, ◌∙◌, subst, arith}
use Rattle.std.proofs.Math.Path.{ap, fun_ext}
use Rattle.std.specs.Prelude.{ℕ, zero, suc, ◌+◌ as ◌+ₙ◌, ◌≤◌, ◌<◌}
use Rattle.std.proofs.Math.Decide.{ℕ_discrete, dec_le}
use Rattle.algebra.specs.Ring.{CommRing}
use Rattle.algebra.specs.Series.{Seq}
use Rattle.algebra.specs.SeriesRing.{SeriesR}
use Rattle.algebra.specs.Domain.{Domain}
use Rattle.algebra.specs.Polynomials.{SeriesD}
use Rattle.algebra.specs.Laws.Maps.{Hom, SeriesH, flipH}

-- h 0 + .. + h (N - 1), a bound of each
unfoldable pub sum : ℕ → (ℕ → ℕ) → ℕ
sum zero h = 0
sum (suc N) h = h N +ₙ sum N h

le_sum : (N : ℕ) (h : ℕ → ℕ) (n : ℕ) → n < N → h n ≤ sum N h
unfolding sum
le_sum zero h n l = absurd (omega arith)
le_sum (suc N) h n l = elim (ℕ_discrete n N) [
  | yes e ↦ subst (λ k. h k ≤ h N +ₙ sum N h) (sym e) (omega arith)
  | no q ↦ let r : h n ≤ sum N h = le_sum N h n (omega arith) in omega arith
]

-- a homomorphism that keeps the finite elements
unfoldable pub Keeps : (R S : CommRing) (D : Domain R) (E : Domain S) → Hom R S → Type 0
Keeps R S D E φ = (a : R.Car) → D.P a → E.P (φ.fn a)

pub keeps_map : (R S : CommRing) (D : Domain R) (E : Domain S) (φ : Hom R S) → Keeps R S D E φ
    → Keeps (SeriesR R) (SeriesR S) (SeriesD R D) (SeriesD S E) (SeriesH R S φ)
unfolding Keeps
keeps_map R S D E φ k f h = record {
  bound = h.bound;
  ends = λ n l. ap φ.fn (h.ends n l) ∙ φ.zero;
  coef = λ n. k (f n) (h.coef n);
}

module _ (R : CommRing) (D : Domain R) where
  pub keeps_flip : Keeps (SeriesR (SeriesR R)) (SeriesR (SeriesR R)) (SeriesD (SeriesR R) (SeriesD R D)) (SeriesD (SeriesR R) (SeriesD R D)) (flipH R)
  unfolding Keeps
  keeps_flip f h = record {
    bound = sum h.bound (λ n. (h.coef n).bound);
    ends = λ b l. fun_ext λ a. elim (dec_le h.bound a) [
      | yes m ↦ ap (λ (u : Seq R). u b) (h.ends a m)
      | no q ↦ let s : (h.coef a).bound ≤ sum h.bound (λ n. (h.coef n).bound) = le_sum h.bound (λ n. (h.coef n).bound) a (omega arith) in
          (h.coef a).ends b (omega arith)
    ];
    coef = λ b. record { bound = h.bound; ends = λ a l. ap (λ (u : Seq R). u b) (h.ends a l); coef = λ a. (h.coef a).coef b };
  }
