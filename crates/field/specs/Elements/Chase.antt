-- What the loop of `inverse` keeps: a t is r modulo p, with 0 < r < p.
use Rattle.std.specs.Prelude.{◌≡◌, ℕ, ◌-◌, ◌*◌, ◌/◌, ◌%◌, ◌<◌}
use Rattle.std.proofs.Common.{ap, ◌∙◌, arith, mod-eq_of_lt, mod-lt}
use Rattle.field.specs.Prime.{Prime}
use Rattle.field.specs.Modulus.Prime.{prime_leaves, prime_positive}
use Rattle.field.specs.Fp.{el, mul}
use Rattle.field.specs.Elements.Fp.{el_inj, el_mod, el_mul, el_neg, Fp_mul_one}
use Rattle.field.specs.Elements.Inverse.{inverse_turn}

pub record Chased (p a r t : ℕ) : Type 0 where
  pub holds : mul (el p a) (el p t) ≡ el p r
  pub low : 0 < r
  pub high : r < p
  pub below : t < p

pub begin : {p : ℕ} → Prime p → (a : ℕ) → 0 < a → a < p → Chased p a a 1
begin {p} P a h l = record { holds = Fp_mul_one (el p a); low = h; high = l; below = P.above }

pub next : {p a r t : ℕ} → Prime p → Chased p a r t → ¬ (r ≡ 1) → Chased p a (p % r) ((p - p / r * t % p) % p)
next {p} {a} {r} {t} P k n =
    let m : p % r < r = mod-lt p k.low in
    record {
      holds = rw (el_mod, el_neg, el_mul) (inverse_turn p (prime_positive P) (el p a) (el p t) r k.holds);
      low = prime_leaves P r (omega arith) k.high;
      high = omega arith;
      below = mod-lt (p - p / r * t % p) (prime_positive P);
    }

pub end : {p a r t : ℕ} → 1 < p → Chased p a r t → r ≡ 1 → (a * t) % p ≡ 1
end {p} {a} {r} {t} h k z =
    el_inj p (a * t) 1 (el_mul p a t ∙ k.holds ∙ ap (λ (n : ℕ). el p n) z) ∙ mod-eq_of_lt h
