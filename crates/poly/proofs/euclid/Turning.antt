-- What the loop of Euclid's algorithm keeps: the model's answer from where it began is its answer from here, with fuel that is at least the
-- size of g.
use Rattle.std.specs.Prelude.{◌≡◌, List, ℕ, ◌-◌, ◌≤◌, ◌<◌}
use Rattle.std.proofs.Common.{sym, ap, ap₂, ◌∙◌, subst, arith}
use Rattle.field.specs.Moduli.{Listed}
use Rattle.field.specs.Prime.{Prime}
use Rattle.field.specs.Modulus.Prime.{prime_positive}
use Rattle.field.specs.Modulus.Laws.{listed_prime}
use Rattle.poly.specs.Coefficients.{Eight}
use Rattle.poly.specs.Euclid.Model.{size, remainder, euclid, gcd}
use Rattle.poly.specs.Euclid.Steps.{CanTurn, Stepped, Pair, IsDivisor}
use Rattle.poly.specs.Euclid.Numbers.{remainder_eight}
use Rattle.poly.specs.Euclid.Meaning.{monic_eight}
use Rattle.poly.specs.Euclid.Turns.{turned, rest, euclid_end, turn_on, turn_keeps, turn_falls}

pub record Turning (p : ℕ) (f₀ g₀ : List ℕ) (n : ℕ) (f g : List ℕ) : Type 0 where
  pub is_listed : Listed p
  pub sized : n ≡ size g
  pub first : Eight p f
  pub second : Eight p g
  pub fuel : ℕ
  pub enough : n ≤ fuel
  pub same : gcd p f₀ g₀ ≡ euclid p fuel f g

module _ {p : ℕ} {f₀ g₀ : List ℕ} where
  pub turning_begins : Pair p f₀ g₀ → {n : ℕ} → n ≡ size g₀ → Turning p f₀ g₀ n f₀ g₀
  unfolding gcd
  turning_begins h {n} e =
      record {
        is_listed = h.is_listed;
        sized = e;
        first = h.first;
        second = h.second;
        fuel = n;
        enough = omega arith;
        same = ap (λ (k : ℕ). euclid p k f₀ g₀) (sym e);
      }

  module _ {n : ℕ} {f g : List ℕ} (t : Turning p f₀ g₀ n f g) where
    prime : Prime p
    prime = listed_prime t.is_listed

    -- where g is 0, f is the divisor
    pub turning_ends : n ≤ 0 → {m : ℕ} → m ≡ size f → IsDivisor p f₀ g₀ f m
    turning_ends l e = record { divisor = sym (t.same ∙ euclid_end p t.fuel f g (let s = t.sized in omega arith)); sized = e }

    -- where it is not, the code may take a turn
    pub turning_can : 0 < n → CanTurn p n f g
    turning_can pos = record { is_listed = t.is_listed; first = t.first; second = t.second; sized = t.sized; some = pos }

    -- one turn, which makes g monic and leaves m numbers of f
    module _ (pos : 0 < n) {left made : List ℕ} {m : ℕ} (s : Stepped p n f g left made m) where
      is_rest : left ≡ rest p n f g
      is_rest = s.is_left ∙ ap (λ (u : List ℕ). remainder p (n - 1) u (8 - (n - 1)) f) s.is_monic

      pub turning_keeps : n ≡ size made
      turning_keeps = sym (ap size s.is_monic ∙ turn_keeps p n f g t.sized pos prime t.second)

      pub turning_falls : m < n
      turning_falls =
          let falls : size (rest p n f g) < n = turn_falls p n f g t.sized pos prime t.first t.second in
          omega (arith, s.sized, ap size is_rest)

      pub turning_goes_on : Turning p f₀ g₀ m made left
      turning_goes_on =
          record {
            is_listed = t.is_listed;
            sized = s.sized;
            first = subst (Eight p) (sym s.is_monic) (monic_eight prime (n - 1) g);
            second =
                subst (Eight p) (sym is_rest)
                (remainder_eight p (prime_positive prime) (n - 1) (turned p n g) (8 - (n - 1)) f t.first);
            fuel = t.fuel - 1;
            enough = let e = t.enough in let l = turning_falls in omega arith;
            same =
                t.same ∙ turn_on p n f g t.sized pos t.fuel t.enough
                ∙ ap₂ (euclid p (t.fuel - 1)) (sym s.is_monic) (sym is_rest);
          }
