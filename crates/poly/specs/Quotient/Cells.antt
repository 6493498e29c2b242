-- The quotient's cells hold the terms that the division on cells finds.
use Rattle.std.specs.Prelude.{◌≡◌, List, [], ◌∷◌, ℕ, ◌+◌, ◌-◌, ◌≤◌, ◌<◌, length, get_or, set}
use Rattle.std.proofs.Math.Path.{sym, ap}
use Rattle.std.proofs.Common.{◌∙◌, ap₂, subst, mod-lt, length-set, get_or-set_other}
use native.Mathlib.Omega.{arith}
use Rattle.algebra.specs.Ring.{CommRing}
use Rattle.algebra.specs.SeriesRing.{S4}
use Rattle.algebra.specs.Monomial.{monomial, polynomial}
use Rattle.algebra.specs.Laws.Ring.{zero_add}
use Rattle.field.specs.Fp.{el}
use Rattle.field.specs.Prime.{Prime}
use Rattle.field.specs.Modulus.Prime.{prime_positive}
use Rattle.field.specs.Modulo.{Modulo}
use Rattle.poly.specs.Keys.{exponents}
use Rattle.poly.specs.Terms.{poly, coefficient_limit, keyed}
use Rattle.poly.specs.Key.Difference.{fits_key}
use Rattle.poly.specs.Division.Dense.{Reduced, dense, dense_zero, dense_store, set_reduced, zeros_reduced}
use Rattle.poly.specs.Division.Steps.{by_cells}
use Rattle.poly.specs.Division.Model.{Setting, factor, divide_from, found_from}
use Rattle.poly.specs.Key.Terms.{key_of_term, coefficient_of_term}

module _ (p : ℕ) (P : Prime p) (n : ℕ) where
  abbrev R : CommRing
  R = (Modulo p P).ring

  -- the cells c' are the cells c with the terms qs stored
  pub record Stored (c c' qs : List ℕ) : Type 0 where
    pub long : length c' ≡ n
    pub reduced : Reduced p c'
    pub means : dense p P c' ≡ (S4 R).add (dense p P c) (poly p P qs)

  pub nothing_stored : (c : List ℕ) → length c ≡ n → Reduced p c → Stored c c []
  unfolding polynomial
  nothing_stored c long red = record { long = long; reduced = red; means = sym ((S4 R).add_zero (dense p P c)) }

  store_one : p ≤ coefficient_limit → (s q : ℕ) (c c' qs : List ℕ) → q < p → s < length c → get_or c s 0 ≡ 0 → Stored (set c s q) c' qs → Stored c c'
      (keyed s q ∷ qs)
  unfolding polynomial
  store_one word s q c c' qs lq ls z r =
      record {
        long = r.long;
        reduced = r.reduced;
        means =
            let w : q < coefficient_limit = omega arith in
            r.means
            ∙ ap (λ (f : (S4 R).Car). (S4 R).add f (poly p P qs))
            (dense_store p P c s q ls z)
            ∙ (S4 R).add_assoc _ _ _
            ∙ ap (λ (m : (S4 R).Car). (S4 R).add (dense p P c) ((S4 R).add m (poly p P qs)))
            (ap₂ (λ (i j : ℕ). monomial R (exponents i) (el p j)) (sym (key_of_term s q w)) (sym (coefficient_of_term s q w)));
      }

module _ (d : Setting) (P : Prime d.modulus) (word : d.modulus ≤ coefficient_limit) (n : ℕ) where
  abbrev p : ℕ
  p = d.modulus

  stores : (k : ℕ) (l c : List ℕ) → k ≤ n → length c ≡ n → Reduced p c → ((i : ℕ) → i + d.lead < k → get_or c i 0 ≡ 0)
      → Stored p P n c (divide_from d k l c).quotient (found_from d k l)
  stores =
      by_cells d (λ k l c qs o. k ≤ n → length c ≡ n → Reduced p c → ((i : ℕ) → i + d.lead < k → get_or c i 0 ≡ 0) → Stored p P n c o.quotient qs)
      (λ l c m long red z. nothing_stored p P n c long red)
      (λ k l c qs o e again m long red z. again (omega arith) long red (λ i h. z i (omega arith)))
      (λ k l c qs o e f again m long red z.
      let s : ℕ = k - d.lead in
      let v : ℕ = factor d k l in
      let lv : v < p = mod-lt _ (prime_positive P) in
      let b = fits_key d.lead d.bound k f in
      store_one p P n word s v c o.quotient qs lv (subst (λ (i : ℕ). s < i) (sym long) (omega arith)) (z s (omega arith))
      (again (omega arith) (length-set c s v ∙ long) (set_reduced p c s v lv red)
      (λ i h. get_or-set_other c s i v 0 (λ r. omega arith) ∙ z i (omega arith))))
      (λ k l c e f m long red z. nothing_stored p P n c long red)

  -- into cells that were 0
  pub quotient_stored : (l c : List ℕ) → length c ≡ n → ((i : ℕ) → get_or c i 0 ≡ 0)
      → Stored d.modulus P n c (divide_from d n l c).quotient (found_from d n l)
  quotient_stored l c long z = stores n l c (omega arith) long (zeros_reduced p c (prime_positive P) z) (λ i h. z i)

-- which then mean the sum of the terms
pub stored_means : (p : ℕ) (P : Prime p) (n : ℕ) (c c' qs : List ℕ) → ((i : ℕ) → get_or c i 0 ≡ 0) → Stored p P n c c' qs → dense p P c' ≡ poly p P qs
stored_means p P n c c' qs z r =
    r.means ∙ ap (λ (f : (S4 (Modulo p P).ring).Car). (S4 (Modulo p P).ring).add f (poly p P qs)) (dense_zero p P c z) ∙ zero_add (S4 (Modulo p P).ring) _
