-- Cells as a polynomial: the cell at a key is the coefficient of that monomial. What a store, and the subtraction of a product, mean.
use Rattle.std.specs.Prelude.{◌≡◌, length, get_or, set}
use Rattle.std.proofs.Math.Path.{refl, sym, ap, ap₂}
use Rattle.std.proofs.Common.{◌∙◌, subst, mod-lt, length-set}
use mathlib.Core.List.{List, [], ◌∷◌}
use Prim.Native.Nat.{ℕ, zero, suc, ◌+◌, ◌-◌, ◌*◌, ◌%◌, ◌≤◌, ◌<◌}
use Rattle.std.proofs.Math.Decide.{dec_lt}
use native.Mathlib.Omega.{arith}
use Rattle.algebra.specs.Ring.{CommRing}
use Rattle.algebra.specs.SeriesRing.{S4}
use Rattle.algebra.specs.Four.{Exponents, ◌⊞◌, ◌≺◌, coef}
use Rattle.algebra.specs.Monomial.{term, polynomial, monomial}
use Rattle.algebra.specs.Lead.{Lead, Upto}
use Rattle.algebra.specs.Laws.Ring.{zero_add}
use Rattle.algebra.specs.Laws.Solver.{◌⊕◌, ◌⊗◌, ◌⊖◌, ⊝, ◌≗◌, k0, ring1, ring2, ring3, ring4}
use Rattle.algebra.specs.Laws.Monomial.{monomial_at, monomial_off, monomial_add, monomial_zero, monomial_neg, monomial_mul}
use Rattle.field.specs.Loops.Fold.{fold, fold_always}
use Rattle.field.specs.Fp.{Fp, el, add, neg, mul}
use Rattle.field.specs.Elements.Fp.{el_nonzero}
use Rattle.field.specs.Prime.{Prime}
use Rattle.field.specs.Modulus.Prime.{prime_positive}
use Rattle.field.specs.Modulo.{Modulo}
use Rattle.field.specs.Elements.Link.{minus_times_el}
use Rattle.poly.specs.Keys.{exponents}
use Rattle.poly.specs.Terms.{key_of, coefficient_of, term_of, poly}
use Rattle.field.specs.Loops.Places.{set_all}
use Rattle.poly.specs.Key.Laws.{exponents_injective, key_order_of}
use Rattle.poly.specs.Division.Model.{less_term, less_product}

-- the cells of l are numbers modulo p
abbrev pub Reduced : ℕ → List ℕ → Type 0
Reduced p l = (i : ℕ) → get_or l i 0 < p

pub set_reduced : (p : ℕ) (l : List ℕ) (k v : ℕ) → v < p → Reduced p l → Reduced p (set l k v)
set_reduced p l k v h red i = set_all (λ n. n < p) l k i v 0 h (red i)

pub zeros_reduced : (p : ℕ) (l : List ℕ) → 0 < p → ((i : ℕ) → get_or l i 0 ≡ 0) → Reduced p l
zeros_reduced p l h z i = subst (λ (n : ℕ). n < p) (sym (z i)) h

-- each term moved up by the key s stays within n cells, and its exponents add
abbrev pub MovesUp : ℕ → ℕ → List ℕ → Type 0
MovesUp s n [] = Unit {0}
MovesUp s n (t ∷ ts) = (key_of t + s < n) × (exponents (key_of t + s) ≡ exponents s ⊞ exponents (key_of t)) × MovesUp s n ts

pub less_length : (p s q : ℕ) (ts l : List ℕ) → length (less_product p s q ts l) ≡ length l
less_length p s q ts l = fold_always (λ m. length m ≡ length l) (λ t m e. length-set m _ _ ∙ e) ts l refl

module _ (p : ℕ) (P : Prime p) where
  abbrev R : CommRing
  R = (Modulo p P).ring

  -- the cells, the first at the key k
  unfoldable pub dense_from : ℕ → List ℕ → (S4 (Modulo p P).ring).Car
  dense_from k [] = (S4 R).𝟘
  dense_from k (c ∷ l) = (S4 R).add (monomial R (exponents k) (el p c)) (dense_from (suc k) l)

  abbrev pub dense : List ℕ → (S4 (Modulo p P).ring).Car
  dense l = dense_from 0 l

  dense_from_none : (k : ℕ) (l : List ℕ) (e : Exponents) → ((j : ℕ) → k ≤ j → ¬ (exponents j ≡ e)) → coef R (dense_from k l) e ≡ el p 0
  unfolding dense_from
  dense_from_none k [] e n = refl
  dense_from_none k (c ∷ l) e n =
      ap₂ add (monomial_off R (exponents k) e (el p c) (n k (omega arith))) (dense_from_none (suc k) l e (λ j h. n j (omega arith))) ∙ R.add_zero _

  dense_from_at : (k : ℕ) (l : List ℕ) (i j : ℕ) → j ≡ k + i → coef R (dense_from k l) (exponents j) ≡ el p (get_or l i 0)
  unfolding dense_from
  dense_from_at k [] i j e = refl
  dense_from_at k (c ∷ l) zero j e =
      let q : j ≡ k = omega arith in
      ap (λ (n : ℕ). coef R (dense_from k (c ∷ l)) (exponents n)) q
      ∙ ap₂ add (monomial_at R (exponents k) (el p c)) (dense_from_none (suc k) l (exponents k) (λ i h r. let s = exponents_injective i k r in omega arith))
      ∙ R.add_zero _
  dense_from_at k (c ∷ l) (suc i) j e =
      ap₂ add (monomial_off R (exponents k) (exponents j) (el p c) (λ r. let s = exponents_injective k j r in omega arith))
      (dense_from_at (suc k) l i j (omega arith))
      ∙ zero_add R _

  -- the coefficient at a key is the cell
  pub dense_at : (l : List ℕ) (k : ℕ) → coef R (dense l) (exponents k) ≡ el p (get_or l k 0)
  dense_at l k = dense_from_at 0 l k k (omega arith)

  grown : (u w : Fp p) (e : Exponents) → monomial R e w ≡ (S4 R).add (monomial R e u) (monomial R e (add w (neg u)))
  grown u w e = ap (monomial R e) (ring2 R (λ u w. w ≗ u ⊕ (w ⊖ u)) tt u w) ∙ monomial_add R e u (add w (neg u))

  dense_from_set : (k : ℕ) (l : List ℕ) (i v j : ℕ) → j ≡ k + i → i < length l
      → dense_from k (set l i v) ≡ (S4 R).add (dense_from k l) (monomial R (exponents j) (add (el p v) (neg (el p (get_or l i 0)))))
  unfolding dense_from
  dense_from_set k [] i v j e h = absurd (omega arith)
  dense_from_set k (c ∷ l) zero v j e h =
      let q : k ≡ j = omega arith in
      ap (λ (f : (S4 R).Car). (S4 R).add f (dense_from (suc k) l)) (grown (el p c) (el p v) (exponents k))
      ∙ ring3 (S4 R) (λ a b c. (a ⊕ b) ⊕ c ≗ (a ⊕ c) ⊕ b) tt (monomial R (exponents k) (el p c))
      (monomial R (exponents k) (add (el p v) (neg (el p c)))) (dense_from (suc k) l)
      ∙ ap (λ (n : ℕ). (S4 R).add (dense_from k (c ∷ l)) (monomial R (exponents n) (add (el p v) (neg (el p c))))) q
  dense_from_set k (c ∷ l) (suc i) v j e h =
      ap ((S4 R).add (monomial R (exponents k) (el p c))) (dense_from_set (suc k) l i v j (omega arith) (omega arith)) ∙ sym ((S4 R).add_assoc _ _ _)

  pub dense_set : (l : List ℕ) (k v : ℕ) → k < length l
      → dense (set l k v) ≡ (S4 R).add (dense l) (monomial R (exponents k) (add (el p v) (neg (el p (get_or l k 0)))))
  dense_set l k v h = dense_from_set 0 l k v k (omega arith) h

  -- a number stored where 0 stood
  pub dense_store : (l : List ℕ) (k v : ℕ) → k < length l → get_or l k 0 ≡ 0 → dense (set l k v) ≡ (S4 R).add (dense l) (monomial R (exponents k) (el p v))
  dense_store l k v h z =
      dense_set l k v h
      ∙ ap (λ (x : Fp p). (S4 R).add (dense l) (monomial R (exponents k) x))
      (ap (λ (n : ℕ). add (el p v) (neg (el p n))) z ∙ ring1 R (λ a. a ⊖ k0 ≗ a) tt (el p v))

  dense_from_zero : (k : ℕ) (l : List ℕ) → ((i : ℕ) → get_or l i 0 ≡ 0) → dense_from k l ≡ (S4 R).𝟘
  unfolding dense_from
  dense_from_zero k [] h = refl
  dense_from_zero k (c ∷ l) h =
      ap₂ (S4 R).add (ap (λ (n : ℕ). monomial R (exponents k) (el p n)) (h 0) ∙ monomial_zero R (exponents k)) (dense_from_zero (suc k) l (λ i. h (suc i)))
      ∙ (S4 R).add_zero _

  -- no cell but 0: the zero polynomial
  pub dense_zero : (l : List ℕ) → ((i : ℕ) → get_or l i 0 ≡ 0) → dense l ≡ (S4 R).𝟘
  dense_zero l h = dense_from_zero 0 l h

  dense_from_upto : (k m : ℕ) (l : List ℕ) → ((i : ℕ) → m < k + i → get_or l i 0 ≡ 0) → Upto R (exponents m) (dense_from k l)
  unfolding dense_from
  dense_from_upto k m [] h e o = refl
  dense_from_upto k m (c ∷ l) h e o =
      ap₂ add (go (dec_lt m k)) (dense_from_upto (suc k) m l (λ i q. h (suc i) (omega arith)) e o) ∙ R.add_zero _
    where
      go : Dec (m < k) → coef R (monomial R (exponents k) (el p c)) e ≡ el p 0
      go (yes q) =
          ap (λ (n : ℕ). coef R (monomial R (exponents k) (el p n)) e) (h 0 (omega arith))
          ∙ ap (λ (f : (S4 R).Car). coef R f e) (monomial_zero R (exponents k))
      go (no q) = monomial_off R (exponents k) e (el p c)
          (λ r. let s = key_order_of m k (subst (λ (i : Exponents). exponents m ≺ i) (sym r) o) in omega arith)

  -- the highest cell that is not 0 is the leading monomial
  pub dense_lead : (l : List ℕ) (k : ℕ) → Reduced p l → ((i : ℕ) → k < i → get_or l i 0 ≡ 0) → ¬ (get_or l k 0 ≡ 0) → Lead R (exponents k) (dense l)
  dense_lead l k red h n = record {
    stands = λ e. el_nonzero p (get_or l k 0) (red k) n (sym (dense_at l k) ∙ e);
    above = dense_from_upto 0 k l (λ i q. h i (omega arith));
  }

  -- one term less
  less_one : (s q t : ℕ) (l : List ℕ) → q ≤ p → key_of t + s < length l → exponents (key_of t + s) ≡ exponents s ⊞ exponents (key_of t)
      → dense (less_term p s q t l) ≡ (S4 R).add (dense l) ((S4 R).neg ((S4 R).mul (monomial R (exponents s) (el p q)) (term R (term_of p P t))))
  less_one s q t l hq h e =
      let k = key_of t + s in
      let product = mul (el p q) (el p (coefficient_of t)) in
      let old = el p (get_or l k 0) in
      let v = (get_or l k 0 + (p - q) * coefficient_of t) % p in
      let u : add (el p v) (neg old) ≡ neg product =
      ap (λ (x : Fp p). add x (neg old)) (minus_times_el p (get_or l k 0) q (coefficient_of t) (prime_positive P) hq)
      ∙ ring2 R (λ a b. (a ⊖ b) ⊖ a ≗ ⊝ b) tt old product in
      dense_set l k v h ∙ ap (λ (x : Fp p). (S4 R).add (dense l) (monomial R (exponents k) x)) u
      ∙ ap ((S4 R).add (dense l))
      (monomial_neg R (exponents k) product
      ∙ ap (S4 R).neg
      (ap (λ (i : Exponents). monomial R i product) e
      ∙ sym (monomial_mul R (exponents s) (exponents (key_of t)) (el p q) (el p (coefficient_of t)))))

  -- the remainder less the quotient's term times the divisor
  pub less_dense : (s q : ℕ) (ts l : List ℕ) → q ≤ p → MovesUp s (length l) ts
      → dense (less_product p s q ts l) ≡ (S4 R).add (dense l) ((S4 R).neg ((S4 R).mul (monomial R (exponents s) (el p q)) (poly p P ts)))
  unfolding fold polynomial
  less_dense s q [] l hq f = ring2 (S4 R) (λ d m. d ≗ d ⊖ m ⊗ k0) tt (dense l) (monomial R (exponents s) (el p q))
  less_dense s q (t ∷ ts) l hq f =
      less_dense s q ts (less_term p s q t l) hq (subst (λ (n : ℕ). MovesUp s n ts) (sym (length-set l _ _)) f.2)
      ∙ ap (λ (d : (S4 R).Car). (S4 R).add d ((S4 R).neg ((S4 R).mul (monomial R (exponents s) (el p q)) (poly p P ts)))) (less_one s q t l hq f.0 f.1)
      ∙ ring4 (S4 R) (λ d m a b. (d ⊖ m ⊗ a) ⊖ m ⊗ b ≗ d ⊖ m ⊗ (a ⊕ b)) tt (dense l) (monomial R (exponents s) (el p q)) (term R (term_of p P t)) (poly p P ts)

  pub less_reduced : (s q : ℕ) (ts l : List ℕ) → Reduced p l → Reduced p (less_product p s q ts l)
  less_reduced s q ts = fold_always (Reduced p) (λ t m red. set_reduced p m _ _ (mod-lt _ (prime_positive P)) red) ts
