-- Spreading a falling list over cells that are 0, and gathering cells again, keep the polynomial.
use Rattle.std.specs.Prelude.{◌≡◌, refl, get_or, set}
use Rattle.std.proofs.Math.Path.{sym, ap}
use Rattle.std.proofs.Common.{◌∙◌, ap₂, subst, length-set, get_or-set_same}
use mathlib.Core.List.{List, [], ◌∷◌}
use Prim.Native.Nat.{ℕ, zero, suc, ◌≤◌, ◌<◌}
use Rattle.std.proofs.Math.Decide.{ℕ_discrete}
use native.Mathlib.Omega.{arith}
use borrow.Author.Tests.{eq-eqb, ne_eqb}
use Rattle.std.proofs.Math.ListN.{length}
use Rattle.std.proofs.Math.Seq.{get_or-set_other}
use Rattle.algebra.specs.Ring.{CommRing}
use Rattle.algebra.specs.SeriesRing.{S4}
use Rattle.algebra.specs.Monomial.{monomial, polynomial}
use Rattle.algebra.specs.Laws.Solver.{◌⊕◌, ◌⊖◌, ⊝, ◌≗◌, k0, ring1, ring2}
use Rattle.algebra.specs.Laws.Monomial.{monomial_neg}
use Rattle.field.specs.Loops.Fold.{fold, fold_keeps, fold_always}
use Rattle.field.specs.Fp.{Fp, el}
use Rattle.field.specs.Prime.{Prime}
use Rattle.field.specs.Modulus.Prime.{prime_positive}
use Rattle.field.specs.Modulo.{Modulo}
use Rattle.poly.specs.Keys.{exponents}
use Rattle.poly.specs.Terms.{key_of, coefficient_of, poly, coefficient_limit, keyed}
use Rattle.poly.specs.Lists.{Falling}
use Rattle.poly.specs.Key.Terms.{key_of_term, coefficient_of_term}
use Rattle.poly.specs.List.Falling.{falling_coefficient}
use Rattle.field.specs.Loops.Places.{set_all, Clear, clear_one_less}
use Rattle.poly.specs.Division.Dense.{Reduced, dense, dense_set, dense_store, dense_zero, set_reduced}
use Rattle.poly.specs.Division.SpreadModel.{spread, gathered}

pub spread_length : (ts l : List ℕ) → length (spread ts l) ≡ length l
spread_length ts l = fold_always (λ m. length m ≡ length l) (λ t m e. length-set m _ _ ∙ e) ts l refl

-- a cell above every key stays as it is
pub spread_above : (ts l : List ℕ) (i : ℕ) → ((j : ℕ) → j < length ts → key_of (get_or ts j 0) < i) → get_or (spread ts l) i 0 ≡ get_or l i 0
spread_above ts l i h =
    fold_keeps (λ t. key_of t < i) (λ m. get_or m i 0 ≡ get_or l i 0) (λ t m b e. get_or-set_other m _ i _ 0 (λ q. omega arith) ∙ e) ts h l refl

-- from k down to j
module _ {j k : ℕ} (e : k ≡ suc j) (l : List ℕ) where
  pub gather_passed : get_or l j 0 ≡ 0 → gathered k l ≡ gathered j l
  unfolding gathered
  gather_passed z = rw (e, eq-eqb _ _ z, gathered)

  pub gather_taken : ¬ (get_or l j 0 ≡ 0) → gathered k l ≡ keyed j (get_or l j 0) ∷ gathered j l
  unfolding gathered
  gather_taken n = rw (e, ne_eqb _ _ n, gathered)

gather_step : (k : ℕ) (l m : List ℕ) → get_or l k 0 ≡ get_or m k 0 → gathered k l ≡ gathered k m → Dec (get_or l k 0 ≡ 0) → gathered (suc k) l ≡ gathered (suc k) m
gather_step k l m e h (yes z) = gather_passed refl l z ∙ h ∙ sym (gather_passed refl m (sym e ∙ z))
gather_step k l m e h (no n) =
    gather_taken refl l n ∙ ap₂ (λ (c : ℕ) (r : List ℕ). keyed k c ∷ r) e h ∙ sym (gather_taken refl m (λ z. n (e ∙ z)))

-- only the cells below k count
gather_set : (k j v : ℕ) (l : List ℕ) → k ≤ j → gathered k (set l j v) ≡ gathered k l
unfolding gathered
gather_set zero j v l h = refl
gather_set (suc k) j v l h =
    gather_step k (set l j v) l (get_or-set_other l j k v 0 (λ e. omega arith)) (gather_set k j v l (omega arith))
    (ℕ_discrete (get_or (set l j v) k 0) 0)

pub spread_reduced : (p : ℕ) (ts l : List ℕ) (b : ℕ) → Falling p b ts → Reduced p l → Reduced p (spread ts l)
spread_reduced p ts l b h =
    fold_keeps (λ t. coefficient_of t < p) (Reduced p) (λ t m c red. set_reduced p m _ _ c red) ts (falling_coefficient p b ts h) l

pub gather_falling : (p : ℕ) → p ≤ coefficient_limit → (k : ℕ) (l : List ℕ) (b : ℕ) → k ≤ b → Reduced p l → Falling p b (gathered k l)
unfolding gathered
gather_falling p w zero l b m red = tt
gather_falling p w (suc k) l b m red = go (ℕ_discrete (get_or l k 0) 0) (λ c n. gather_falling p w k l c n red)
  where
    go : Dec (get_or l k 0 ≡ 0) → ((c : ℕ) → k ≤ c → Falling p c (gathered k l)) → Falling p b (gathered (suc k) l)
    go (yes z) again = subst (Falling p b) (sym (gather_passed refl l z)) (again b (omega arith))
    go (no n) again =
        let r = red k in
        let ek : key_of (keyed k (get_or l k 0)) ≡ k = key_of_term k (get_or l k 0) (omega arith) in
        let ec : coefficient_of (keyed k (get_or l k 0)) ≡ get_or l k 0 = coefficient_of_term k (get_or l k 0) (omega arith) in
        subst (Falling p b) (sym (gather_taken refl l n)) (omega arith, omega arith, omega arith, again (key_of (keyed k (get_or l k 0))) (omega arith))

module _ (p : ℕ) (P : Prime p) where
  abbrev R : CommRing
  R = (Modulo p P).ring

  pub spread_dense : (ts l : List ℕ) (b : ℕ) → Falling p b ts → b ≤ length l → ((i : ℕ) → i < b → get_or l i 0 ≡ 0)
      → dense p P (spread ts l) ≡ (S4 R).add (dense p P l) (poly p P ts)
  unfolding fold polynomial
  spread_dense [] l b h m z = sym ((S4 R).add_zero (dense p P l))
  spread_dense (t ∷ ts) l b h m z =
      let lt : key_of t < length l = let a = h.0 in omega arith in
      spread_dense ts (set l (key_of t) (coefficient_of t)) (key_of t) h.3 (subst (λ (n : ℕ). key_of t ≤ n) (sym (length-set l _ _)) (omega arith))
      (λ i q. get_or-set_other l (key_of t) i (coefficient_of t) 0 (λ r. omega arith) ∙ z i (let a = h.0 in omega arith))
      ∙ ap (λ (d : (S4 R).Car). (S4 R).add d (poly p P ts))
      (dense_store p P l (key_of t) (coefficient_of t) lt (z (key_of t) h.0))
      ∙ (S4 R).add_assoc _ _ _

  -- the cells' terms mean what the cells mean
  pub gather_dense : p ≤ coefficient_limit → (k : ℕ) (l : List ℕ) → k ≤ length l → Reduced p l → Clear k l → poly p P (gathered k l) ≡ dense p P l
  unfolding gathered polynomial
  gather_dense w zero l m red z = sym (dense_zero p P l (λ i. z i (omega arith)))
  gather_dense w (suc k) l m red z = go (ℕ_discrete (get_or l k 0) 0) (λ l'. gather_dense w k l')
    where
      lt : k < length l
      lt = omega arith

      cleared : Clear k (set l k 0)
      cleared = clear_one_less k (set l k 0) (get_or-set_same l k 0 0 lt) (λ i h. set_all (λ n. n ≡ 0) l k i 0 0 refl (z i h))

      go : Dec (get_or l k 0 ≡ 0) → ((l' : List ℕ) → k ≤ length l' → Reduced p l' → Clear k l' → poly p P (gathered k l') ≡ dense p P l')
          → poly p P (gathered (suc k) l) ≡ dense p P l
      go (yes e) again = ap (poly p P) (gather_passed refl l e) ∙ again l (omega arith) red (clear_one_less k l e z)
      go (no n) again =
          let v = get_or l k 0 in
          let lv : v < coefficient_limit = let r = red k in omega arith in
          let M : Fp p → (S4 R).Car = monomial R (exponents k) in
          ap (poly p P) (gather_taken refl l n)
          ∙ ap₂ (S4 R).add (ap₂ (λ (i j : ℕ). monomial R (exponents i) (el p j)) (key_of_term k v lv) (coefficient_of_term k v lv))
          (ap (poly p P) (sym (gather_set k k 0 l (omega arith)))
          ∙ again (set l k 0) (subst (λ (n : ℕ). k ≤ n) (sym (length-set l k 0)) (omega arith)) (set_reduced p l k 0 (prime_positive P) red) cleared
          ∙ dense_set p P l k 0 lt
          ∙ ap ((S4 R).add (dense p P l)) (ap M (ring1 R (λ a. k0 ⊖ a ≗ ⊝ a) tt (el p v)) ∙ monomial_neg R (exponents k) (el p v)))
          ∙ ring2 (S4 R) (λ a d. a ⊕ (d ⊖ a) ≗ d) tt (M (el p v)) (dense p P l)
