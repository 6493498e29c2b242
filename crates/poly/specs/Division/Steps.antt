-- The division on cells goes on by one cell: a cell that is 0 is passed, a leading term that can be divided is taken away, one that cannot ends it.
-- The outcome and the terms found go the same way, so what each step keeps holds of both.
use Rattle.std.specs.Prelude.{◌≡◌, Bool, length, get_or, set}
use Rattle.std.proofs.Math.Path.{refl, ap}
use Rattle.std.proofs.Math.Bool.{true, false}
use mathlib.Core.List.{List, [], ◌∷◌}
use Prim.Native.Nat.{ℕ, zero, suc, ◌-◌, ◌≤◌}
use Rattle.std.proofs.Math.Decide.{ℕ_discrete}
use Rattle.std.proofs.Common.{arith}
use borrow.Author.Tests.{eq-eqb, ne_eqb}
use Rattle.poly.specs.Keys.{keys}
use Rattle.poly.specs.Terms.{keyed}
use Rattle.poly.specs.Division.SpreadModel.{spread}
use Rattle.poly.specs.Division.Model.{most_key, at_most, Setting, less_product, fits, factor, less, Outcome, divide_from, found_from, setting}
use Rattle.poly.specs.Division.Model.{divided, found}

-- the outcome, as the code takes its steps: from k down to j
module _ (d : Setting) (l c : List ℕ) where
  pub division_done : {k : ℕ} → k ≡ 0 → divide_from d k l c ≡ record { whole = true; quotient = c }
  unfolding divide_from
  division_done e = ap (λ (n : ℕ). divide_from d n l c) e

  module _ {j k : ℕ} (e : k ≡ suc j) where
    pub division_passed : get_or l j 0 ≡ 0 → divide_from d k l c ≡ divide_from d j l c
    unfolding divide_from
    division_passed z = rw (e, eq-eqb _ _ z, divide_from)

    pub division_taken : ¬ (get_or l j 0 ≡ 0) → fits d j ≡ true → {q : ℕ} → q ≡ factor d j l
        → divide_from d k l c ≡ divide_from d j (less_product d.modulus (j - d.lead) q d.terms l) (set c (j - d.lead) q)
    unfolding divide_from
    division_taken n f eq = rw (eq, e, ne_eqb _ _ n, divide_from) (rw (f, divide_from))

    pub division_stopped : ¬ (get_or l j 0 ≡ 0) → fits d j ≡ false → divide_from d k l c ≡ record { whole = false; quotient = c }
    unfolding divide_from
    division_stopped n f = rw (e, ne_eqb _ _ n, divide_from) (rw (f, divide_from))

-- and the terms found
module _ (d : Setting) (l : List ℕ) where
  pub found_done : {k : ℕ} → k ≡ 0 → found_from d k l ≡ []
  unfolding found_from
  found_done e = ap (λ (n : ℕ). found_from d n l) e

  module _ {j k : ℕ} (e : k ≡ suc j) where
    pub found_passed : get_or l j 0 ≡ 0 → found_from d k l ≡ found_from d j l
    unfolding found_from
    found_passed z = rw (e, eq-eqb _ _ z, found_from)

    pub found_taken : ¬ (get_or l j 0 ≡ 0) → fits d j ≡ true → {q : ℕ} → q ≡ factor d j l
        → found_from d k l ≡ keyed (j - d.lead) q ∷ found_from d j (less_product d.modulus (j - d.lead) q d.terms l)
    unfolding found_from
    found_taken n f eq = rw (eq, e, ne_eqb _ _ n, found_from) (rw (f, found_from))

    pub found_stopped : ¬ (get_or l j 0 ≡ 0) → fits d j ≡ false → found_from d k l ≡ []
    unfolding found_from
    found_stopped n f = rw (e, ne_eqb _ _ n, found_from) (rw (f, found_from))

-- What holds where a division ends, and of one cell more where it holds of what is left, holds of every division: of its cells l and c,
-- the terms found and the outcome.
module _ (d : Setting) (Holds : ℕ → List ℕ → List ℕ → List ℕ → Outcome → Type 0)
    (ends : (l c : List ℕ) → Holds 0 l c [] (record { whole = true; quotient = c }))
    (passes : (k : ℕ) (l c qs : List ℕ) (o : Outcome) → get_or l k 0 ≡ 0 → Holds k l c qs o → Holds (suc k) l c qs o)
    (takes : (k : ℕ) (l c qs : List ℕ) (o : Outcome) → ¬ (get_or l k 0 ≡ 0) → fits d k ≡ true
    → Holds k (less d k l) (set c (k - d.lead) (factor d k l)) qs o → Holds (suc k) l c (keyed (k - d.lead) (factor d k l) ∷ qs) o)
    (stops : (k : ℕ) (l c : List ℕ) → ¬ (get_or l k 0 ≡ 0) → fits d k ≡ false → Holds (suc k) l c [] (record { whole = false; quotient = c })) where
  pub by_cells : (k : ℕ) (l c : List ℕ) → Holds k l c (found_from d k l) (divide_from d k l c)
  unfolding found_from divide_from
  by_cells zero l c = ends l c
  by_cells (suc k) l c = cell (ℕ_discrete (get_or l k 0) 0) (fits d k) refl (λ m b. by_cells k m b)
    where
      cell : Dec (get_or l k 0 ≡ 0) → (a : Bool) → fits d k ≡ a → ((m b : List ℕ) → Holds k m b (found_from d k m) (divide_from d k m b))
          → Holds (suc k) l c (found_from d (suc k) l) (divide_from d (suc k) l c)
      cell (yes e) a q again = rw (eq-eqb _ _ e, found_from, divide_from) (passes k l c _ _ e (again l c))
      cell (no n) true q again =
          rw (ne_eqb _ _ n, found_from, divide_from) (rw (q, found_from, divide_from) (takes k l c _ _ n q (again _ _)))
      cell (no n) false q again =
          rw (ne_eqb _ _ n, found_from, divide_from) (rw (q, found_from, divide_from) (stops k l c n q))

-- no more terms than cells
pub found_few : (d : Setting) (k : ℕ) (l : List ℕ) → length (found_from d k l) ≤ k
found_few d k l =
    by_cells d (λ k l c qs o. length qs ≤ k) (λ l c. omega arith) (λ k l c qs o e h. omega arith) (λ k l c qs o n f h. omega arith)
    (λ k l c n f. omega arith) k l []

-- the same of two lists: at once no, or by cells
module _ (p : ℕ) (f g l c : List ℕ) (Holds : List ℕ → Outcome → Type 0)
    (wide : at_most (most_key g) (most_key f) ≡ false → Holds [] (record { whole = false; quotient = c }))
    (runs : at_most (most_key g) (most_key f) ≡ true
    → Holds (found_from (setting p f g) keys (spread f l)) (divide_from (setting p f g) keys (spread f l) c)) where
  pub by_lists : Holds (found p f g l) (divided p f g l c)
  unfolding found divided
  by_lists = go (at_most (most_key g) (most_key f)) refl
    where
      go : (a : Bool) → at_most (most_key g) (most_key f) ≡ a → Holds (found p f g l) (divided p f g l c)
      go true e = rw (e, found, divided) (runs e)
      go false e = rw (e, found, divided) (wide e)
