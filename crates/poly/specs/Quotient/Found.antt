-- The terms that a division finds fall, and are those gathered from the quotient's cells; where it says yes they are the quotient.
use Rattle.std.specs.Prelude.{◌≡◌, true, List, [], ◌∷◌, ℕ, ◌-◌, ◌≤◌, ◌<◌}
use Rattle.std.proofs.Common.{sym, ◌∙◌, ap, subst, mod-lt, arith}
use Rattle.std.proofs.Math.Decide.{ℕ_discrete}
use Rattle.algebra.specs.Ring.{CommRing}
use Rattle.algebra.specs.Polynomials.{domain}
use Rattle.algebra.specs.Monomial.{Term, FallsBelow, Falls}
use Rattle.algebra.specs.Division.{Division}
use Rattle.algebra.specs.Laws.Division.{division_falls, division_quotient, division_determined}
use Rattle.field.specs.Fp.{el}
use Rattle.field.specs.Prime.{Prime}
use Rattle.field.specs.Modulus.Prime.{prime_positive}
use Rattle.field.specs.Modulo.{Modulo}
use Rattle.poly.specs.Keys.{exponents, keys}
use Rattle.poly.specs.Terms.{key_of, coefficient_of, terms_of, poly, coefficient_limit}
use Rattle.poly.specs.QuotientCall.{IsQuotient}
use Rattle.poly.specs.Key.Laws.{key_order_of}
use Rattle.poly.specs.Lists.{Falling}
use Rattle.poly.specs.List.Falling.{falling_right}
use Rattle.poly.specs.Key.Terms.{key_of_term, coefficient_of_term, poly_determines}
use Rattle.poly.specs.Division.Dense.{zeros_reduced}
use Rattle.poly.specs.Division.Spread.{gather_falling, gather_dense}
use Rattle.poly.specs.Division.Steps.{by_cells, by_lists}
use Rattle.poly.specs.Quotient.Cells.{Stored, nothing_stored, quotient_stored, stored_means}
use Rattle.poly.specs.Division.Ends.{Empty, no_cells, no_cells_empty, Dividing, divided_division}
use Rattle.field.specs.Loops.Cells.{past_end}
use Rattle.poly.specs.Division.SpreadModel.{spread, gathered}
use Rattle.poly.specs.Division.Model.{Setting, setting, factor, found_from, divided, found}

-- keys and coefficients in range
abbrev InRange : ℕ → List ℕ → Type 0
InRange p [] = Unit {0}
InRange p (q ∷ qs) = (key_of q < keys) × (coefficient_of q < p) × InRange p qs

module _ (p : ℕ) (P : Prime p) where
  abbrev R : CommRing
  R = (Modulo p P).ring

  -- a coefficient that is not 0 in the field is not 0
  positive : (q : ℕ) → ¬ (el p (coefficient_of q) ≡ el p 0) → 0 < coefficient_of q
  positive q n = elim (ℕ_discrete (coefficient_of q) 0) [ yes e ↦ absurd (n (ap (el p) e)) | no m ↦ omega arith ]

  falls_below_list : (qs : List ℕ) (b : ℕ) → InRange p qs → FallsBelow R (exponents b) (terms_of p P qs) → Falling p b qs
  falls_below_list [] b r h = tt
  falls_below_list (q ∷ qs) b r h =
      (key_order_of (key_of q) b h.0, positive q h.1, r.1, falls_below_list qs (key_of q) r.2 h.2)

  -- terms that fall, in range, are a list that falls
  falls_list : (qs : List ℕ) → InRange p qs → Falls R (terms_of p P qs) → Falling p keys qs
  falls_list [] r h = tt
  falls_list (q ∷ qs) r h = (r.0, positive q h.0, r.1, falls_below_list qs (key_of q) r.2 h.1)

found_from_in : (d : Setting) → 0 < d.modulus → d.modulus ≤ coefficient_limit → (k : ℕ) (l : List ℕ) → k ≤ keys → InRange d.modulus (found_from d k l)
found_from_in d pos word k l =
    by_cells d (λ k l c qs o. k ≤ keys → InRange d.modulus qs)
    (λ l c m. tt)
    (λ k l c qs o e again m. again (omega arith))
    (λ k l c qs o e f again m.
    let b : factor d k l < d.modulus = mod-lt _ pos in
    let ek = key_of_term (k - d.lead) (factor d k l) (omega arith) in
    let ec = coefficient_of_term (k - d.lead) (factor d k l) (omega arith) in
    (omega arith, omega arith, again (omega arith)))
    (λ k l c e f m. tt) k l []

module _ (p : ℕ) (P : Prime p) (f g : List ℕ) (h : Dividing p f g) (l c : List ℕ) (empty : Empty l) (free : Empty c) where
  found_in : InRange p (found p f g l)
  found_in =
      by_lists p f g l c (λ qs o. InRange p qs) (λ e. tt)
      (λ e. found_from_in (setting p f g) (prime_positive P) h.word keys (spread f l) (omega arith))

  rule : Division (Modulo p P).ring (poly p P f) (poly p P g) (terms_of p P (found p f g l)) (divided p f g l c).whole
  rule = divided_division p P f g h l c empty

  found_falling : Falling p keys (found p f g l)
  found_falling =
      falls_list p P (found p f g l) found_in
      (division_falls (Modulo p P).ring (domain (Modulo p P)) (λ a. tt) (poly p P f) (poly p P g) (terms_of p P (found p f g l))
      (divided p f g l c).whole rule)

  -- the quotient's cells afterwards
  cells_stored : Stored p P keys c (divided p f g l c).quotient (found p f g l)
  cells_stored =
      by_lists p f g l c (λ qs o. Stored p P keys c o.quotient qs)
      (λ e. nothing_stored p P keys c free.long (zeros_reduced p c (prime_positive P) free.zeros))
      (λ e. quotient_stored (setting p f g) P h.word keys (spread f l) c free.long free.zeros)

  -- hold the terms found, and no other
  pub gathered_found : gathered keys (divided p f g l c).quotient ≡ found p f g l
  gathered_found =
      let r = cells_stored in
      poly_determines p P (gathered keys (divided p f g l c).quotient) (found p f g l) keys keys
      (gather_falling p h.word keys (divided p f g l c).quotient keys (omega arith) r.reduced) found_falling
      (gather_dense p P h.word keys (divided p f g l c).quotient (subst (λ (n : ℕ). keys ≤ n) (sym r.long) (omega arith)) r.reduced
      (λ i b. past_end keys i (divided p f g l c).quotient r.long b)
      ∙ stored_means p P keys c (divided p f g l c).quotient (found p f g l) free.zeros r)

  -- where the division says yes, they are the quotient
  pub quotient_found : (divided p f g l c).whole ≡ true → IsQuotient p P f g (found p f g l)
  quotient_found e =
      record {
        right = falling_right p (found p f g l) found_falling;
        product =
            division_quotient (Modulo p P).ring (domain (Modulo p P)) (λ a. tt) (poly p P f) (poly p P g) (terms_of p P (found p f g l)) (rw e at rule);
      }

-- so, where the rule says yes, its terms are the quotient's list
module _ (p : ℕ) (P : Prime p) (f g : List ℕ) (h : Dividing p f g) where
  pub record QuotientTerms (ts : List (Term (Modulo p P).ring)) : Type 0 where
    pub list : List ℕ
    pub terms_are : ts ≡ terms_of p P list
    pub is_quotient : IsQuotient p P f g list

  pub division_terms : (ts : List (Term (Modulo p P).ring)) → Division (Modulo p P).ring (poly p P f) (poly p P g) ts true → QuotientTerms ts
  division_terms ts d =
      let qs = found p f g no_cells in
      let rule = divided_division p P f g h no_cells no_cells no_cells_empty in
      let same =
      division_determined (Modulo p P).ring (domain (Modulo p P)) (λ a. tt) (poly p P f) (poly p P g) ts (terms_of p P qs)
      true (divided p f g no_cells no_cells).whole d rule in
      record {
        list = qs;
        terms_are = same.0;
        is_quotient = quotient_found p P f g h no_cells no_cells no_cells_empty no_cells_empty (sym same.1);
      }
