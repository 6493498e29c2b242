-- What the division of short lists says is so: it goes by the rule.
use Rattle.std.specs.Prelude.{◌≡◌, ◌⊎◌, Bool, length}
use Rattle.std.proofs.Math.Path.{refl, sym, ap, ap₂}
use Rattle.std.proofs.Common.{◌∙◌, subst, inl, inr, arith}
use Rattle.std.proofs.Math.Bool.{true, false}
use Rattle.std.proofs.lemmas.Bool.{false≢true}
use mathlib.Core.List.{List, [], ◌∷◌}
use Prim.Native.Nat.{ℕ, zero, suc, ◌+◌ as ◌+ₙ◌}
use Rattle.algebra.specs.Field.{Field}
use Rattle.algebra.specs.SeriesRing.{S4}
use Rattle.algebra.specs.Four.{Exponents, ◌⊞◌, ◌≼◌, ◌≺◌, coef}
use Rattle.algebra.specs.Monomial.{Term, term, polynomial, monomial}
use Rattle.algebra.specs.Lead.{Lead}
use Rattle.algebra.specs.Division.{Sizes, Goes, done, stop, step, Division}
use Rattle.algebra.specs.Laws.Ring.{zero_add}
use Rattle.algebra.specs.Laws.Solver.{◌⊕◌, ◌⊗◌, ⊝, ◌⊖◌, ◌≗◌, k0, ring2, ring3, ring4}
use Rattle.algebra.specs.Laws.Four.{exponents_path, Order, lower, equal, higher, compare, not_both_below, below_irreflexive}
use Rattle.algebra.specs.Laws.Monomial.{monomial_at, monomial_off}
use Rattle.algebra.specs.Laws.Monomial.{monomial_above, monomial_mul, monomial_add, monomial_zero, monomial_neg}
use Rattle.poly.specs.Terms.{Polynomial}
use Rattle.proved_table.specs.Test.TermDivision.{Outcome, ended, open_still, one_more, over, can_divide, together, term_over, plus}
use Rattle.proved_table.specs.Test.TermDivision.{less_product, less, less_all, before_all, leads, divided, division}

module _ (K : Field) where
  open K use {ring as R}
  open R use {𝟘, add as ◌+◌, mul as ◌*◌, neg}

  infixl 60 ◌+◌
  infixl 70 ◌*◌
  abbrev Poly : Type 0
  Poly = (S4 R).Car

  -- a term added is a term more
  plus_means : (t : Term R) (f : Polynomial K) → polynomial R (plus K t f) ≡ (S4 R).add (term R t) (polynomial R f)
  unfolding polynomial plus
  plus_means t [] = refl
  plus_means t (u ∷ us) = go (compare t.exponents u.exponents) (plus_means t us)
    where
      -- two terms of one monomial
      merged : t.exponents ≡ u.exponents → (S4 R).add (term R t) (term R u) ≡ monomial R u.exponents (t.coefficient + u.coefficient)
      merged e = ap (λ (m : Exponents). (S4 R).add (monomial R m t.coefficient) (term R u)) e
          ∙ sym (monomial_add R u.exponents t.coefficient u.coefficient)

      both : t.exponents ≡ u.exponents → (d : Dec (t.coefficient + u.coefficient ≡ 𝟘))
          → polynomial R (elim d [ yes z ↦ us | no n ↦ together K t u ∷ us ])
          ≡ (S4 R).add (term R t) ((S4 R).add (term R u) (polynomial R us))
      both e (yes z) =
          sym (zero_add (S4 R) (polynomial R us)) ∙ ap (λ (f : Poly). (S4 R).add f (polynomial R us))
          (sym (merged e ∙ ap (monomial R u.exponents) z ∙ monomial_zero R u.exponents))
          ∙ (S4 R).add_assoc (term R t) (term R u) (polynomial R us)
      both e (no n) = ap (λ (f : Poly). (S4 R).add f (polynomial R us)) (sym (merged e)) ∙ (S4 R).add_assoc (term R t) (term R u) (polynomial R us)

      go : (o : Order t.exponents u.exponents) → polynomial R (plus K t us) ≡ (S4 R).add (term R t) (polynomial R us)
          → polynomial R (elim o [
            | lower l ↦ u ∷ plus K t us
            | equal e ↦ elim (K.decide (t.coefficient + u.coefficient)) [ yes z ↦ us | no n ↦ together K t u ∷ us ]
            | higher l ↦ t ∷ u ∷ us
          ]) ≡ (S4 R).add (term R t) ((S4 R).add (term R u) (polynomial R us))
      go (higher l) again = refl
      go (equal e) again = both e (K.decide (t.coefficient + u.coefficient))
      go (lower l) again = ap ((S4 R).add (term R u)) again
          ∙ ring3 (S4 R) (λ t u f. u ⊕ (t ⊕ f) ≗ t ⊕ (u ⊕ f)) tt (term R t) (term R u) (polynomial R us)

  less_product_means : (t u : Term R) → term R (less_product K t u) ≡ (S4 R).neg ((S4 R).mul (term R t) (term R u))
  less_product_means t u = monomial_neg R (t.exponents ⊞ u.exponents) (t.coefficient * u.coefficient)
      ∙ ap (S4 R).neg (sym (monomial_mul R t.exponents u.exponents t.coefficient u.coefficient))

  less_means : (f : Polynomial K) (t : Term R) (g : Polynomial K)
      → polynomial R (less K f t g) ≡ (S4 R).add (polynomial R f) ((S4 R).neg ((S4 R).mul (term R t) (polynomial R g)))
  unfolding polynomial less
  less_means f t [] = ring2 (S4 R) (λ f t. f ≗ f ⊖ t ⊗ k0) tt (polynomial R f) (term R t)
  less_means f t (u ∷ us) =
      less_means (plus K (less_product K t u) f) t us
      ∙ ap (λ (h : Poly). (S4 R).add h ((S4 R).neg ((S4 R).mul (term R t) (polynomial R us))))
      (plus_means (less_product K t u) f ∙ ap (λ (h : Poly). (S4 R).add h (polynomial R f)) (less_product_means t u))
      ∙ ring4 (S4 R) (λ t u f g. (⊝ (t ⊗ u) ⊕ f) ⊖ t ⊗ g ≗ f ⊖ t ⊗ (u ⊕ g)) tt (term R t) (term R u) (polynomial R f) (polynomial R us)

  less_all_means : (f q g : Polynomial K)
      → polynomial R (less_all K f q g) ≡ (S4 R).add (polynomial R f) ((S4 R).neg ((S4 R).mul (polynomial R q) (polynomial R g)))
  unfolding polynomial less_all
  less_all_means f [] g = ring2 (S4 R) (λ f g. f ≗ f ⊖ k0 ⊗ g) tt (polynomial R f) (polynomial R g)
  less_all_means f (t ∷ ts) g =
      less_all_means (less K f t g) ts g
      ∙ ap (λ (h : Poly). (S4 R).add h ((S4 R).neg ((S4 R).mul (polynomial R ts) (polynomial R g)))) (less_means f t g)
      ∙ ring4 (S4 R) (λ f t q g. (f ⊖ t ⊗ g) ⊖ q ⊗ g ≗ f ⊖ (t ⊕ q) ⊗ g) tt (polynomial R f) (term R t) (polynomial R ts) (polynomial R g)

  -- where nothing is left, f is the product
  pub nothing_left_means : (f q g : Polynomial K) → less_all K f q g ≡ [] → polynomial R f ≡ (S4 R).mul (polynomial R q) (polynomial R g)
  unfolding polynomial
  nothing_left_means f q g e =
      ring3 (S4 R) (λ f q g. f ≗ (f ⊖ q ⊗ g) ⊕ q ⊗ g) tt (polynomial R f) (polynomial R q) (polynomial R g)
      ∙ ap (λ (h : Poly). (S4 R).add h ((S4 R).mul (polynomial R q) (polynomial R g))) (sym (less_all_means f q g) ∙ ap (polynomial R) e)
      ∙ zero_add (S4 R) _

  -- where m stands before all terms of a list, the list has no coefficient at m or above
  none_from : (m e : Exponents) (f : Polynomial K) → before_all K m f ≡ true → (m ≡ e) ⊎ (m ≺ e) → coef R (polynomial R f) e ≡ 𝟘
  unfolding polynomial before_all
  none_from m e [] h a = refl
  none_from m e (u ∷ us) h a = go (compare m u.exponents) h (λ k. none_from m e us k a)
    where
      other : u.exponents ≺ m → (m ≡ e) ⊎ (m ≺ e) → ¬ (u.exponents ≡ e)
      other l (inl q) r = below_irreflexive m (subst (◌≺ m) (r ∙ sym q) l)
      other l (inr k) r = not_both_below u.exponents m l (subst (m ≺◌) (sym r) k)

      go : (o : Order m u.exponents) → elim o as (λ _. Bool) [ lower l ↦ false | equal q ↦ false | higher l ↦ before_all K m us ] ≡ true
          → (before_all K m us ≡ true → coef R (polynomial R us) e ≡ 𝟘) → coef R ((S4 R).add (term R u) (polynomial R us)) e ≡ 𝟘
      go (higher l) h again = ap₂ ◌+◌ (monomial_off R u.exponents e u.coefficient (other l a)) (again h) ∙ R.add_zero 𝟘
      go (equal q) h again = absurd (false≢true h)
      go (lower l) h again = absurd (false≢true h)

  -- a term that leads stands beside its monomial, and it is the leading one
  first_is : (t : Term R) (f : Polynomial K) → leads K t f ≡ true → coef R (polynomial R (t ∷ f)) t.exponents ≡ t.coefficient
  unfolding polynomial leads
  first_is t f h = go (K.decide t.coefficient) h
    where
      go : (d : Dec (t.coefficient ≡ 𝟘)) → elim d as (λ _. Bool) [ yes e ↦ false | no n ↦ before_all K t.exponents f ] ≡ true
          → coef R ((S4 R).add (term R t) (polynomial R f)) t.exponents ≡ t.coefficient
      go (yes e) h = absurd (false≢true h)
      go (no n) h =
          ap₂ ◌+◌ (monomial_at R t.exponents t.coefficient) (none_from t.exponents t.exponents f h (inl refl)) ∙ R.add_zero _

  leads_means : (t : Term R) (f : Polynomial K) → leads K t f ≡ true → Lead R t.exponents (polynomial R (t ∷ f))
  unfolding polynomial leads
  leads_means t f h = go (K.decide t.coefficient) h
    where
      go : (d : Dec (t.coefficient ≡ 𝟘)) → elim d as (λ _. Bool) [ yes e ↦ false | no n ↦ before_all K t.exponents f ] ≡ true
          → Lead R t.exponents ((S4 R).add (term R t) (polynomial R f))
      go (yes e) k = absurd (false≢true k)
      go (no n) k = record {
        stands = λ z. n (sym (first_is t f h) ∙ z);
        above = λ e l. ap₂ ◌+◌ (monomial_above R t.exponents e t.coefficient l) (none_from t.exponents e f k (inr l)) ∙ R.add_zero 𝟘;
      }

  -- what an outcome says of f and g: the rule ends after so many terms, with that answer
  abbrev pub Means : Poly → Poly → Outcome → Type 0
  Means f g (ended n whole) = (ts : List (Term R)) × Division R f g ts whole × (length ts ≡ n)
  Means f g open_still = Unit {0}

  -- the divisor g, as a list that begins with the term l
  module _ (f : Poly) (g : Polynomial K) (s : Sizes R f (polynomial R g)) (l : Term R) (lead_is : s.lead ≡ l.exponents)
      (stands : coef R (polynomial R g) s.lead ≡ l.coefficient) where
    -- the same of what is left of the division
    abbrev Left : Poly → Outcome → Type 0
    Left r (ended n whole) = (ts : List (Term R)) × Goes R f (polynomial R g) s r ts whole × (length ts ≡ n)
    Left r open_still = Unit {0}

    -- t over l
    module _ (t : Term R) (r : Polynomial K) (leading : leads K t r ≡ true) where
      abbrev q : Term R
      q = term_over K t l

      -- the parts of a sum of exponents
      parts : (e : Exponents) → t.exponents ≡ e ⊞ s.lead → (l.exponents ≼ t.exponents) × (e ≡ over t.exponents l.exponents)
      parts e p =
          let m = p ∙ ap (e ⊞◌) lead_is in
          let x : t.exponents.x ≡ e.x +ₙ l.exponents.x = ap (λ (u : Exponents). u.x) m in
          let y : t.exponents.y ≡ e.y +ₙ l.exponents.y = ap (λ (u : Exponents). u.y) m in
          let z : t.exponents.z ≡ e.z +ₙ l.exponents.z = ap (λ (u : Exponents). u.z) m in
          let w : t.exponents.w ≡ e.w +ₙ l.exponents.w = ap (λ (u : Exponents). u.w) m in (
            record { x = omega arith; y = omega arith; z = omega arith; w = omega arith },
            exponents_path (omega arith) (omega arith) (omega arith) (omega arith),
          )

      exact : l.exponents ≼ t.exponents → t.exponents ≡ over t.exponents l.exponents ⊞ s.lead
      exact h =
          let a = h.x in
          let b = h.y in
          let c = h.z in
          let d = h.w in
          exponents_path (omega arith) (omega arith) (omega arith) (omega arith) ∙ ap (over t.exponents l.exponents ⊞◌) (sym lead_is)

      nonzero : ¬ (l.coefficient ≡ 𝟘)
      nonzero z = s.leads.stands (stands ∙ z)

      factor_is : R.mul q.coefficient (coef R (polynomial R g) s.lead) ≡ coef R (polynomial R (t ∷ r)) t.exponents
      factor_is =
          ap (q.coefficient *◌) stands
          ∙ ring3 R (λ t i l. t ⊗ i ⊗ l ≗ t ⊗ (l ⊗ i)) tt t.coefficient (K.inv l.coefficient) l.coefficient
          ∙ ap (t.coefficient *◌) (K.mul_inv l.coefficient nonzero) ∙ R.mul_one _ ∙ sym (first_is t r leading)

      -- a step is taken
      taken : l.exponents ≼ t.exponents → over t.exponents l.exponents ⊞ s.most_g ≼ s.most_f → (o : Outcome)
          → Left (polynomial R (less K (t ∷ r) q g)) o → Left (polynomial R (t ∷ r)) (one_more o)
      unfolding one_more
      taken h b (ended n whole) m = (
        q ∷ m.0,
        step t.exponents q (leads_means t r leading) (record { exact = exact h; bounded = b }) factor_is
            (subst (λ (u : Poly). Goes R f (polynomial R g) s u m.0 whole) (less_means (t ∷ r) q g) m.1),
        ap suc m.2,
      )
      taken h b open_still m = tt

      -- or the division stops
      stopped : ¬ ((l.exponents ≼ t.exponents) × (over t.exponents l.exponents ⊞ s.most_g ≼ s.most_f)) → Left (polynomial R (t ∷ r)) (ended 0 false)
      stopped n = (
        [],
        stop t.exponents (leads_means t r leading) (λ e o.
            let p = parts e o.exact in
            n (p.0, subst (λ (i : Exponents). i ⊞ s.most_g ≼ s.most_f) p.1 o.bounded)),
        refl,
      )

    left_means : (n : ℕ) (r : Polynomial K) → Left (polynomial R r) (divided K s.most_f s.most_g l g n r)
    unfolding divided polynomial
    left_means zero [] = ([], done refl, refl)
    left_means zero (t ∷ r) = tt
    left_means (suc n) [] = ([], done refl, refl)
    left_means (suc n) (t ∷ r) = go (leads K t r) refl (left_means n (less K (t ∷ r) (term_over K t l) g))
      where
        rest : Outcome
        rest = divided K s.most_f s.most_g l g n (less K (t ∷ r) (term_over K t l) g)

        over_or_not : leads K t r ≡ true → (d : Dec ((l.exponents ≼ t.exponents) × (over t.exponents l.exponents ⊞ s.most_g ≼ s.most_f)))
            → Left (polynomial R (less K (t ∷ r) (term_over K t l) g)) rest
            → Left (polynomial R (t ∷ r)) (elim d as (λ _. Outcome) [ yes h ↦ one_more rest | no m ↦ ended 0 false ])
        over_or_not e (yes h) again = taken t r e h.0 h.1 rest again
        over_or_not e (no m) again = stopped t r e m

        go : (b : Bool) → leads K t r ≡ b → Left (polynomial R (less K (t ∷ r) (term_over K t l) g)) rest
            → Left (polynomial R (t ∷ r)) (elim b as (λ _. Outcome) [
              | true ↦ elim (can_divide K l.exponents s.most_f s.most_g t.exponents) as (λ _. Outcome) [
                | yes h ↦ one_more rest
                | no m ↦ ended 0 false
              ]
              | false ↦ open_still
            ])
        go true e again = over_or_not e (can_divide K l.exponents s.most_f s.most_g t.exponents) again
        go false e again = tt

    -- what is left of the whole division is the division
    whole_means : (o : Outcome) → Left f o → Means f (polynomial R g) o
    whole_means (ended n whole) m = (m.0, record { sizes = s; goes = m.1 }, m.2)
    whole_means open_still m = tt

  -- what a division says is so, where the divisor's first term leads
  pub division_means : (n : ℕ) (f : Polynomial K) (l : Term R) (g : Polynomial K) (s : Sizes R (polynomial R f) (polynomial R (l ∷ g))) → s.lead ≡ l.exponents
      → coef R (polynomial R (l ∷ g)) s.lead ≡ l.coefficient
      → Means (polynomial R f) (polynomial R (l ∷ g)) (division K s.most_f s.most_g n f (l ∷ g))
  unfolding division
  division_means n f l g s e c =
      whole_means (polynomial R f) (l ∷ g) s l e c (divided K s.most_f s.most_g l (l ∷ g) n f)
      (left_means (polynomial R f) (l ∷ g) s l e c n f)
