-- The rule says yes exactly if the divisor divides; its answer is determined; the terms fall and mean the quotient.
use Rattle.std.specs.Prelude.{◌≡◌, refl, ◌⊎◌, ◌↔◌, Bool, true, false, List, ◌∷◌, ◌+◌ as ◌+ₙ◌, ◌≤◌, ◌<◌}
use Rattle.std.proofs.Math.Path.{sym, ap}
use Rattle.std.proofs.Common.{◌∙◌, ap₂, subst, inl, inr, true≢false, arith}
use Rattle.std.proofs.lemmas.Bool.{false≢true}
use Rattle.std.proofs.Math.Decide.{dec_le}
use Rattle.algebra.specs.Ring.{CommRing}
use Rattle.algebra.specs.SeriesRing.{S4}
use Rattle.algebra.specs.Domain.{Domain}
use Rattle.algebra.specs.Polynomials.{D4}
use Rattle.algebra.specs.Divides.{Div}
use Rattle.algebra.specs.Four.{Exponents, ◌⊞◌, ◌≼◌, ◌≺◌, coef}
use Rattle.algebra.specs.Monomial.{Term, term, polynomial, FallsBelow, Falls}
use Rattle.algebra.specs.Lead.{Upto, Lead}
use Rattle.algebra.specs.GreatestExponent.{Variable, in_x, in_y, in_z, in_w, exponent}
use Rattle.algebra.specs.Division.{Most, Sizes, Over, Goes, done, stop, step, Division}
use Rattle.algebra.specs.Laws.Ring.{zero_mul}
use Rattle.algebra.specs.Laws.Solver.{◌⊕◌, ◌⊗◌, ◌⊖◌, ◌≗◌, ring2, ring3}
use Rattle.algebra.specs.Laws.Divides.{cancel}
use Rattle.algebra.specs.Laws.Four.{exponents_path, Order, lower, equal, higher, compare, below_cancel, exponents_cancel}
use Rattle.algebra.specs.Laws.Monomial.{monomial_at, monomial_off, monomial_above, monomial_fin, polynomial_fin}
use Rattle.algebra.specs.Laws.Lead.{lead_nonzero, lead_unique, coef_of_product, upto_of_product, lead_of_product, lead_exists}
use Rattle.algebra.specs.Laws.GreatestExponent.{greatest_unique, factor_within}

module _ (R : CommRing) (D : Domain R) (every : (c : R.Car) → D.P c) where
  abbrev Poly : Type 0
  Poly = (S4 R).Car

  abbrev less : Poly → Poly → Poly
  less f g = (S4 R).add f ((S4 R).neg g)

  module _ (f g : Poly) (s : Sizes R f g) where
    -- a division that says yes has found the quotient
    yes_means : {r : Poly} {ts : List (Term R)} {whole : Bool} → Goes R f g s r ts whole → whole ≡ true → (S4 R).mul (polynomial R ts) g ≡ r
    unfolding polynomial
    yes_means (done z) e = zero_mul (S4 R) g ∙ sym z
    yes_means (stop m l n) e = absurd (false≢true e)
    yes_means (step {r = r} {ts = ts} m t l o c k) e =
        (S4 R).distrib (term R t) (polynomial R ts) g ∙ ap ((S4 R).add ((S4 R).mul (term R t) g)) (yes_means k e)
        ∙ ring2 (S4 R) (λ a r. a ⊕ (r ⊖ a) ≗ r) tt ((S4 R).mul (term R t) g) r

    -- the exponents of q are at most f's greatest less g's
    abbrev Small : Poly → Type 0
    Small q = (v : Variable) (e : Exponents) → exponent v s.most_f < exponent v e +ₙ exponent v s.most_g → coef R q e ≡ R.𝟘

    small_over : (q : Poly) (n : Exponents) → Small q → ¬ (coef R q n ≡ R.𝟘) → n ⊞ s.most_g ≼ s.most_f
    small_over q n h nz = record { x = each in_x (dec_le _ _); y = each in_y (dec_le _ _); z = each in_z (dec_le _ _); w = each in_w (dec_le _ _) }
      where
        each : (v : Variable) → Dec (exponent v n +ₙ exponent v s.most_g ≤ exponent v s.most_f)
            → exponent v n +ₙ exponent v s.most_g ≤ exponent v s.most_f
        each v (yes l) = l
        each v (no q) = absurd (nz (h v n (omega arith)))

    over_part : (v : Variable) (n : Exponents) → n ⊞ s.most_g ≼ s.most_f → exponent v n +ₙ exponent v s.most_g ≤ exponent v s.most_f
    over_part in_x n l = l.x
    over_part in_y n l = l.y
    over_part in_z n l = l.z
    over_part in_w n l = l.w

    -- while the remainder is a multiple of the divisor, the division does not stop
    no_means : {r : Poly} {ts : List (Term R)} {whole : Bool} → Goes R f g s r ts whole → whole ≡ false → (D4 R D).P g
        → (q : Poly) → (D4 R D).P q → Small q → (S4 R).mul q g ≡ r → ⊥
    no_means (done z) e pg q pq sm eq = true≢false e
    no_means (stop {r = r} m l n) e pg q pq sm eq =
        let nz : ¬ (q ≡ (S4 R).𝟘) = λ z. lead_nonzero R m r l (sym eq ∙ ap (λ (u : Poly). (S4 R).mul u g) z ∙ zero_mul (S4 R) g) in
        let k = lead_exists R D q pq nz in
        let h : Lead R (k.0 ⊞ s.lead) r = subst (Lead R (k.0 ⊞ s.lead)) eq (lead_of_product R D k.0 s.lead q g pq pg k.1 s.leads) in
        n k.0 (record { exact = lead_unique R m (k.0 ⊞ s.lead) r l h; bounded = small_over q k.0 sm k.1.stands })
    no_means (step {r = r} m t l o c k) e pg q pq sm eq = no_means k e pg (less q (term R t))
        ((D4 R D).P_add _ _ pq ((D4 R D).P_neg _ (monomial_fin R D t.exponents t.coefficient (every _))))
        (λ v n h. ap₂ (λ a b. R.add a (R.neg b)) (sm v n h)
        (monomial_off R t.exponents n t.coefficient (λ p. let b = over_part v t.exponents o.bounded in let w = ap (exponent v) p in omega arith))
        ∙ R.add_neg R.𝟘)
        (ring3 (S4 R) (λ q u g. (q ⊖ u) ⊗ g ≗ q ⊗ g ⊖ u ⊗ g) tt q (term R t) g ∙ ap (λ (u : Poly). less u ((S4 R).mul (term R t) g)) eq)

    -- what is left stands below the leading monomial that was taken
    abbrev pub Under : Exponents → (S4 R).Car → Type 0
    Under m r = (e : Exponents) → (e ≡ m) ⊎ (m ≺ e) → coef R r e ≡ R.𝟘

    pub under_step : (m : Exponents) (t : Term R) (r : (S4 R).Car) → Lead R m r → Over R f g s m t.exponents
        → R.mul t.coefficient (coef R g s.lead) ≡ coef R r m
        → Under m ((S4 R).add r ((S4 R).neg ((S4 R).mul (term R t) g)))
    under_step m t r l o c = go
      where
        up : Upto R t.exponents (term R t)
        up e k = monomial_above R t.exponents e t.coefficient k

        at : coef R ((S4 R).mul (term R t) g) m ≡ coef R r m
        at = ap (coef R ((S4 R).mul (term R t) g)) o.exact ∙ coef_of_product R t.exponents s.lead (term R t) g up s.leads.above
            ∙ ap (λ u. R.mul u (coef R g s.lead)) (monomial_at R t.exponents t.coefficient) ∙ c

        go : (e : Exponents) → (e ≡ m) ⊎ (m ≺ e) → coef R (less r ((S4 R).mul (term R t) g)) e ≡ R.𝟘
        go e (inl p) = ap (coef R (less r ((S4 R).mul (term R t) g))) p ∙ ap (λ u. R.add (coef R r m) (R.neg u)) at ∙ R.add_neg _
        go e (inr k) = ap₂ (λ u w. R.add u (R.neg w)) (l.above e k)
            (upto_of_product R t.exponents s.lead (term R t) g up s.leads.above e (subst (◌≺ e) o.exact k))
            ∙ R.add_neg R.𝟘

    under_next : (m : Exponents) (t : Term R) (r : Poly) → Lead R m r → Over R f g s m t.exponents
        → R.mul t.coefficient (coef R g s.lead) ≡ coef R r m → Under (t.exponents ⊞ s.lead) (less r ((S4 R).mul (term R t) g))
    under_next m t r l o c = subst (λ (i : Exponents). Under i (less r ((S4 R).mul (term R t) g))) o.exact (under_step m t r l o c)

    factor_nonzero : (m : Exponents) (t : Term R) (r : Poly) → Lead R m r → R.mul t.coefficient (coef R g s.lead) ≡ coef R r m
        → ¬ (t.coefficient ≡ R.𝟘)
    factor_nonzero m t r l c z = l.stands (sym c ∙ ap (λ u. R.mul u (coef R g s.lead)) z ∙ zero_mul R _)

    falls_below : {r : Poly} {ts : List (Term R)} {whole : Bool} → Goes R f g s r ts whole → (n : Exponents) → Under (n ⊞ s.lead) r → FallsBelow R n ts
    falls_below (done z) n u = tt
    falls_below (stop m l k) n u = tt
    falls_below (step {r = r} m t l o c k) n u = (
      first (compare m (n ⊞ s.lead)),
      factor_nonzero m t r l c,
      falls_below k t.exponents (under_next m t r l o c),
    )
      where
        first : Order m (n ⊞ s.lead) → t.exponents ≺ n
        first (lower b) = below_cancel t.exponents n s.lead (subst (◌≺ n ⊞ s.lead) o.exact b)
        first (equal p) = absurd (l.stands (u m (inl p)))
        first (higher b) = absurd (l.stands (u m (inr b)))

    falls : {r : Poly} {ts : List (Term R)} {whole : Bool} → Goes R f g s r ts whole → Falls R ts
    falls (done z) = tt
    falls (stop m l k) = tt
    falls (step {r = r} m t l o c k) = (
      factor_nonzero m t r l c,
      falls_below k t.exponents (under_next m t r l o c),
    )

  -- the sizes are determined, so two divisions of f by g are divisions over the same
  module _ (f g : Poly) where
    most_unique : (h : Poly) (d e : Exponents) → Most R d h → Most R e h → d ≡ e
    most_unique h d e p q = exponents_path (each in_x) (each in_y) (each in_z) (each in_w)
      where
        each : (v : Variable) → exponent v d ≡ exponent v e
        each v = greatest_unique R v (exponent v d) (exponent v e) h (p v) (q v)

    over_same : (s t : Sizes R f g) (m e : Exponents) → Over R f g s m e → Over R f g t m e
    over_same s t m e o = record {
      exact = o.exact ∙ ap (e ⊞◌) (lead_unique R s.lead t.lead g s.leads t.leads);
      bounded = subst (λ (i : Exponents). e ⊞ i ≼ t.most_f) (most_unique g s.most_g t.most_g s.is_most_g t.is_most_g)
          (subst (λ (i : Exponents). e ⊞ s.most_g ≼ i) (most_unique f s.most_f t.most_f s.is_most_f t.is_most_f) o.bounded);
    }

    goes_same : (s t : Sizes R f g) {r : Poly} {ts : List (Term R)} {whole : Bool} → Goes R f g s r ts whole → Goes R f g t r ts whole
    goes_same s t (done z) = done z
    goes_same s t (stop m l n) = stop m l (λ e o. n e (over_same t s m e o))
    goes_same s t (step {r = r} m u l o c k) = step m u l (over_same s t m u.exponents o)
        (ap (λ (i : Exponents). R.mul u.coefficient (coef R g i)) (lead_unique R t.lead s.lead g t.leads s.leads) ∙ c) (goes_same s t k)

    term_path : (t u : Term R) → t.exponents ≡ u.exponents → t.coefficient ≡ u.coefficient → t ≡ u
    term_path t u p q = λ i. record { exponents = p i; coefficient = q i }

    record Same (ts us : List (Term R)) (a b : Bool) : Type 0 where
      terms : ts ≡ us
      answer : a ≡ b

    goes_determined : (s : Sizes R f g) (r r' : Poly) {ts us : List (Term R)} {a b : Bool} → r ≡ r' → Goes R f g s r ts a → Goes R f g s r' us b
        → Same ts us a b
    goes_determined s r r' p (done z) (done y) = record { terms = refl; answer = refl }
    goes_determined s r r' p (done z) (stop m l n) = absurd (lead_nonzero R m r' l (sym p ∙ z))
    goes_determined s r r' p (done z) (step m t l o c k) = absurd (lead_nonzero R m r' l (sym p ∙ z))
    goes_determined s r r' p (stop m l n) (done y) = absurd (lead_nonzero R m r l (p ∙ y))
    goes_determined s r r' p (stop m l n) (stop m' l' n') = record { terms = refl; answer = refl }
    goes_determined s r r' p (stop m l n) (step m' t l' o c k) =
        absurd (n t.exponents (subst (λ (i : Exponents). Over R f g s i t.exponents) (lead_unique R m' m r' l' (subst (Lead R m) p l)) o))
    goes_determined s r r' p (step m t l o c k) (done y) = absurd (lead_nonzero R m r l (p ∙ y))
    goes_determined s r r' p (step m t l o c k) (stop m' l' n) =
        absurd (n t.exponents (subst (λ (i : Exponents). Over R f g s i t.exponents) (lead_unique R m m' r' (subst (Lead R m) p l) l') o))
    goes_determined s r r' p (step m t l o c k) (step m' t' l' o' c' k') =
        let em : m ≡ m' = lead_unique R m m' r' (subst (Lead R m) p l) l' in
        let ee : t.exponents ≡ t'.exponents = exponents_cancel t.exponents t'.exponents s.lead (sym o.exact ∙ em ∙ o'.exact) in
        let ec : t.coefficient ≡ t'.coefficient =
        cancel R D t.coefficient t'.coefficient (coef R g s.lead) (every _) (every _) (every _) s.leads.stands
        (R.mul_comm _ _ ∙ c ∙ ap₂ (coef R) p em ∙ sym c' ∙ R.mul_comm _ _) in
        let et : t ≡ t' = term_path t t' ee ec in
        let rest = goes_determined s _ _ (ap₂ (λ (u : Poly) (v : Term R). less u ((S4 R).mul (term R v) g)) p et) k k' in
        record { terms = ap₂ ◌∷◌ et rest.terms; answer = rest.answer }

  module _ (f g : Poly) (ts : List (Term R)) where
    pub division_falls : (whole : Bool) → Division R f g ts whole → Falls R ts
    division_falls whole d = falls f g d.sizes d.goes

    pub division_quotient : Division R f g ts true → (S4 R).mul g (polynomial R ts) ≡ f
    division_quotient d = (S4 R).mul_comm g (polynomial R ts) ∙ yes_means f g d.sizes d.goes refl

    division_yes : Division R f g ts true → Div (S4 R) (D4 R D) g f
    division_yes d = record { quo = polynomial R ts; fin = polynomial_fin R D every ts; eq = division_quotient d }

    division_no : (D4 R D).P g → Division R f g ts false → ¬ Div (S4 R) (D4 R D) g f
    division_no pg d q = no_means f g d.sizes d.goes refl pg q.quo q.fin
        (λ v e l. factor_within R D v (exponent v d.sizes.most_f) (exponent v d.sizes.most_g) f g q.quo pg q.fin
        (d.sizes.is_most_f v) (d.sizes.is_most_g v) q.eq e l)
        ((S4 R).mul_comm q.quo g ∙ q.eq)

    pub division_determined : (us : List (Term R)) (a b : Bool) → Division R f g ts a → Division R f g us b → (ts ≡ us) × (a ≡ b)
    division_determined us a b d e =
        let r = goes_determined f g e.sizes f f refl (goes_same f g d.sizes e.sizes d.goes) e.goes in
        (r.terms, r.answer)

    -- it says yes exactly if the divisor divides
    pub division_says : (whole : Bool) → (D4 R D).P g → Division R f g ts whole → (whole ≡ true) ↔ Div (S4 R) (D4 R D) g f
    division_says true pg d = (λ e. division_yes d, λ q. refl)
    division_says false pg d = (λ e. absurd (false≢true e), λ q. absurd (division_no pg d q))
