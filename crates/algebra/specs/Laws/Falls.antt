-- Terms that fall: the first is the leading one, and they are known by their polynomial.
use Rattle.std.specs.Prelude.{◌≡◌, ◌⊎◌}
use Rattle.std.proofs.Math.Path.{refl, sym, ap, ap₂, subst}
use Rattle.std.proofs.Common.{◌∙◌}
use Rattle.std.proofs.Math.Logic.{inl, inr}
use mathlib.Core.List.{List, [], ◌∷◌}
use Rattle.algebra.specs.Ring.{CommRing}
use Rattle.algebra.specs.SeriesRing.{S4}
use Rattle.algebra.specs.Four.{Exponents, ◌≺◌, coef}
use Rattle.algebra.specs.Monomial.{Term, term, polynomial, FallsBelow, Falls}
use Rattle.algebra.specs.Lead.{Lead}
use Rattle.algebra.specs.Laws.Ring.{add_cancel}
use Rattle.algebra.specs.Laws.Four.{below_trans}
use Rattle.algebra.specs.Laws.Monomial.{monomial_at, monomial_above}
use Rattle.algebra.specs.Laws.Lead.{lead_nonzero, lead_unique}

module _ (R : CommRing) where
  -- no coefficient at m or above it
  none_above : (ts : List (Term R)) (m e : Exponents) → FallsBelow R m ts → (e ≡ m) ⊎ (m ≺ e) → coef R (polynomial R ts) e ≡ R.𝟘
  unfolding polynomial
  none_above [] m e h o = refl
  none_above (t ∷ ts) m e h o =
      let l : t.exponents ≺ e = elim o [ inl q ↦ subst (λ (i : Exponents). t.exponents ≺ i) (sym q) h.0 | inr k ↦ below_trans _ m e h.0 k ] in
      ap₂ R.add (monomial_above R t.exponents e t.coefficient l) (none_above ts t.exponents e h.2 (inr l)) ∙ R.add_zero _

  -- the first term's coefficient
  pub first_coefficient : (t : Term R) (ts : List (Term R)) → FallsBelow R t.exponents ts → coef R (polynomial R (t ∷ ts)) t.exponents ≡ t.coefficient
  unfolding polynomial
  first_coefficient t ts h =
      ap₂ R.add (monomial_at R t.exponents t.coefficient) (none_above ts t.exponents t.exponents h (inl refl)) ∙ R.add_zero _

  pub falls_lead : (t : Term R) (ts : List (Term R)) → Falls R (t ∷ ts) → Lead R t.exponents (polynomial R (t ∷ ts))
  unfolding polynomial
  falls_lead t ts h = record {
    stands = λ z. h.0 (sym (first_coefficient t ts h.1) ∙ z);
    above = λ e l. ap₂ R.add (monomial_above R t.exponents e t.coefficient l) (none_above ts t.exponents e h.1 (inr l)) ∙ R.add_zero _;
  }

  falls_rest : (m : Exponents) (ts : List (Term R)) → FallsBelow R m ts → Falls R ts
  falls_rest m [] h = tt
  falls_rest m (t ∷ ts) h = (h.1, h.2)

  -- two lists of terms that fall and mean the same are the same
  pub falls_determined : (ts us : List (Term R)) → Falls R ts → Falls R us → polynomial R ts ≡ polynomial R us → ts ≡ us
  unfolding polynomial
  falls_determined [] [] h k e = refl
  falls_determined [] (u ∷ us) h k e = absurd (lead_nonzero R u.exponents (polynomial R (u ∷ us)) (falls_lead u us k) (sym e))
  falls_determined (t ∷ ts) [] h k e = absurd (lead_nonzero R t.exponents (polynomial R (t ∷ ts)) (falls_lead t ts h) e)
  falls_determined (t ∷ ts) (u ∷ us) h k e =
      let m : t.exponents ≡ u.exponents =
      lead_unique R t.exponents u.exponents (polynomial R (u ∷ us)) (subst (Lead R t.exponents) e (falls_lead t ts h)) (falls_lead u us k) in
      let c : t.coefficient ≡ u.coefficient =
      sym (first_coefficient t ts h.1) ∙ ap₂ (coef R) e m ∙ first_coefficient u us k.1 in
      let s : t ≡ u = λ i. record { exponents = m i; coefficient = c i } in
      ap₂ ◌∷◌ s (falls_determined ts us (falls_rest t.exponents ts h.1) (falls_rest u.exponents us k.1)
      (add_cancel (S4 R) (term R t) (polynomial R ts) (polynomial R us)
      (e ∙ ap (λ (v : Term R). (S4 R).add (term R v) (polynomial R us)) (sym s))))
