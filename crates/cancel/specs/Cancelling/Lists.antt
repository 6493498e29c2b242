-- What N' and D' are as lists: there is one pair at most, and a list that falls leads by its first coefficient.
use Rattle.std.specs.Prelude.{◌≡◌, refl, List, [], ◌∷◌, ℕ, ◌<◌, length}
use Rattle.std.proofs.Common.{sym, ◌∙◌, ap, subst, arith}
use Rattle.algebra.specs.Field.{Field}
use Rattle.algebra.specs.Ring.{CommRing}
use Rattle.algebra.specs.SeriesRing.{S4}
use Rattle.algebra.specs.Monomial.{polynomial}
use Rattle.algebra.specs.Laws.Lead.{lead_nonzero}
use Rattle.field.specs.Prime.{Prime}
use Rattle.field.specs.Fp.{Fp, el}
use Rattle.field.specs.Modulo.{Modulo}
use Rattle.poly.specs.Keys.{exponents, keys}
use Rattle.poly.specs.Terms.{Polynomial, key_of, terms_of, numbers_of, poly}
use Rattle.poly.specs.Lists.{WrongModulo, Falling}
use Rattle.poly.specs.List.Laws.{terms_fall}
use Rattle.poly.specs.Key.Terms.{poly_finite, poly_head, poly_lead, right_lists_equal}
use Rattle.poly.specs.Value.Laws.{polynomial_finite}
use Rattle.divisor.specs.Demands.{LeadsWith}
use Rattle.divisor.specs.Answer.Accepted.{AcceptedList}
use Rattle.cancel.specs.CancelCall.{Times, Reduced}
use Rattle.cancel.specs.Cancelling.Model.{first_coefficient}
use Rattle.cancel.specs.Cancelling.Products.{LeadsBy, factor_nonzero, divisor_nonzero, cofactor_unique, factor_unique}

module _ (p : ℕ) (P : Prime p) where
  abbrev K : Field
  K = Modulo p P

  abbrev R : CommRing
  R = K.ring

  pub leads_by : (a : Fp p) (ts : List ℕ) → Falling p keys ts → LeadsWith (Modulo p P) a (terms_of p P ts) → LeadsBy (Modulo p P) a (poly p P ts)
  leads_by a [] h e = absurd e
  leads_by a (t ∷ ts) h e =
      record { finite = poly_finite p P (t ∷ ts); at = exponents (key_of t); lead = poly_lead p P t ts keys h; is = poly_head p P t ts h.3 ∙ e }

  -- an accepted G is monic
  pub accepted_leads : (most : ℕ) (G : Polynomial (Modulo p P)) → AcceptedList p P most G → LeadsBy (Modulo p P) (el p 1) (polynomial (Modulo p P).ring G)
  accepted_leads most G list =
      subst (LeadsBy K (el p 1)) (ap (polynomial R) list.reads)
      (leads_by (el p 1) (numbers_of p P G) list.falls (subst (LeadsWith K (el p 1)) (sym list.reads) list.leads))

  pub leads_with_first : (ts : List ℕ) → 0 < length ts → LeadsWith (Modulo p P) (el p (first_coefficient ts)) (terms_of p P ts)
  leads_with_first [] l = absurd (omega arith)
  leads_with_first (t ∷ ts) l = refl

  pub leads_by_first : (ts : List ℕ) → 0 < length ts → Falling p keys ts → LeadsBy (Modulo p P) (el p (first_coefficient ts)) (poly p P ts)
  leads_by_first ts l h = leads_by (el p (first_coefficient ts)) ts h (leads_with_first ts l)

  pub list_nonzero : (ts : List ℕ) → 0 < length ts → Falling p keys ts → ¬ (poly p P ts ≡ (S4 (Modulo p P).ring).𝟘)
  list_nonzero ts l h = let f = leads_by_first ts l h in lead_nonzero R f.at (poly p P ts) f.lead

  pub right_falls : (ts : List ℕ) → ((i : ℕ) → ¬ WrongModulo p ts i) → Falling p keys ts
  right_falls ts right = terms_fall p ts (λ i w. right i w.0)

  -- one pair at most, where D is not 0
  module _ (N D : List ℕ) (G : Polynomial (Modulo p P)) (nonzero : ¬ (poly p P D ≡ (S4 (Modulo p P).ring).𝟘)) where
    abbrev g : (S4 R).Car
    g = polynomial R G

    pub reduced_unique : (ns ds ns' ds' : List ℕ) → Reduced p P N D G ns ds → Reduced p P N D G ns' ds' → (ns ≡ ns') × (ds ≡ ds')
    reduced_unique ns ds ns' ds' a b =
        let g0 = divisor_nonzero K g (poly p P ds) (poly p P D) a.factor a.denominator nonzero in
        let c0 = factor_nonzero K g (poly p P ds) (poly p P D) a.factor a.denominator nonzero in
        let b0 = factor_nonzero K g (poly p P ds') (poly p P D) b.factor b.denominator nonzero in
        let monic = leads_by (el p 1) ds (right_falls ds a.denominator_right) a.monic in
        let monic' = leads_by (el p 1) ds' (right_falls ds' b.denominator_right) b.monic in
        let c = factor_unique K g (polynomial_finite K G) g0 a.factor b.factor c0 b0 (poly p P ds) (poly p P ds') monic monic'
        (a.denominator ∙ sym b.denominator) in (
          same g0 c0 N ns ns' a.numerator_right b.numerator_right a.numerator (subst (λ (f : Fp p). Times p P G ns' f N) (sym c) b.numerator),
          same g0 c0 D ds ds' a.denominator_right b.denominator_right a.denominator
              (subst (λ (f : Fp p). Times p P G ds' f D) (sym c) b.denominator),
        )
      where
        same : ¬ (g ≡ (S4 R).𝟘) → {c : Fp p} → ¬ (c ≡ el p 0) → (F qs rs : List ℕ) → ((i : ℕ) → ¬ WrongModulo p qs i) → ((i : ℕ) → ¬ WrongModulo p rs i)
            → Times p P G qs c F → Times p P G rs c F → qs ≡ rs
        same g0 {c} c0 F qs rs right right' e d =
            right_lists_equal p P qs rs right right'
            (cofactor_unique K g (polynomial_finite K G) g0 c c0 (poly p P qs) (poly p P rs) (poly_finite p P qs) (poly_finite p P rs) (e ∙ sym d))
