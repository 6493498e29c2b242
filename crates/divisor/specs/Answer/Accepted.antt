-- An accepted G as a list of terms: it has no more terms than the skeleton, they fall, the first coefficient is 1, and what is written is G again.
use Rattle.std.specs.Prelude.{◌≡◌, refl, List, [], ◌∷◌, map, ℕ, suc, ◌≤◌, ◌<◌, length}
use Rattle.std.proofs.Common.{sym, ◌∙◌, ap, ap₂, subst, arith}
use Rattle.algebra.specs.Ring.{CommRing}
use Rattle.algebra.specs.Field.{Field}
use Rattle.algebra.specs.Monomial.{Term}
use Rattle.field.specs.Prime.{Prime}
use Rattle.field.specs.Modulus.Prime.{prime_positive}
use Rattle.field.specs.Fp.{el}
use Rattle.field.specs.Elements.Fp.{el_val, val_lt}
use Rattle.field.specs.Moduli.{Listed}
use Rattle.field.specs.Modulus.Laws.{listed_below}
use Rattle.field.specs.Modulo.{Modulo}
use Rattle.field.specs.Refusal.{Passes}
use Rattle.poly.specs.Keys.{exponents, keys}
use Rattle.poly.specs.Terms.{Polynomial, terms_of, numbers_of, coefficient_limit}
use Rattle.poly.specs.Lists.{Falling}
use Rattle.poly.specs.List.Laws.{FallFrom}
use Rattle.poly.specs.Image.Laws.{image_small}
use Rattle.divisor.specs.declared.CandidateRecord.{CandidateRecord}
use Rattle.divisor.specs.Answer.Determined.{tried_accepted}
use Rattle.divisor.specs.Rule.{Kept, Sorted, Unknowns, Solution, without_zeros, made_monic, divisor}
use Rattle.divisor.specs.Rule.{unsolvable, several, divided, all_bad, some_good}
use Rattle.divisor.specs.Candidate.{Call, table, prime, Numbers, A, B, monomials, lent_points, AnswerTo}
use Rattle.divisor.specs.Demands.{LeadsWith}
use Rattle.divisor.specs.Checks.Passed.{first_bounded, second_bounded, skeleton_falls}
use Rattle.divisor.specs.Monic.Value.{NonZero, without_zeros_nonzero}
use Rattle.divisor.specs.Monic.Laws.{monic_leads}
use Rattle.divisor.specs.Monic.Terms.{AllBelow, skeleton_of, divisor_numbers}
use Rattle.divisor.specs.Monic.List.{good_list}
use Rattle.divisor.specs.Demand.Degree.{kept_images}
use Rattle.divisor.specs.Verdict.Output.{divisor_within, length_numbers, read_numbers}

-- the list that G is, and what is known of it
pub record AcceptedList (p : ℕ) (P : Prime p) (most : ℕ) (G : Polynomial (Modulo p P)) : Type 0 where
  pub leads : LeadsWith (Modulo p P) (el p 1) G
  pub few : length G ≤ most
  pub falls : Falling p keys (numbers_of p P G)
  pub reads : terms_of p P (numbers_of p P G) ≡ G

-- it has a term
pub some_terms : (p : ℕ) (P : Prime p) (most : ℕ) (G : Polynomial (Modulo p P)) → AcceptedList p P most G → 0 < length (numbers_of p P G)
some_terms p P most [] list = absurd list.leads
some_terms p P most (t ∷ ts) list = omega arith

module _ (p : ℕ) (P : Prime p) (small : p < coefficient_limit) where
  abbrev K : Field
  K = Modulo p P

  abbrev R : CommRing
  R = K.ring

  -- the coefficients as numbers
  abbrev values : Polynomial K → List ℕ
  values f = map (λ (t : Term R). t.coefficient.val) f

  values_below : (f : Polynomial K) → AllBelow p (values f)
  values_below [] = tt
  values_below (t ∷ ts) = (val_lt (prime_positive P) t.coefficient, values_below ts)

  -- a polynomial in the monomials of the keys is their skeleton polynomial with its coefficients
  proposed_is : (f : Polynomial K) (ks : List ℕ) → map (λ (t : Term R). t.exponents) f ≡ map exponents ks
      → (skeleton_of p P ks (values f) ≡ f) × (length (values f) ≡ length ks)
  proposed_is [] [] e = (refl, refl)
  proposed_is [] (k ∷ ks) e = absurd (let z : ◌≡◌ {A = ℕ} 0 (suc (length (map exponents ks))) = ap length e in omega arith)
  proposed_is (t ∷ ts) [] e =
      absurd (let z : suc (length (map (λ (t : Term R). t.exponents) ts)) ≡ 0 = ap length e in omega arith)
  proposed_is (t ∷ ts) (k ∷ ks) e =
      let q : exponents k ≡ t.exponents = cc in
      let r = proposed_is ts ks cc in
      (ap₂ ◌∷◌ (λ i. record { exponents = q i; coefficient = el_val t.coefficient i }) r.0, ap suc r.1)

  -- made monic, a list that has terms begins with 1
  leads_with_one : (f : Polynomial K) → NonZero K f → 0 < length (made_monic K f) → LeadsWith K (el p 1) (made_monic K f)
  leads_with_one [] h l = absurd (let z : length (made_monic K []) ≡ 0 = (unfold made_monic in refl) in omega arith)
  leads_with_one (t ∷ ts) h l = monic_leads K t ts h.0

  module _ (ks : List ℕ) (fall : FallFrom keys ks) (k : Kept (Modulo p P)) (kept : List (Kept (Modulo p P))) (s : Unknowns (Modulo p P))
      (solution : Solution (Modulo p P) (map exponents ks) (k ∷ kept) s) (d : ℕ) (dl : d < 8) (one : k.image d ≡ el p 1) where
    abbrev cs : List ℕ
    cs = values s.skeleton

    abbrev G : Polynomial (Modulo p P)
    G = divisor (Modulo p P) s

    pub divisor_list : AcceptedList p P (length ks) G
    divisor_list =
        let is = proposed_is s.skeleton ks solution.proposed in
        let good = good_list p P small ks cs is.1 (values_below s.skeleton) fall kept k s.multipliers
        (subst (λ (f : Polynomial K). Solution K (map exponents ks) (k ∷ kept) (record { skeleton = f; multipliers = s.multipliers })) (sym is.0) solution)
        d dl one in
        let numbers = ap (λ (f : Polynomial K). numbers_of p P (made_monic K (without_zeros K f))) (sym is.0)
        ∙ divisor_numbers p P ks cs is.1 (values_below s.skeleton) in
        let within = divisor_within K ks (k ∷ kept) s solution in
        record {
          leads = leads_with_one (without_zeros K s.skeleton) (without_zeros_nonzero K s.skeleton)
              (omega (arith, good.some, ap length numbers, length_numbers p P G));
          few = within.count;
          falls = subst (Falling p keys) (sym numbers) good.falls;
          reads = read_numbers p P small G within.keyed;
        }

module _ (c : Call) (pass : Passes (table c)) (listed : Listed c.modulus) where
  -- of the divisor that the kept points of inputs that pass settle
  pub solution_list : (d b u : ℕ) (k : Kept (Numbers c listed)) (kept : List (Kept (Numbers c listed)))
      → Sorted (Numbers c listed) (A c listed) (B c listed) d (lent_points c listed) b u (k ∷ kept)
      → (s : Unknowns (Numbers c listed)) → Solution (Numbers c listed) (monomials c listed) (k ∷ kept) s
      → AcceptedList c.modulus (prime c listed) (length c.skeleton) (divisor (Numbers c listed) s)
  solution_list d b u k kept sorted s solution =
      let image = (kept_images (Numbers c listed) (A c listed) (B c listed) d (lent_points c listed) b u (k ∷ kept) sorted).0 in
      divisor_list c.modulus (prime c listed) (let l = listed_below listed in omega arith) c.skeleton (skeleton_falls c pass) k kept s solution d
      (image_small (Numbers c listed) (A c listed) (B c listed) k.point d k.image (first_bounded c pass listed) (second_bounded c pass listed) image)
      image.monic.leads

  -- of every accepted answer
  pub accepted_list : (r : CandidateRecord) (G : Polynomial (Numbers c listed)) → AnswerTo c listed r G → r.fault.number ≡ 0
      → AcceptedList c.modulus (prime c listed) (length c.skeleton) G
  accepted_list r G (all_bad all) e = absurd (omega arith)
  accepted_list r G (some_good d b u k kept sorted n H m (unsolvable z)) e = absurd (omega arith)
  accepted_list r G (some_good d b u k kept sorted n H m (several z)) e = absurd (omega arith)
  accepted_list r G (some_good d b u k kept sorted n H m (divided s only tried)) e =
      let t = tried_accepted (Numbers c listed) (A c listed) (B c listed) (divisor (Numbers c listed) s) c.ceiling n m H tried e in
      subst (AcceptedList c.modulus (prime c listed) (length c.skeleton)) (sym t.1) (solution_list d b u k kept sorted s only.0)
