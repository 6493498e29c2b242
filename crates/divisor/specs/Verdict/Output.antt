-- What an answered call writes can be read again: the terms first in the output are the polynomial that is handed out.
use Rattle.std.specs.Prelude.{◌≡◌, refl, length, take, ℕ, suc, ◌≤◌, ◌<◌}
use Rattle.std.proofs.Common.{sym, ◌∙◌, ap, ap₂, subst, take_at}
use mathlib.Core.List.{List, [], ◌∷◌, map}
use native.Mathlib.Omega.{arith}
use Rattle.algebra.specs.Field.{Field}
use Rattle.algebra.specs.Monomial.{Term}
use Rattle.field.specs.Prime.{Prime}
use Rattle.field.specs.Modulus.Prime.{prime_positive}
use Rattle.field.specs.Fp.{el}
use Rattle.field.specs.Elements.Fp.{el_val, val_lt}
use Rattle.field.specs.Moduli.{Listed}
use Rattle.field.specs.Modulus.Laws.{listed_below}
use Rattle.field.specs.Modulo.{Modulo}
use Rattle.poly.specs.Keys.{key, exponents}
use Rattle.poly.specs.Terms.{Polynomial, terms_of, numbers_of, coefficient_limit}
use Rattle.field.specs.Lent.{written}
use Rattle.poly.specs.Key.Laws.{Digits, digits_of, exponents_of_key}
use Rattle.poly.specs.Key.Terms.{key_of_term, coefficient_of_term}
use Rattle.divisor.specs.declared.CandidateRecord.{CandidateRecord}
use Rattle.divisor.specs.Rule.{Kept, Tried, Unknowns, Solution, without_zeros, divided_by, made_monic, divisor, cut_off, rejected}
use Rattle.divisor.specs.Rule.{accepted, unsolvable, several, divided, all_bad, some_good}
use Rattle.divisor.specs.Candidate.{Call, prime, Numbers, A, B, AnswerTo, handed_out}
use Rattle.divisor.specs.Answer.CandidateDetermined.{result_of}
use Rattle.divisor.specs.Monic.Value.{zero_dropped, nonzero_kept}

module _ (K : Field) where
  open K use {ring as R}

  -- the monomials have keys
  abbrev pub Keyed : Polynomial K → Type 0
  Keyed [] = Unit {0}
  Keyed (t ∷ ts) = Digits t.exponents × Keyed ts

  -- dropping zeros and dividing leave as many terms at most, with the same monomials
  pub record KeyedWithin (f : Polynomial K) (n : ℕ) : Type 0 where
    pub keyed : Keyed f
    pub count : length f ≤ n

  without_zeros_within : (f : Polynomial K) → Keyed f → KeyedWithin (without_zeros K f) (length f)
  unfolding without_zeros
  without_zeros_within [] h = record { keyed = tt; count = omega arith }
  without_zeros_within (t ∷ ts) h =
      let w = without_zeros_within ts h.1 in
      elim (K.decide t.coefficient) [
        | yes e ↦ rw (zero_dropped K t ts e) (record { keyed = w.keyed; count = let l = w.count in omega arith })
        | no q ↦ rw (nonzero_kept K t ts q) (record { keyed = (h.0, w.keyed); count = let l = w.count in omega arith })
      ]

  divided_within : (c : R.Car) (f : Polynomial K) → Keyed f → KeyedWithin (divided_by K c f) (length f)
  unfolding divided_by
  divided_within c [] h = record { keyed = tt; count = omega arith }
  divided_within c (t ∷ ts) h =
      let w = divided_within c ts h.1 in record { keyed = (h.0, w.keyed); count = let l = w.count in omega arith }

  made_monic_within : (f : Polynomial K) → Keyed f → KeyedWithin (made_monic K f) (length f)
  unfolding made_monic
  made_monic_within [] h = record { keyed = tt; count = omega arith }
  made_monic_within (t ∷ ts) h = divided_within t.coefficient (t ∷ ts) h

  proposed_within : (f : Polynomial K) (keys : List ℕ) → map (λ (t : Term R). t.exponents) f ≡ map exponents keys → KeyedWithin f (length keys)
  proposed_within [] [] e = record { keyed = tt; count = omega arith }
  proposed_within [] (k ∷ ks) e =
      absurd (let z : ◌≡◌ {A = ℕ} 0 (suc (length (map exponents ks))) = ap length e in omega arith)
  proposed_within (t ∷ ts) [] e =
      absurd (let z : suc (length (map (λ (t : Term R). t.exponents) ts)) ≡ 0 = ap length e in omega arith)
  proposed_within (t ∷ ts) (k ∷ ks) e =
      let q : t.exponents ≡ exponents k = cc in
      let r : map (λ (t : Term R). t.exponents) ts ≡ map exponents ks = cc in
      let w = proposed_within ts ks r in
      record { keyed = (subst Digits (sym q) (digits_of k), w.keyed); count = let l = w.count in omega arith }

  -- G has at most as many terms as the skeleton, and their monomials have keys
  pub divisor_within : (keys : List ℕ) (kept : List (Kept K)) (s : Unknowns K) → Solution K (map exponents keys) kept s
      → KeyedWithin (divisor K s) (length keys)
  divisor_within keys kept s h =
      let a = proposed_within s.skeleton keys h.proposed in
      let b = without_zeros_within s.skeleton a.keyed in
      let c = made_monic_within (without_zeros K s.skeleton) b.keyed in
      record { keyed = c.keyed; count = let l = a.count in let m = b.count in let n = c.count in omega arith }

module _ (p : ℕ) (P : Prime p) where
  pub length_numbers : (f : Polynomial (Modulo p P)) → length (numbers_of p P f) ≡ length f
  length_numbers [] = refl
  length_numbers (t ∷ ts) = ap suc (length_numbers ts)

module _ (p : ℕ) (P : Prime p) (small : p < coefficient_limit) where
  -- the numbers of a polynomial, read again
  pub read_numbers : (f : Polynomial (Modulo p P)) → Keyed (Modulo p P) f → terms_of p P (numbers_of p P f) ≡ f
  read_numbers [] h = refl
  read_numbers (t ∷ ts) h =
      let l : t.coefficient.val < p = val_lt (prime_positive P) t.coefficient in
      let below : t.coefficient.val < coefficient_limit = omega arith in
      let e = ap exponents (key_of_term (key t.exponents) t.coefficient.val below) ∙ exponents_of_key t.exponents h.0 in
      let c = ap (el p) (coefficient_of_term (key t.exponents) t.coefficient.val below) ∙ el_val t.coefficient in
      ap₂ ◌∷◌ (λ i. record { exponents = e i; coefficient = c i }) (read_numbers ts h.1)

  -- what is written first can be read there
  output_read : (f : Polynomial (Modulo p P)) (out : List ℕ) → Keyed (Modulo p P) f
      → terms_of p P (take (length f) (written (numbers_of p P f) out)) ≡ f
  output_read f out h =
      ap (λ (n : ℕ). terms_of p P (take n (written (numbers_of p P f) out))) (sym (length_numbers p P f))
      ∙ ap (terms_of p P) (take_at (numbers_of p P f) _ _ refl) ∙ read_numbers f h

-- what the divisions hand out has keys where G has
tried_keyed : (K : Field) (A B G : Polynomial K) (ceiling n m : ℕ) (H : Polynomial K) → Tried K A B G ceiling n H m → Keyed K G → Keyed K H
tried_keyed K A B G ceiling n m H (cut_off a s l) h = tt
tried_keyed K A B G ceiling n m H (rejected a s l x) h = tt
tried_keyed K A B G ceiling n m H (accepted a s l x) h = h

-- an answer's G has keys, and the record counts its terms
pub answer_counts : (c : Call) (listed : Listed c.modulus) (r : CandidateRecord) (G : Polynomial (Numbers c listed))
    → AnswerTo c listed r G → Keyed (Numbers c listed) G × (r.terms ≡ length G)
answer_counts c listed r G (all_bad all) = (tt, refl)
answer_counts c listed r G (some_good d b u k kept sorted n H m (unsolvable x)) = (tt, refl)
answer_counts c listed r G (some_good d b u k kept sorted n H m (several x)) = (tt, refl)
answer_counts c listed r G (some_good d b u k kept sorted n H m (divided s only tried)) = (
  tried_keyed (Numbers c listed) (A c listed) (B c listed) (divisor (Numbers c listed) s) c.ceiling n m H tried
      (divisor_within (Numbers c listed) c.skeleton (k ∷ kept) s only.0).keyed,
  refl,
)

-- in an answered call the output holds G
pub answered_output : (c : Call) (listed : Listed c.modulus) (f : CandidateRecord) (G : Polynomial (Numbers c listed))
    → AnswerTo c listed f G → handed_out c listed (result_of c listed f G) ≡ G
answered_output c listed f G x =
    let l = answer_counts c listed f G x in
    ap (λ (n : ℕ). terms_of c.modulus (prime c listed) (take n (written (numbers_of c.modulus (prime c listed) G) c.output))) l.1
    ∙ output_read c.modulus (prime c listed) (let b = listed_below listed in omega arith) G c.output l.0
