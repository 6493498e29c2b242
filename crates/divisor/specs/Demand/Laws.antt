-- DEMAND 3, both halves: proved of every result that meets the candidate call's promise.
use Rattle.std.specs.Prelude.{◌≡◌, refl, List, [], ◌∷◌, map, ℕ, ◌≤◌, ◌<◌, length}
use Rattle.std.proofs.Common.{sym, ◌∙◌, ap, subst, arith}
use Rattle.algebra.specs.Field.{Field}
use Rattle.algebra.specs.SeriesRing.{S4}
use Rattle.algebra.specs.Monomial.{polynomial}
use Rattle.field.specs.Moduli.{Listed}
use Rattle.field.specs.Refusal.{Passes}
use Rattle.field.specs.Faults.Laws.{refuses_numbered}
use Rattle.poly.specs.Keys.{exponents, keys}
use Rattle.poly.specs.Terms.{Polynomial}
use Rattle.poly.specs.Divides.{Divides}
use Rattle.poly.specs.Key.Laws.{exponents_order}
use Rattle.poly.specs.List.Laws.{FallFrom}
use Rattle.divisor.specs.Rule.{DividesBoth, Unknowns, without_zeros, made_monic, divisor}
use Rattle.divisor.specs.Candidate.{Call, most_steps, table, Numbers, A, B, monomials, lent_points, handed_out, Result, Candidate, refused}
use Rattle.divisor.specs.Candidate.{answered}
use Rattle.divisor.specs.Demands.{DegreeX, GreatestInX, HasTerms, MadeMonic, AcceptedIsGreatest, SortedOut, ProposedDivisor, CeilingCovers, OneSolution}
use Rattle.divisor.specs.Demands.{CommonDivisorComesOut, LargeCeilingCovers}
use Rattle.divisor.specs.Checks.Passed.{first_bounded, second_bounded, skeleton_falls}
use Rattle.divisor.specs.Monic.Laws.{monic_is_made_monic}
use Rattle.divisor.specs.Demand.Degree.{accepted_greatest}
use Rattle.divisor.specs.Answer.CandidateDetermined.{candidate_determined}
use Rattle.divisor.specs.Demand.Proposed.{Under, FallingMonomials, terms_at, terms_at_monomials, polynomial_of_terms_at}
use Rattle.divisor.specs.Demand.Complete.{divisor_is_monic, divisor_divides, common_divisor_found}
use Rattle.divisor.specs.Demand.Quotients.{has_terms_unique, quotient_terms}
use Rattle.divisor.specs.Ceiling.Steps.{StepsFound, divisor_steps, BothQuotients, both_quotients}
use Rattle.divisor.specs.Verdict.Output.{answered_output}

-- DEMAND 3, first half
pub accepted_is_greatest : (c : Call) (r : Result) → Candidate c r → AcceptedIsGreatest c r
accepted_is_greatest c r (refused f h) e = absurd (refuses_numbered (table c) tt f h e)
accepted_is_greatest c r (answered pass listed f G x) e = (
  listed,
  subst (λ (H : Polynomial (Numbers c listed)). GreatestInX (Numbers c listed) (A c listed) (B c listed) H f.degree)
      (sym (answered_output c listed f G x))
      (accepted_greatest (Numbers c listed) (A c listed) (B c listed) (monomials c listed) (lent_points c listed) c.ceiling
      (first_bounded c pass listed) (second_bounded c pass listed) f G x e),
)

-- keys that fall have monomials that fall
keys_under : (b k : ℕ) (ks : List ℕ) → b ≤ k → FallFrom b ks → Under (exponents k) (map exponents ks)
keys_under b k [] l h = tt
keys_under b k (j ∷ js) l h = (
  exponents_order j k (let m : j < b = h.0 in omega arith),
  keys_under j k js (let m : j < b = h.0 in omega arith) h.1,
)

keys_falling : (b : ℕ) (ks : List ℕ) → FallFrom b ks → FallingMonomials (map exponents ks)
keys_falling b [] h = tt
keys_falling b (k ∷ ks) h = (keys_under k k ks (omega arith) h.1, keys_falling k ks h.1)

-- a divisor within the skeleton, and the only solution of the equations of the sorted points
module _ (c : Call) (pass : Passes (table c)) (listed : Listed c.modulus) (found : SortedOut c listed) (one : OneSolution c listed found)
    (C : (S4 (Numbers c listed).ring).Car) (h : ProposedDivisor c listed found.d C) where
  abbrev F : Field
  F = Numbers c listed

  abbrev s : Unknowns (Numbers c listed)
  s = one.0

  -- C as a list of terms
  abbrev L : Polynomial (Numbers c listed)
  L = terms_at F (monomials c listed) C

  of_L : polynomial F.ring L ≡ C
  of_L = polynomial_of_terms_at F (monomials c listed) (keys_falling keys c.skeleton (skeleton_falls c pass)) C h.proposed

  L_divides : DividesBoth F (A c listed) (B c listed) L
  L_divides =
      subst (λ (f : (S4 F.ring).Car). Divides F f (polynomial F.ring (A c listed)) × Divides F f (polynomial F.ring (B c listed))) (sym of_L)
      (h.of_first, h.of_second)

  L_degree : DegreeX F found.d (polynomial F.ring L)
  L_degree = subst (DegreeX F found.d) (sym of_L) h.degree

  C_nonzero : ¬ (C ≡ (S4 F.ring).𝟘)
  C_nonzero e = h.degree.nonzero (ap (λ (f : (S4 F.ring).Car). f found.d) e)

  -- the divisor is C made monic
  monic : MadeMonic F C (divisor F s)
  monic =
      subst (λ (G : Polynomial F). MadeMonic F C G)
      (sym (divisor_is_monic F (A c listed) (B c listed) (first_bounded c pass listed) (second_bounded c pass listed) L L_divides found.d L_degree
      (monomials c listed) (terms_at_monomials F (monomials c listed) C) (lent_points c listed) found.bad found.unlucky found.first
      found.others found.sorted s one.1))
      (subst (λ (f : (S4 F.ring).Car). MadeMonic F f (made_monic F (without_zeros F L))) of_L
      (monic_is_made_monic F L (λ e. C_nonzero (sym of_L ∙ e))))

  both : DividesBoth F (A c listed) (B c listed) (divisor F s)
  both =
      divisor_divides F (A c listed) (B c listed) (first_bounded c pass listed) (second_bounded c pass listed) L L_divides found.d L_degree
      (monomials c listed) (terms_at_monomials F (monomials c listed) C) (lent_points c listed) found.bad found.unlucky found.first
      found.others found.sorted s one.1

  -- the steps of its divisions are the terms of both quotients by C
  steps : StepsFound F (A c listed) (B c listed) (divisor F s)
  steps = divisor_steps c pass listed found s one.1.0

  quotients : BothQuotients F (A c listed) (B c listed) (divisor F s) steps.steps
  quotients = both_quotients F (A c listed) (B c listed) (divisor F s) steps.steps both steps.takes

  first_terms : HasTerms F (length quotients.of_A) h.of_first.quo
  first_terms = quotient_terms F C (divisor F s) monic C_nonzero (A c listed) quotients.of_A quotients.first h.of_first

  second_terms : HasTerms F (length quotients.of_B) h.of_second.quo
  second_terms = quotient_terms F C (divisor F s) monic C_nonzero (B c listed) quotients.of_B quotients.second h.of_second

  -- so a ceiling that covers these terms covers the steps
  covered : CeilingCovers c listed h → steps.steps ≤ c.ceiling
  covered covers =
      let a = has_terms_unique F covers.0 (length quotients.of_A) h.of_first.quo covers.2 first_terms in
      let b = has_terms_unique F covers.1 (length quotients.of_B) h.of_second.quo covers.3 second_terms in
      let e = quotients.counted in
      let l = covers.4 in
      omega arith

  -- and 8,192 covers them
  covers_large : most_steps ≤ c.ceiling → CeilingCovers c listed h
  covers_large l = (
    length quotients.of_A,
    length quotients.of_B,
    first_terms,
    second_terms,
    let e = quotients.counted in let w = steps.few in omega arith,
  )

  -- what the rule answers
  comes_out : (r : Result) → Candidate c r → CeilingCovers c listed h → (r.found.fault.number ≡ 0) × MadeMonic F C (handed_out c listed r)
  comes_out r meets covers =
      let answer = common_divisor_found F (A c listed) (B c listed) (first_bounded c pass listed) (second_bounded c pass listed) L L_divides found.d L_degree
      (monomials c listed) (terms_at_monomials F (monomials c listed) C) (lent_points c listed) found.bad found.unlucky found.first
      found.others found.sorted s one.1 c.ceiling steps.steps steps.takes (covered covers) in
      subst (λ (q : Result). (q.found.fault.number ≡ 0) × MadeMonic F C (handed_out c listed q))
      (candidate_determined c _ r (answered pass listed _ _ answer) meets)
      (refl, subst (λ (H : Polynomial F). MadeMonic F C H) (sym (answered_output c listed _ _ answer)) monic)

-- DEMAND 3, second half
pub common_divisor_comes_out : (c : Call) (r : Result) → Candidate c r → CommonDivisorComesOut c r
common_divisor_comes_out c r meets pass listed found one C h covers = comes_out c pass listed found one C h r meets covers

pub large_ceiling_covers : (c : Call) → LargeCeilingCovers c
large_ceiling_covers c l pass listed found one C h = covers_large c pass listed found one C h l
