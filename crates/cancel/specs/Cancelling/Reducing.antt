-- What two quotients by the scaled divisor give: N' and D' as the promise of the key wants them.
use Rattle.std.specs.Prelude.{◌≡◌, List, [], ◌∷◌, ℕ, ◌≤◌, ◌<◌, length}
use Rattle.std.proofs.Math.Path.{sym}
use Rattle.std.proofs.Common.{◌∙◌, ap, subst, arith}
use Rattle.algebra.specs.Field.{Field}
use Rattle.algebra.specs.Ring.{CommRing}
use Rattle.algebra.specs.SeriesRing.{S4}
use Rattle.algebra.specs.Polynomials.{D4, domain}
use Rattle.algebra.specs.Monomial.{polynomial}
use Rattle.algebra.specs.Laws.Ring.{mul_zero}
use Rattle.algebra.specs.Laws.Divides.{div_from}
use Rattle.algebra.specs.Laws.Solver.{◌⊗◌, ◌≗◌, ring3}
use Rattle.field.specs.Prime.{Prime}
use Rattle.field.specs.Fp.{el}
use Rattle.field.specs.Elements.Fp.{el_nonzero}
use Rattle.field.specs.Moduli.{Listed}
use Rattle.field.specs.Modulus.Laws.{listed_prime, listed_below}
use Rattle.field.specs.Modulo.{Modulo}
use Rattle.field.specs.Refusal.{Passes}
use Rattle.field.specs.Faults.Laws.{placed_never, passes_append}
use Rattle.poly.specs.QuotientCall.{QuotientRecord}
use Rattle.poly.specs.Keys.{exponents, keys}
use Rattle.poly.specs.Terms.{Polynomial, coefficient_limit, key_of, terms_of, numbers_of, poly}
use Rattle.poly.specs.Divides.{Divides}
use Rattle.poly.specs.Lists.{most_terms, of_lists, Falling}
use Rattle.poly.specs.Room.{of_rooms, work_room, cleared}
use Rattle.poly.specs.QuotientCall.{quotient_call, quotient_table, IsQuotient, QuotientResult, quotient_result, Quotient}
use Rattle.poly.specs.List.Right.{RightList, right_lists_pass}
use Rattle.poly.specs.Key.Terms.{poly_finite, poly_head, poly_lead}
use Rattle.poly.specs.Rooms.Laws.{zeroed_length, cleared_again}
use Rattle.poly.specs.Quotient.Laws.{Given, quotient_given}
use Rattle.divisor.specs.declared.CandidateRecord.{CandidateRecord}
use Rattle.divisor.specs.Candidate.{table}
use Rattle.divisor.specs.Demands.{LeadsWith, constant}
use Rattle.divisor.specs.Checks.Passed.{keys_most}
use Rattle.divisor.specs.Verdict.Output.{length_numbers}
use Rattle.divisor.specs.Answer.Accepted.{AcceptedList, some_terms, accepted_list}
use Rattle.cancel.specs.CancelCall.{CancelCall, cancel_table, divisor_call, Numbers, Finds, Times, Reduced, cancel_result, with_both}
use Rattle.cancel.specs.CancelCall.{Cancel, cancelled}
use Rattle.cancel.specs.Scaling.Model.{times}
use Rattle.cancel.specs.Scaling.Turns.{length_times}
use Rattle.cancel.specs.Scaling.Laws.{times_falls, poly_times}
use Rattle.cancel.specs.Cancelling.Model.{first_coefficient, scaled_divisor}
use Rattle.cancel.specs.Cancelling.Tables.{right_lists, numerator_fits, denominator_fits, work_fits}
use Rattle.cancel.specs.Cancelling.Lists.{accepted_leads, leads_by_first, list_nonzero, right_falls}
use Rattle.cancel.specs.Cancelling.Products.{quotient_leads, scaled_divides}
use Rattle.cancel.specs.Cancelling.Theorems.{accepted_divisor}

-- over a prime: a monic G, a list D that falls, and the list of G times D's first coefficient
module _ (p : ℕ) (P : Prime p) (small : p < coefficient_limit) (G : Polynomial (Modulo p P)) (most : ℕ) (list : AcceptedList p P most G)
    (D : List ℕ) (right : RightList p D) where
  abbrev K : Field
  K = Modulo p P

  abbrev R : CommRing
  R = K.ring

  abbrev g : (S4 R).Car
  g = polynomial R G

  abbrev L : List ℕ
  L = numbers_of p P G

  -- D's first coefficient
  abbrev lead : ℕ
  lead = first_coefficient D

  lead_in : (ts : List ℕ) → 0 < length ts → Falling p keys ts → (¬ (first_coefficient ts ≡ 0)) × (first_coefficient ts < p)
  lead_in [] l h = absurd (omega arith)
  lead_in (t ∷ ts) l h = ((let m = h.1 in λ e. omega arith), h.2)

  lead_not_zero : ¬ (lead ≡ 0)
  lead_not_zero = (lead_in D right.some right.falls).0

  lead_below : lead < p
  lead_below = (lead_in D right.some right.falls).1

  factor_not_zero : ¬ (el p lead ≡ el p 0)
  factor_not_zero = el_nonzero p lead lead_below lead_not_zero

  L_means : poly p P L ≡ g
  L_means = ap (polynomial R) list.reads

  -- the list that both are divided by
  scaled_means : poly p P (times p lead L) ≡ (S4 R).mul g (constant K (el p lead))
  scaled_means = poly_times p P small lead L ∙ ap (λ (f : (S4 R).Car). (S4 R).mul f (constant K (el p lead))) L_means

  pub scaled_right : length (numbers_of p P G) ≤ most_terms → RightList p (times p (first_coefficient D) (numbers_of p P G))
  scaled_right few =
      let e = length_times p lead L in
      record {
        some = let l = some_terms p P most G list in omega arith;
        most = omega arith;
        falls = times_falls p P small lead lead_below lead_not_zero keys L list.falls;
      }

  pub scaled_list_divides : (F : List ℕ) → Divides (Modulo p P) (polynomial (Modulo p P).ring G) (poly p P F)
      → Divides (Modulo p P) (poly p P (times p (first_coefficient D) (numbers_of p P G))) (poly p P F)
  scaled_list_divides F d =
      div_from (S4 R) (D4 R (domain K)) _ _ (poly p P F) (sym scaled_means) (scaled_divides K g (poly p P F) (el p lead) factor_not_zero d)

  -- a quotient by it
  module _ (F qs : List ℕ) (q : IsQuotient p P F (times p (first_coefficient D) (numbers_of p P G)) qs) where
    product : (S4 R).mul ((S4 R).mul g (constant K (el p lead))) (poly p P qs) ≡ poly p P F
    product = ap (λ (f : (S4 R).Car). (S4 R).mul f (poly p P qs)) (sym scaled_means) ∙ q.product

    pub quotient_times : Times p P G qs (el p (first_coefficient D)) F
    quotient_times =
        ring3 (S4 R) (λ g q c. g ⊗ q ⊗ c ≗ g ⊗ c ⊗ q) tt g (poly p P qs) (constant K (el p lead)) ∙ product

  -- of D it is monic
  pub quotient_monic : (ds : List ℕ) → IsQuotient p P D (times p (first_coefficient D) (numbers_of p P G)) ds
      → LeadsWith (Modulo p P) (el p 1) (terms_of p P ds)
  quotient_monic [] q =
      absurd (list_nonzero p P D right.some right.falls (sym q.product ∙ (unfold polynomial in mul_zero (S4 R) _)))
  quotient_monic (t ∷ ts) q =
      let falls = right_falls p P (t ∷ ts) q.right in
      sym (poly_head p P t ts falls.3)
      ∙ quotient_leads K g (poly p P (t ∷ ts)) (poly p P D) (el p lead) factor_not_zero (accepted_leads p P most G list)
      (leads_by_first p P D right.some right.falls) (exponents (key_of t)) (poly_finite p P (t ∷ ts))
      (poly_lead p P t ts keys falls) (product D (t ∷ ts) q)

-- after a call of the candidate that accepts
module _ (c : CancelCall) (output : List ℕ) (passed : Passes (table (divisor_call c output))) (pass : Passes (cancel_table c))
    (listed : Listed c.modulus) (found : CandidateRecord) (G : Polynomial (Numbers c listed)) (answer : Finds c listed found G)
    (accepted : found.fault.number ≡ 0) where
  abbrev p : ℕ
  p = c.modulus

  abbrev P : Prime c.modulus
  P = listed_prime listed

  abbrev N : List ℕ
  N = c.numerator

  abbrev D : List ℕ
  D = c.denominator

  small : p < coefficient_limit
  small = let l = listed_below listed in omega arith

  G_list : AcceptedList p P (length c.skeleton) G
  G_list = accepted_list (divisor_call c output) passed listed found G answer accepted

  -- the list that both are divided by
  abbrev by : List ℕ
  by = scaled_divisor p D (numbers_of p P G)

  by_right : RightList p by
  by_right =
      scaled_right p P small G (length c.skeleton) G_list D (right_lists c pass).second
      (let l = G_list.few in let m = keys_most (divisor_call c output) passed in omega (arith, length_numbers p P G))

  -- both are divided by it, in the lent rooms
  module _ (F : List ℕ) (F_right : RightList p F) (divides : Divides (Modulo p P) (polynomial (Modulo p P).ring G) (poly p P F))
      (out work : List ℕ) (long : keys ≤ length out) (room : work_room ≤ length work) where
    quotient_passes : Passes (quotient_table (quotient_call p F by out work))
    quotient_passes =
        passes_append (of_lists p F by) (of_rooms (length out) keys (length work))
        (right_lists_pass p F by (record { is_listed = listed; first = F_right; second = by_right }))
        (placed_never (λ l. omega arith), (placed_never (λ l. omega arith), tt))

    divided : (r : QuotientResult) → Quotient (quotient_call p F by out work) r → Given (quotient_call p F by out work) listed r
    divided r q =
        quotient_given (quotient_call p F by out work) quotient_passes listed
        (scaled_list_divides p P small G (length c.skeleton) G_list D (right_lists c pass).second F divides) r q

  -- so two quotients, one after the other, answer the call
  module _ (first second : QuotientRecord) (numerator' denominator' between work' : List ℕ)
      (of_numerator : Quotient (quotient_call p N by c.numerator_output (cleared c.work)) (quotient_result first numerator' between))
      (of_denominator : Quotient (quotient_call p D by c.denominator_output between) (quotient_result second denominator' work')) where
    pub both_divided : Cancel c (cancel_result (with_both found first.terms second.terms) numerator' denominator' work')
    both_divided =
        let right = right_lists c pass in
        let greatest = accepted_divisor c pass listed found G answer accepted in
        let room = zeroed_length work_room c.work (work_fits c pass) in
        let ns = divided N right.first greatest.divides.0 c.numerator_output (cleared c.work) (numerator_fits c pass)
        (let w = work_fits c pass in omega arith) (quotient_result first numerator' between) of_numerator in
        let same : between ≡ cleared c.work = ns.clears ∙ cleared_again c.work in
        let ds = divided D right.second greatest.divides.1 c.denominator_output (cleared c.work) (denominator_fits c pass)
        (let w = work_fits c pass in omega arith) (quotient_result second denominator' work')
        (subst (λ (w : List ℕ). Quotient (quotient_call p D by c.denominator_output w) (quotient_result second denominator' work')) same
        of_denominator) in
        let reduced : Reduced p P N D G ns.terms ds.terms =
        record {
          factor = el p (first_coefficient D);
          numerator = quotient_times p P small G (length c.skeleton) G_list D right.second N ns.terms ns.exact;
          denominator = quotient_times p P small G (length c.skeleton) G_list D right.second D ds.terms ds.exact;
          monic = quotient_monic p P small G (length c.skeleton) G_list D right.second ds.terms ds.exact;
          numerator_right = ns.exact.right;
          denominator_right = ds.exact.right;
        } in
        subst (Cancel c)
        (λ i. cancel_result (with_both found (sym ns.counted i) (sym ds.counted i)) (sym ns.writes i) (sym ds.writes i)
        (sym (ds.clears ∙ cleared_again c.work) i))
        (cancelled pass listed found G answer accepted ns.terms ds.terms reduced)
