-- A list over another has one quotient at most, so the promise of the quotient service settles record, output and work room.
use Rattle.std.specs.Prelude.{◌≡◌, refl, List, [], ◌∷◌, ℕ, ◌≤◌, ◌<◌, length, Result, Ok, Err}
use Rattle.std.proofs.Common.{sym, ◌∙◌, ap, subst, arith}
use Rattle.algebra.specs.SeriesRing.{S4}
use Rattle.algebra.specs.Polynomials.{D4, domain}
use Rattle.algebra.specs.Laws.Divides.{cancel}
use Rattle.algebra.specs.Laws.Lead.{lead_nonzero}
use Rattle.field.specs.Prime.{Prime}
use Rattle.field.specs.Moduli.{Listed}
use Rattle.field.specs.Modulus.Laws.{listed_prime, listed_unique}
use Rattle.field.specs.Modulo.{Modulo}
use Rattle.field.specs.Refusal.{Line, none, Passes, Refuses, StandsFor, RefutesAnotherList}
use Rattle.field.specs.Faults.Laws.{OnePlaceEach, whole_one_place, one_place_append, never_placed, refuses_determined, not_passes_and_refuses}
use Rattle.field.specs.Faults.Laws.{refuses_names, refuses_positive, stands_err, stands_determined, passes_front, passes_back}
use Rattle.field.specs.declared.faults.Fault.{Fault}
use Rattle.poly.specs.Keys.{exponents, keys}
use Rattle.poly.specs.Terms.{key_of, poly}
use Rattle.poly.specs.Divides.{Divides}
use Rattle.poly.specs.Lists.{of_lists, Falling}
use Rattle.field.specs.Lent.{written}
use Rattle.poly.specs.Room.{of_rooms, cleared}
use Rattle.poly.specs.QuotientCall.{QuotientCall, QuotientRecord, quotient_table, IsQuotient, QuotientResult, quotient_result, refused_quotient, found_quotient, Quotient, refused, no_quotient, quotient}
use Rattle.poly.specs.TrialDivision.{CanDivide}
use Rattle.poly.specs.List.Check.{lists_one_place}
use Rattle.poly.specs.List.Right.{lists_are_right}
use Rattle.poly.specs.Key.Terms.{poly_finite, poly_lead, right_lists_equal}

module _ (p : ℕ) (P : Prime p) where
  quotient_divides : (f g qs : List ℕ) → IsQuotient p P f g qs → Divides (Modulo p P) (poly p P g) (poly p P f)
  quotient_divides f g qs q = record { quo = poly p P qs; fin = poly_finite p P qs; eq = q.product }

  -- one quotient at most
  pub quotient_unique : (f g qs rs : List ℕ) → 0 < length g → Falling p keys g → IsQuotient p P f g qs → IsQuotient p P f g rs → qs ≡ rs
  quotient_unique f [] qs rs s h a b = absurd (omega arith)
  quotient_unique f (u ∷ us) qs rs s h a b =
      right_lists_equal p P qs rs a.right b.right
      (cancel (S4 (Modulo p P).ring) (D4 (Modulo p P).ring (domain (Modulo p P))) (poly p P qs) (poly p P rs) (poly p P (u ∷ us))
      (poly_finite p P qs) (poly_finite p P rs) (poly_finite p P (u ∷ us))
      (lead_nonzero (Modulo p P).ring (exponents (key_of u)) (poly p P (u ∷ us)) (poly_lead p P u us keys h))
      (a.product ∙ sym b.product))

module _ (c : QuotientCall) where
  abbrev lists : List Line
  lists = of_lists c.modulus c.first_list c.second_list

  abbrev rooms : List Line
  rooms = of_rooms (length c.output) keys (length c.work)

  quotient_one_place : OnePlaceEach (quotient_table c)
  quotient_one_place =
      one_place_append lists rooms (lists_one_place c.modulus c.first_list c.second_list) (whole_one_place _, (whole_one_place _, tt))

  -- where no line applies the lists can be divided, and the output is long enough
  module _ (h : Passes (quotient_table c)) where
    pub passed_lists : CanDivide c.modulus c.first_list c.second_list c.work
    passed_lists =
        let right = lists_are_right c.modulus c.first_list c.second_list (passes_front lists rooms h) in
        record {
          is_listed = right.is_listed;
          some_dividend = right.first.some;
          dividend_falls = right.first.falls;
          some_divisor = right.second.some;
          divisor_falls = right.second.falls;
          room = let n = never_placed (passes_back lists rooms h).1.0 in omega arith;
        }

    pub passed_output : keys ≤ length c.output
    passed_output = let n = never_placed (passes_back lists rooms h).0 in omega arith

  abbrev Exact : Listed c.modulus → List ℕ → Type 0
  Exact listed qs = IsQuotient c.modulus (listed_prime listed) c.first_list c.second_list qs

  -- the evidence that the modulus is listed does not matter
  exact_same : (listed listed' : Listed c.modulus) (qs : List ℕ) → Exact listed qs → Exact listed' qs
  exact_same listed listed' qs q = subst (λ (l : Listed c.modulus). Exact l qs) (listed_unique _ listed listed') q

  abbrev handed : List ℕ → QuotientResult
  handed qs = record { found = record { fault = none; terms = length qs }; output = written qs c.output; work = cleared c.work }

  pub quotient_determined : (r s : QuotientResult) → Quotient c r → Quotient c s → r ≡ s
  quotient_determined r s (refused f h) (refused g k) =
      let e = refuses_determined (quotient_table c) quotient_one_place f g h k in
      λ i. record { found = record { fault = e i; terms = 0 }; output = c.output; work = c.work }
  quotient_determined r s (refused f h) (no_quotient pass listed n) = absurd (not_passes_and_refuses (quotient_table c) f pass h)
  quotient_determined r s (refused f h) (quotient pass listed qs q) = absurd (not_passes_and_refuses (quotient_table c) f pass h)
  quotient_determined r s (no_quotient pass listed n) (refused g k) = absurd (not_passes_and_refuses (quotient_table c) g pass k)
  quotient_determined r s (no_quotient pass listed n) (no_quotient pass' listed' n') = refl
  quotient_determined r s (no_quotient pass listed n) (quotient pass' listed' qs q) =
      absurd (n (quotient_divides c.modulus (listed_prime listed) c.first_list c.second_list qs (exact_same listed' listed qs q)))
  quotient_determined r s (quotient pass listed qs q) (refused g k) = absurd (not_passes_and_refuses (quotient_table c) g pass k)
  quotient_determined r s (quotient pass listed qs q) (no_quotient pass' listed' n) =
      absurd (n (quotient_divides c.modulus (listed_prime listed') c.first_list c.second_list qs (exact_same listed listed' qs q)))
  quotient_determined r s (quotient pass listed qs q) (quotient pass' listed' rs q') =
      let g = passed_lists pass in
      ap handed
      (quotient_unique c.modulus (listed_prime listed) c.first_list c.second_list qs rs g.some_divisor g.divisor_falls q
      (exact_same listed' listed rs q'))

  -- a `Result` with output and work room stands for what the promise says
  abbrev pub Told : Result ℕ Fault → List ℕ → List ℕ → Type 0
  Told r output work = StandsFor refused_quotient found_quotient (λ q. Quotient c (quotient_result q output work)) r

  told_of : {output work : List ℕ} (r : Result ℕ Fault) → Told r output work → (q : QuotientRecord) × Quotient c (quotient_result q output work)
  told_of (Ok n) t = (found_quotient n, t)
  told_of (Err f) t = (refused_quotient f, t.1)

  -- two of one call are equal, and so are the rooms
  pub quotient_result_determined : (r s : Result ℕ Fault) (output output' work work' : List ℕ)
      → Told r output work → Told s output' work' → (r ≡ s) × (output ≡ output') × (work ≡ work')
  quotient_result_determined r s output output' work work' t u =
      let same = quotient_determined _ _ (told_of r t).1 (told_of s u).1 in
      let o : output ≡ output' = ap (λ (q : QuotientResult). q.output) same in
      let w : work ≡ work' = ap (λ (q : QuotientResult). q.work) same in
      let there : Told s output work = subst (λ (b : List ℕ). Told s b work) (sym o) (subst (Told s output') (sym w) u) in (
        stands_determined refused_quotient found_quotient (λ q. Quotient c (quotient_result q output work))
            (λ f g e. ap (λ (q : QuotientRecord). q.fault) e) (λ n m e. ap (λ (q : QuotientRecord). q.terms) e)
            (λ f n l e. omega (arith, l, ap (λ (q : QuotientRecord). q.fault.number) e))
            (λ q z h k. ap (λ (x : QuotientResult). x.found) (quotient_determined _ _ h k)) r s t there,
        o,
        w,
      )

  -- its error, where the inputs do not pass, is the table's
  pub quotient_refused : (f : Fault) → Refuses (quotient_table c) f → {r : Result ℕ Fault} → r ≡ Err f
      → StandsFor refused_quotient found_quotient (λ q. Quotient c (quotient_result q c.output c.work)) r
  quotient_refused f h e =
      stands_err refused_quotient found_quotient (λ q. Quotient c (quotient_result q c.output c.work)) e
      (refuses_positive (quotient_table c) tt f h) (refused f h)

  pub quotient_another_list : RefutesAnotherList (λ r. r.found.fault) (Quotient c)
  quotient_another_list r other (refused f h) = other (refuses_names (quotient_table c) f h)
  quotient_another_list r other (no_quotient pass listed n) = other refl
  quotient_another_list r other (quotient pass listed qs q) = other refl

  -- the second list divides the first
  abbrev pub DividesExactly : Listed c.modulus → Type 0
  DividesExactly listed = Divides (Modulo c.modulus (listed_prime listed)) (poly c.modulus (listed_prime listed) c.second_list)
      (poly c.modulus (listed_prime listed) c.first_list)

  -- what is given then, where the inputs pass
  pub record Given (listed : Listed c.modulus) (r : QuotientResult) : Type 0 where
    pub terms : List ℕ
    pub exact : IsQuotient c.modulus (listed_prime listed) c.first_list c.second_list terms
    pub counted : r.found.terms ≡ length terms
    pub writes : r.output ≡ written terms c.output
    pub clears : r.work ≡ cleared c.work

  pub quotient_given : Passes (quotient_table c) → (listed : Listed c.modulus) → DividesExactly listed
      → (r : QuotientResult) → Quotient c r → Given listed r
  quotient_given pass listed d r (refused f h) = absurd (not_passes_and_refuses (quotient_table c) f pass h)
  quotient_given pass listed d r (no_quotient pass' listed' n) =
      absurd (n (subst DividesExactly (listed_unique _ listed listed') d))
  quotient_given pass listed d r (quotient pass' listed' qs q) =
      record { terms = qs; exact = exact_same listed' listed qs q; counted = refl; writes = refl; clears = refl }
