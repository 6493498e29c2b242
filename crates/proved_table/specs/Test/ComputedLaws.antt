-- What is computed for a call whose inputs pass meets the promise of the call.
use Rattle.std.specs.Prelude.{◌≡◌, ◌↔◌, Bool, get_or, take}
use Rattle.std.proofs.Math.Path.{refl}
use Rattle.std.proofs.Common.{sym, ◌∙◌, ap, ap₂, subst, arith}
use Rattle.std.proofs.Math.Bool.{true, false, false≢true}
use mathlib.Core.List.{List, [], ◌∷◌, map}
use Prim.Native.Nat.{ℕ, zero, suc, ◌+◌, ◌≤◌, ◌<◌}
use Rattle.std.proofs.Math.Decide.{dec_le}
use Rattle.std.proofs.Math.ListN.{length}
use Rattle.std.proofs.lemmas.List.{length-map}
use Rattle.algebra.specs.Monomial.{Term}
use Rattle.algebra.specs.Division.{Division}
use Rattle.algebra.specs.Linear.{Solutions, unsolvable, one, several, Meets}
use Rattle.algebra.specs.Linear as linear
use Rattle.algebra.specs.Laws.Linear.{solve_meets}
use Rattle.field.specs.Prime.{Prime}
use Rattle.field.specs.Modulus.Prime.{prime_positive}
use Rattle.field.specs.Moduli.{Listed}
use Rattle.field.specs.Fp.{Fp, el}
use Rattle.field.specs.Elements.Fp.{el_val, val_lt}
use Rattle.field.specs.Modulo.{Modulo}
use Rattle.field.specs.Numbers.{CEILING_REACHED}
use Rattle.field.specs.Refusal.{Passes}
use Rattle.poly.specs.declared.PointImage.{PointImage}
use Rattle.poly.specs.Keys.{keys}
use Rattle.poly.specs.Terms.{term_of, terms_of, poly}
use Rattle.field.specs.Lent.{written}
use Rattle.poly.specs.Room.{cleared}
use Rattle.poly.specs.Lists.{Falling}
use Rattle.poly.specs.Divides.{Divides}
use Rattle.poly.specs.Key.Terms.{poly_head}
use Rattle.poly.specs.Division.GreatestExponents.{sizes}
use Rattle.poly.specs.Division.Trial.{rule_says}
use Rattle.divisor.specs.declared.CandidateRecord.{CandidateRecord}
use Rattle.divisor.specs.Rule.{report, Kept, Steps, of_first, of_both}
use Rattle.divisor.specs.Candidate.{Call, table, prime, Numbers, A, B, monomials, lent_points, candidate_result, Candidate}
use Rattle.divisor.specs.Table.Meaning.{entries}
use Rattle.divisor.specs.Equations.Rows.{all_rows}
use Rattle.divisor.specs.Sorting.Model.{sizes_of, least, kept_of}
use Rattle.divisor.specs.Monic.Model.{monic_terms}
use Rattle.divisor.specs.Monic.Terms.{AllBelow}
use Rattle.divisor.specs.Sorting.Laws.{Least, AtLeast, least_is}
use Rattle.divisor.specs.Checks.Passed.{looks_of, right_lists}
use Rattle.divisor.specs.Verdict.Model.{Both}
use Rattle.divisor.specs.Answer.Assembled as assembled
use Rattle.proved_table.specs.Test.TermDivision.{Outcome, ended, open_still}
use Rattle.proved_table.specs.Test.TermDivisionLaws.{Means, division_means}
use Rattle.proved_table.specs.Test.Computed.{ComputedVerdict, unsettled, settled, Computed, unanswered, answered, within, under, tried}
use Rattle.proved_table.specs.Test.Computed.{steps_given, divided_by, by_division, by_answer, with_counts, by_kept, by_least, by_looks, computed}

-- the numbers of field elements
abbrev values_of : {p : ℕ} → List (Fp p) → List ℕ
values_of v = map (λ (x : Fp _). x.val) v

entries_shifted : (p x : ℕ) (l : List ℕ) (i n : ℕ) → entries p (x ∷ l) (suc i) n ≡ entries p l i n
unfolding entries
entries_shifted p x l i zero = refl
entries_shifted p x l i (suc n) = ap (el p (get_or l i 0) ∷◌) (entries_shifted p x l (suc i) n)

entries_of_values : (p : ℕ) (v : List (Fp p)) → entries p (values_of v) 0 (length v) ≡ v
unfolding entries
entries_of_values p [] = refl
entries_of_values p (x ∷ v) = ap₂ ◌∷◌ (el_val x) (entries_shifted p x.val (values_of v) 0 (length v) ∙ entries_of_values p v)

values_below : {p : ℕ} → 0 < p → (n : ℕ) (v : List (Fp p)) → AllBelow p (take n (values_of v))
values_below h zero v = tt
values_below h (suc n) [] = tt
values_below h (suc n) (x ∷ v) = (val_lt h x, values_below h n v)

-- what is so of the record and the terms of a computed answer
abbrev pub Told : (CandidateRecord → List ℕ → Type 0) → Computed → Type 0
Told X unanswered = Unit {0}
Told X (answered number counts terms steps) = X (report number counts (length terms) steps) terms

-- what the division of lists says of their polynomials
pub divided_by_means : (p : ℕ) (P : Prime p) (G f : List ℕ) → 0 < length G → Falling p keys G → 0 < length f → Falling p keys f
    → Means (Modulo p P) (poly p P f) (poly p P G) (divided_by p P G f)
unfolding divided_by
divided_by_means p P [] f l h k m = absurd (omega arith)
divided_by_means p P (u ∷ us) [] l h k m = absurd (omega arith)
divided_by_means p P (u ∷ us) (t ∷ ts) l h k m =
    division_means (Modulo p P) steps_given (terms_of p P (t ∷ ts)) (term_of p P u) (terms_of p P us) (sizes p P t ts u us m h) refl
    (poly_head p P u us h.3)

module _ (c : Call) (pass : Passes (table c)) (listed : Listed c.modulus) where
  abbrev p : ℕ
  p = c.modulus

  abbrev P : Prime c.modulus
  P = prime c listed

  -- the numbers and the terms are the candidate's
  abbrev pub Sound : Computed → Type 0
  Sound = Told (λ found terms. Candidate c (candidate_result found (written terms c.output) (cleared c.work)))

  abbrev looks : List PointImage
  looks = looks_of c

  module _ (d : ℕ) (at_least : AtLeast (suc d) (sizes_of looks)) (k : Kept (Numbers c listed)) (ks : List (Kept (Numbers c listed)))
      (kept : kept_of P (suc d) (lent_points c listed) looks ≡ k ∷ ks) where
    abbrev Settled : ComputedVerdict → Type 0
    Settled unsettled = Unit {0}
    Settled (settled number terms steps) = Candidate c (assembled.result c pass listed d at_least k ks kept number terms steps)

    abbrev rows : List (List (Fp c.modulus))
    rows = all_rows (Numbers c listed) (monomials c listed) k ks

    module _ (v : List (Fp c.modulus)) (only : linear.OnlySolution (Numbers c listed) (length c.skeleton + length ks) rows v) where
      abbrev G : List ℕ
      G = monic_terms p c.skeleton (take (length c.skeleton) (values_of v))

      length_values : length (values_of v) ≡ length c.skeleton + length ks
      length_values = length-map v (λ (x : Fp p). x.val) ∙ only.0.unknowns

      solves : linear.OnlySolution (Numbers c listed) (length c.skeleton + length ks) rows (entries p (values_of v) 0 (length c.skeleton + length ks))
      solves = subst (linear.OnlySolution (Numbers c listed) (length c.skeleton + length ks) rows)
          (sym (ap (entries p (values_of v) 0) (sym only.0.unknowns) ∙ entries_of_values p v)) only

      long : length c.skeleton ≤ length (values_of v)
      long = let e = length_values in omega arith

      below : AllBelow p (take (length c.skeleton) (values_of v))
      below = values_below (prime_positive P) (length c.skeleton) v

      -- n steps are taken, and the answer is whether G divides both
      under_settles : (n : ℕ) (whole : Bool) → Steps (Numbers c listed) (A c listed) (B c listed) (terms_of p P G) n
          → (whole ≡ true) ↔ Both p P c.first_list c.second_list G → Settled (under c.ceiling G n whole)
      unfolding under within
      under_settles n whole takes says = go whole says (dec_le n c.ceiling)
        where
          go : (w : Bool) → (w ≡ true) ↔ Both p P c.first_list c.second_list G → (d : Dec (n ≤ c.ceiling))
              → Settled (elim d as (λ _. ComputedVerdict) [ yes l ↦ within G n w | no l ↦ settled CEILING_REACHED [] c.ceiling ])
          go true says (yes l) =
              assembled.answer_accepted c pass listed d at_least k ks kept (values_of v) solves long below n takes l (says.0 refl)
          go false says (yes l) =
              assembled.answer_rejected c pass listed d at_least k ks kept (values_of v) solves long below n takes l (λ both. false≢true (says.1 both))
          go w says (no l) = assembled.answer_cut c pass listed d at_least k ks kept (values_of v) solves long below n takes (omega arith)

      -- what the rule says of a list and G
      says_of : (f : List ℕ) (ts : List (Term (Modulo c.modulus (prime c listed)).ring)) (whole : Bool)
          → Division (Modulo c.modulus (prime c listed)).ring (poly p P f) (poly p P G) ts whole
          → (whole ≡ true) ↔ Divides (Modulo c.modulus (prime c listed)) (poly p P G) (poly p P f)
      says_of f = rule_says P f G

      tried_settles : (first second : Outcome) → Means (Numbers c listed) (poly p P c.first_list) (poly p P G) first
          → Means (Numbers c listed) (poly p P c.second_list) (poly p P G) second → Settled (tried c.ceiling G first second)
      unfolding tried
      tried_settles (ended n true) (ended m whole) a b =
          under_settles (n + m) whole
          (subst (Steps (Numbers c listed) (A c listed) (B c listed) (terms_of p P G)) (ap₂ ◌+◌ a.2 b.2) (of_both a.0 b.0 whole a.1 b.1)) (
            λ e. ((says_of c.first_list a.0 true a.1).0 refl, (says_of c.second_list b.0 whole b.1).0 e),
            λ both. (says_of c.second_list b.0 whole b.1).1 both.1,
          )
      tried_settles (ended n true) open_still a b = tt
      tried_settles (ended n false) o a b =
          under_settles n false
          (subst (Steps (Numbers c listed) (A c listed) (B c listed) (terms_of p P G)) a.2 (of_first a.0 a.1))
          (λ e. absurd (false≢true e), λ both. (says_of c.first_list a.0 false a.1).1 both.0)
      tried_settles open_still o a b = tt

      division_settles : Settled (by_division p P c.first_list c.second_list c.skeleton c.points c.ceiling G)
      division_settles =
          let g = assembled.list c pass listed d at_least k ks kept (values_of v) solves long below in
          let right = right_lists c pass in
          tried_settles (divided_by p P G c.first_list) (divided_by p P G c.second_list)
          (divided_by_means p P G c.first_list g.some g.falls right.first.some right.first.falls)
          (divided_by_means p P G c.second_list g.some g.falls right.second.some right.second.falls)

    answer_settles : (a : Solutions (Fp c.modulus)) → Meets (Numbers c listed) (length c.skeleton + length ks) rows a
        → Settled (by_answer p P c.first_list c.second_list c.skeleton c.points c.ceiling a)
    unfolding by_answer
    answer_settles unsolvable h = assembled.answer_none c pass listed d at_least k ks kept h
    answer_settles (one v) h = division_settles v h
    answer_settles (several v w) h = assembled.answer_several c pass listed d at_least k ks kept v w h

    counts_sound : (v : ComputedVerdict) → Settled v
        → Sound (with_counts p P c.first_list c.second_list c.skeleton c.points c.ceiling d (sizes_of looks) v)
    unfolding with_counts
    counts_sound unsettled h = tt
    counts_sound (settled number terms steps) h = h

  kept_sound : (d : ℕ) → AtLeast (suc d) (sizes_of looks) → (l : List (Kept (Numbers c listed))) → kept_of P (suc d) (lent_points c listed) looks ≡ l
      → Sound (by_kept p P c.first_list c.second_list c.skeleton c.points c.ceiling d (sizes_of looks) l)
  unfolding by_kept
  kept_sound d at_least [] e = tt
  kept_sound d at_least (k ∷ ks) e = counts_sound d at_least k ks e _
      (answer_settles d at_least k ks e _ (solve_meets (Numbers c listed) (length c.skeleton + length ks)
      (all_rows (Numbers c listed) (monomials c listed) k ks)))

  least_sound : (m : ℕ) → Least 0 (sizes_of looks) m → Sound (by_least p P c.first_list c.second_list c.skeleton c.points c.ceiling looks m)
  unfolding by_least
  least_sound zero h = assembled.answer_all_bad c pass listed (h.zero refl)
  least_sound (suc d) h = kept_sound d h.below (kept_of P (suc d) (lent_points c listed) looks) refl

  pub computed_sound : Sound (computed c.modulus (prime c listed) c.first_list c.second_list c.skeleton c.points c.ceiling)
  unfolding computed by_looks
  computed_sound = least_sound (least (sizes_of looks)) (least_is 0 (sizes_of looks))
