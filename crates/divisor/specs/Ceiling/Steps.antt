-- The divisions by a list that falls end, within 8,192 steps; so do those by the divisor that the kept points of a call settle. Where it divides both
-- lists, the steps are the terms of both quotients, in either order of the lists.
use Rattle.std.specs.Prelude.{◌≡◌, refl, Bool, true, false, List, ◌∷◌, ℕ, ◌+◌, ◌≤◌, length}
use Rattle.std.proofs.Common.{sym, subst, true≢false, arith}
use Rattle.algebra.specs.Field.{Field}
use Rattle.algebra.specs.Polynomials.{domain}
use Rattle.algebra.specs.Monomial.{Term, polynomial}
use Rattle.algebra.specs.Division.{Division}
use Rattle.algebra.specs.Laws.Division.{division_says}
use Rattle.field.specs.Prime.{Prime}
use Rattle.field.specs.Moduli.{Listed}
use Rattle.field.specs.Modulus.Laws.{listed_below}
use Rattle.field.specs.Modulo.{Modulo}
use Rattle.field.specs.Refusal.{Passes}
use Rattle.poly.specs.Terms.{Polynomial, terms_of, numbers_of}
use Rattle.poly.specs.Value.Laws.{polynomial_finite}
use Rattle.poly.specs.List.Right.{RightList}
use Rattle.poly.specs.Division.Ends.{Dividing, Ended, division_ends}
use Rattle.divisor.specs.Rule.{DividesBoth, Unknowns, Solution, divisor, Steps, of_first, of_both}
use Rattle.divisor.specs.Candidate.{Call, most_steps, table, prime, Numbers, A, B, monomials}
use Rattle.divisor.specs.Demands.{SortedOut}
use Rattle.divisor.specs.Checks.Passed.{right_lists}
use Rattle.divisor.specs.Verdict.Laws.{takes_first, takes_both}
use Rattle.divisor.specs.Answer.Accepted.{AcceptedList, some_terms, solution_list}

-- so many steps are taken, and no more than two divisions can
pub record StepsFound (K : Field) (A B G : Polynomial K) : Type 0 where
  pub steps : ℕ
  pub takes : Steps K A B G steps
  pub few : steps ≤ most_steps

-- of three lists
module _ (p : ℕ) (A B G : List ℕ) (first : Dividing p A G) (second : Dividing p B G) where
  lists_take : (P : Prime p) → StepsFound (Modulo p P) (terms_of p P A) (terms_of p P B) (terms_of p P G)
  lists_take P = go (division_ends p A G first).whole refl
    where
      a : Ended p A G
      a = division_ends p A G first

      b : Ended p B G
      b = division_ends p B G second

      go : (w : Bool) → (division_ends p A G first).whole ≡ w → StepsFound (Modulo p P) (terms_of p P A) (terms_of p P B) (terms_of p P G)
      go false e = record {
        steps = length a.terms;
        takes = takes_first p A B G a.terms a.whole a.division e P;
        few = let l = a.few in omega arith;
      }
      go true e = record {
        steps = length a.terms + length b.terms;
        takes = takes_both p A B G a.terms b.terms a.whole b.whole a.division e b.division P;
        few = let l = a.few in let m = b.few in omega arith;
      }

-- of the divisor of a call
module _ (c : Call) (pass : Passes (table c)) (listed : Listed c.modulus) where
  pub divisor_steps : (found : SortedOut c listed) (s : Unknowns (Numbers c listed))
      → Solution (Numbers c listed) (monomials c listed) (found.first ∷ found.others) s
      → StepsFound (Numbers c listed) (A c listed) (B c listed) (divisor (Numbers c listed) s)
  divisor_steps found s solution =
      let p = c.modulus in
      let P = prime c listed in
      let G = divisor (Numbers c listed) s in
      let list = solution_list c pass listed found.d found.bad found.unlucky found.first found.others found.sorted s solution in
      subst (StepsFound (Numbers c listed) (A c listed) (B c listed)) list.reads
      (lists_take p c.first_list c.second_list (numbers_of p P G) (dividing list c.first_list (right_lists c pass).first)
      (dividing list c.second_list (right_lists c pass).second) P)
    where
      dividing : AcceptedList c.modulus (prime c listed) (length c.skeleton) (divisor (Numbers c listed) s) → (F : List ℕ)
          → RightList c.modulus F → Dividing c.modulus F (numbers_of c.modulus (prime c listed) (divisor (Numbers c listed) s))
      dividing list F right = record {
        word = let b = listed_below listed in omega arith;
        some_dividend = right.some;
        dividend_falls = right.falls;
        some_divisor = some_terms c.modulus (prime c listed) (length c.skeleton) (divisor (Numbers c listed) s) list;
        divisor_falls = list.falls;
      }

-- Where G divides both lists, both divisions say yes.
module _ (K : Field) (A B G : Polynomial K) where
  pub record BothQuotients (n : ℕ) : Type 0 where
    pub of_A : List (Term K.ring)
    pub of_B : List (Term K.ring)
    pub first : Division K.ring (polynomial K.ring A) (polynomial K.ring G) of_A true
    pub second : Division K.ring (polynomial K.ring B) (polynomial K.ring G) of_B true
    pub counted : length of_A + length of_B ≡ n

  pub both_quotients : (n : ℕ) → DividesBoth K A B G → Steps K A B G n → BothQuotients n
  both_quotients n both (of_first qs d) =
      absurd (true≢false (sym ((division_says K.ring (domain K) (λ a. tt) (polynomial K.ring A) (polynomial K.ring G) qs false
      (polynomial_finite K G) d).1 both.0)))
  both_quotients n both (of_both qs rs whole d e) =
      let w = (division_says K.ring (domain K) (λ a. tt) (polynomial K.ring B) (polynomial K.ring G) rs whole (polynomial_finite K G) e).1 both.1 in
      record { of_A = qs; of_B = rs; first = d; second = subst (Division K.ring (polynomial K.ring B) (polynomial K.ring G) rs) w e; counted = refl }

  -- so as many steps are taken in either order
  pub steps_swap : (n : ℕ) → DividesBoth K A B G → Steps K A B G n → Steps K B A G n
  steps_swap n both t =
      let q = both_quotients n both t in
      let e : length q.of_B + length q.of_A ≡ n = let c = q.counted in omega arith in
      subst (Steps K B A G) e (of_both q.of_B q.of_A true q.second q.first)
