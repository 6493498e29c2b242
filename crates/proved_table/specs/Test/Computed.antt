-- What the rule answers, computed: images, sorting, equations and the divisor by the models, the divisions on short lists.
use Rattle.std.specs.Prelude.{Bool, true, false, List, [], ◌∷◌, map, ℕ, zero, suc, ◌+◌, ◌-◌, ◌/◌, length, take}
use Rattle.std.proofs.Math.Decide.{dec_le}
use Rattle.algebra.specs.Linear.{Solutions, unsolvable, one, several}
use Rattle.algebra.specs.Models.Elimination.{solve}
use Rattle.field.specs.Prime.{Prime}
use Rattle.field.specs.Fp.{Fp}
use Rattle.field.specs.Modulo.{Modulo}
use Rattle.field.specs.Numbers.{NO_GOOD_POINT, NO_SOLUTION, SEVERAL_SOLUTIONS, DOES_NOT_DIVIDE, CEILING_REACHED}
use Rattle.poly.specs.declared.PointImage.{PointImage}
use Rattle.poly.specs.Keys.{exponents}
use Rattle.poly.specs.Terms.{terms_of}
use Rattle.poly.specs.Division.Model.{most_of}
use Rattle.divisor.specs.Rule.{Counts, none_good, Kept}
use Rattle.divisor.specs.Candidate.{points_of}
use Rattle.divisor.specs.Equations.Rows.{all_rows}
use Rattle.divisor.specs.Sorting.Model.{sizes_of, least, alike, kept_of}
use Rattle.divisor.specs.Monic.Model.{monic_terms}
use Rattle.divisor.specs.Points.Seen.{looks_from}
use Rattle.proved_table.specs.Test.TermDivision.{Outcome, ended, open_still, division}

-- what the kept points settle: the number, the terms to be handed out, and the steps
pub data ComputedVerdict : Type 0 where
  unsettled : ComputedVerdict
  settled : ℕ → List ℕ → ℕ → ComputedVerdict

-- the number, what is counted, the terms and the steps
pub data Computed : Type 0 where
  unanswered : Computed
  answered : ℕ → Counts → List ℕ → ℕ → Computed

-- what is settled after n steps, within the ceiling: whether G divides
unfoldable pub within : List ℕ → ℕ → Bool → ComputedVerdict
within G n true = settled 0 G n
within G n false = settled DOES_NOT_DIVIDE [] n

unfoldable pub under : ℕ → List ℕ → ℕ → Bool → ComputedVerdict
under ceiling G n whole = elim (dec_le n ceiling) [ yes l ↦ within G n whole | no l ↦ settled CEILING_REACHED [] ceiling ]

-- what the two divisions settle
unfoldable pub tried : ℕ → List ℕ → Outcome → Outcome → ComputedVerdict
tried ceiling G (ended n true) (ended m whole) = under ceiling G (n + m) whole
tried ceiling G (ended n true) open_still = unsettled
tried ceiling G (ended n false) o = under ceiling G n false
tried ceiling G open_still o = unsettled

-- the steps that a division is given; those of the table take fewer
abbrev pub steps_given : ℕ
steps_given = 64

-- f by G
unfoldable pub divided_by : (p : ℕ) → Prime p → List ℕ → List ℕ → Outcome
divided_by p P G f = division (Modulo p P) (most_of f) (most_of G) steps_given (terms_of p P f) (terms_of p P G)

module _ (p : ℕ) (P : Prime p) (A B skeleton points : List ℕ) (ceiling : ℕ) where
  -- by the divisions of A and B by the divisor
  abbrev pub by_division : List ℕ → ComputedVerdict
  by_division G = tried ceiling G (divided_by p P G A) (divided_by p P G B)

  -- by the solutions of the equations
  unfoldable pub by_answer : Solutions (Fp p) → ComputedVerdict
  by_answer unsolvable = settled NO_SOLUTION [] 0
  by_answer (several v w) = settled SEVERAL_SOLUTIONS [] 0
  by_answer (one v) = by_division (monic_terms p skeleton (take (length skeleton) (map (λ (x : Fp p). x.val) v)))

  -- a verdict with d and the counts of the points
  unfoldable pub with_counts : ℕ → List ℕ → ComputedVerdict → Computed
  with_counts d sizes unsettled = unanswered
  with_counts d sizes (settled number terms steps) =
      answered number
      (record {
        d = d;
        bad = alike 0 sizes;
        unlucky = length points / 3 - alike 0 sizes - alike (suc d) sizes;
        kept = alike (suc d) sizes;
      })
      terms steps

  -- by the kept points
  unfoldable pub by_kept : ℕ → List ℕ → List (Kept (Modulo p P)) → Computed
  by_kept d sizes [] = unanswered
  by_kept d sizes (k ∷ ks) =
      with_counts d sizes (by_answer (solve (Modulo p P) (length skeleton + length ks) (all_rows (Modulo p P) (map exponents skeleton) k ks)))

  -- by the least size of an image, which is 0 where all points are bad
  unfoldable pub by_least : List PointImage → ℕ → Computed
  by_least looks zero = answered NO_GOOD_POINT (none_good (length points / 3)) [] 0
  by_least looks (suc d) = by_kept d (sizes_of looks) (kept_of P (suc d) (points_of p P points) looks)

  unfoldable pub by_looks : List PointImage → Computed
  by_looks looks = by_least looks (least (sizes_of looks))

  unfoldable pub computed : Computed
  computed = by_looks (looks_from p A B points 0 (length points / 3))
