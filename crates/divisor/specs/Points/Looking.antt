-- Looking at a point of inputs that pass: its coordinates are in order, what it gives is the rule's, and the image has eight numbers.
use Rattle.std.proofs.Common.{sym, subst, arith}
use Rattle.std.specs.Prelude.{List, ℕ, ◌+◌, ◌*◌, ◌/◌, ◌<◌, length}
use Rattle.field.specs.Modulus.Laws.{listed_prime}
use Rattle.field.specs.Prime.{Prime}
use Rattle.field.specs.Modulus.Prime.{prime_positive}
use Rattle.field.specs.Modulo.{Modulo}
use Rattle.poly.specs.declared.PointImage.{PointImage}
use Rattle.poly.specs.Terms.{Polynomial, terms_of}
use Rattle.poly.specs.PointValue.{Point}
use Rattle.poly.specs.Coefficients.{Eight}
use Rattle.poly.specs.ImageCall.{point_of, PointAnswer, bad, good, Fine}
use Rattle.poly.specs.List.Right.{RightLists, lists_are_right}
use Rattle.poly.specs.Image.ModelLaws.{image_of_answers}
use Rattle.poly.specs.Value.ModelLaws.{zeros_eight}
use Rattle.divisor.specs.Candidate.{point_at}
use Rattle.divisor.specs.Points.Model.{look_at, LookReady}
use Rattle.divisor.specs.Points.Parts.{part_length, part_at}

-- what a point gives has eight numbers below p
answer_eight : (p : ℕ) (P : Prime p) (A B : Polynomial (Modulo p P)) (at : Point (Modulo p P).ring) (r : PointImage) → PointAnswer p P A B at r
    → Eight p r.coefficients
answer_eight p P A B at r (bad x) = zeros_eight p (prime_positive P)
answer_eight p P A B at r (good d cs e i) = e

module _ {p : ℕ} {A B points work : List ℕ} (h : LookReady p A B points work) where
  right : RightLists p A B
  right = lists_are_right p A B h.lists

  pub point_fine : (i : ℕ) → i < length points / 3 → Fine p A B (point_at points i)
  point_fine i l = record {
    lists = h.lists;
    three = part_length 3 i points (let t = h.threes in omega arith);
    below = λ j b. subst (λ (n : ℕ). n < p) (sym (part_at 3 i points j b)) (h.below (3 * i + j) (let t = h.threes in omega arith));
  }

  pub look_answers : (P : Prime p) (i : ℕ) → PointAnswer p P (terms_of p P A) (terms_of p P B) (point_of p P (point_at points i)) (look_at p A B points i)
  look_answers P i = image_of_answers P (point_at points i) A B right.first right.second

  pub look_eight : (i : ℕ) → Eight p (look_at p A B points i).coefficients
  look_eight i = answer_eight p (listed_prime right.is_listed) _ _ _ _ (look_answers (listed_prime right.is_listed) i)
