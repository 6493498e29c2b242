-- `poly::image::image_into` meets its contract: the two values, the tests of their leading numbers and what is made of both are the model's,
-- which answers the point.
use Rattle.std.proofs.Common.{◌≡◌, sym, ap, ◌∙◌, subst, List, ℕ, get_or}
use Rattle.field.specs.Modulus.Laws.{listed_above, listed_positive}
use Rattle.poly.specs.declared.PointImage.{PointImage}
use Rattle.poly.specs.Coefficients.{Eight}
use Rattle.poly.specs.LeadingPart.{x_of}
use Rattle.poly.specs.ImageCall.{Fine, AnswersPoint}
use Rattle.poly.specs.Value.Model.{CanEvaluate, Valued, leading_number}
use Rattle.poly.specs.Euclid.Model.{gcd}
use Rattle.poly.specs.Euclid.Steps.{Pair, IsDivisor}
use Rattle.poly.specs.Image.Model.{seen, sized, image_of_values, image_of}
use Rattle.poly.specs.List.Right.{RightLists, lists_are_right}
use Rattle.poly.specs.Value.ModelLaws.{value_of_eight}
use Rattle.poly.specs.Image.Call.{model_answers}
use Rattle.poly.specs.Image.ModelLaws.{first_keeps, second_keeps, neither_keeps, size_positive}
use Rattle.poly.proofs.image.image_into.Goals as goal

-- what the code makes of a pair is the model's
divided : {p n : ℕ} {a b u : List ℕ} → IsDivisor p a b u n → seen n u ≡ sized (gcd p a b)
divided {u = u} d = (λ i. seen (d.sized i) u) ∙ ap sized d.divisor

-- inputs that are in order
module _ {p : ℕ} {A B point : List ℕ} (fine : Fine p A B point) where
  -- what passing the checks gives
  right : RightLists p A B
  right = lists_are_right p A B fine.lists

  first_evaluates : CanEvaluate p point A
  first_evaluates = record { above = listed_above right.is_listed; three = fine.three; right = right.first }

  second_evaluates : CanEvaluate p point B
  second_evaluates = record { above = listed_above right.is_listed; three = fine.three; right = right.second }

  -- with both values worked
  module _ {a b : List ℕ} {m n : ℕ} (first : Valued p point A a m) (second : Valued p point B b n) where
    first_in_range : Eight p a
    first_in_range = subst (Eight p) (sym first.value) (value_of_eight p point (listed_positive right.is_listed) A)

    second_in_range : Eight p b
    second_in_range = subst (Eight p) (sym second.value) (value_of_eight p point (listed_positive right.is_listed) B)

    -- the value whose leading number is not 0 may stand second
    first_stands_second : ¬ (m ≡ 0) → Pair p b a
    first_stands_second keeps =
        record {
          is_listed = right.is_listed;
          first = second_in_range;
          second = first_in_range;
          some = size_positive p (x_of (get_or A 0 0)) a first_in_range (λ z. keeps (first.leading ∙ z));
        }

    second_stands_second : ¬ (n ≡ 0) → Pair p a b
    second_stands_second keeps =
        record {
          is_listed = right.is_listed;
          first = first_in_range;
          second = second_in_range;
          some = size_positive p (x_of (get_or B 0 0)) b second_in_range (λ z. keeps (second.leading ∙ z));
        }

    -- they are the model's, which answers the point
    answers : {r : PointImage} → r ≡ image_of_values p m n a b → AnswersPoint p A B point r
    unfolding image_of
    answers e =
        model_answers p A B point fine.lists
        (e ∙ (λ i. image_of_values p (first.leading i) (second.leading i) a b)
        ∙ (λ i. image_of_values p (leading_number A (first.value i)) (leading_number B (second.value i)) (first.value i) (second.value i)))

pub value-m-requires : goal.value-m-requires
value-m-requires c = first_evaluates c.requires

pub value-n-requires : goal.value-n-requires
value-n-requires c = second_evaluates c.requires

pub gcd-requires : goal.gcd-requires
gcd-requires c = first_stands_second c.requires c.value-m.ensures c.value-n.ensures c.if-m-ne0.true

pub returns-then-m-ne0 : goal.returns-then-m-ne0
returns-then-m-ne0 c =
    answers c.requires c.value-m.ensures c.value-n.ensures (divided c.gcd.ensures ∙ sym (first_keeps _ _ _ _ _ c.if-m-ne0.true))

pub gcd-size-requires : goal.gcd-size-requires
gcd-size-requires c = second_stands_second c.requires c.value-m.ensures c.value-n.ensures c.if-n-ne0.true

pub returns-then-n-ne0 : goal.returns-then-n-ne0
returns-then-n-ne0 c =
    answers c.requires c.value-m.ensures c.value-n.ensures
    (divided c.gcd-size.ensures ∙ sym (second_keeps _ _ _ _ _ c.if-m-ne0.false c.if-n-ne0.true))

pub returns : goal.returns
returns c =
    answers c.requires c.value-m.ensures c.value-n.ensures (sym (neither_keeps _ _ _ _ _ c.if-m-ne0.false c.if-n-ne0.false))
