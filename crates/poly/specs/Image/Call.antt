-- The image service: what its inputs are where no line applies, its answers by the model, and that its promise settles the record.
use Rattle.std.specs.Prelude.{◌≡◌, refl, List, ℕ, zero, suc, ◌-◌, Result, Err}
use Rattle.std.proofs.Common.{sym, ap, ◌∙◌, subst, arith, ext_get_or}
use Rattle.field.specs.Prime.{Prime}
use Rattle.field.specs.Modulo.{Modulo}
use Rattle.field.specs.Moduli.{Listed}
use Rattle.field.specs.Modulus.Laws.{listed_prime, listed_unique}
use Rattle.field.specs.Numbers.{NO_GOOD_POINT, list_at_fault}
use Rattle.field.specs.Refusal.{fault, none, Passes, Refuses, StandsFor, RefutesAnotherList}
use Rattle.field.specs.Faults.Laws.{OnePlaceEach, whole_one_place, first_one_place, one_place_append, refuses_determined, not_passes_and_refuses}
use Rattle.field.specs.Faults.Laws.{refuses_names, passes_front, passes_back, refuses_positive, stands_err, stands_determined}
use Rattle.field.specs.declared.faults.Fault.{Fault}
use Rattle.poly.specs.ImageCall.{ImageRecord}
use Rattle.poly.specs.declared.PointImage.{PointImage}
use Rattle.poly.specs.declared.MonicImage.{MonicImage}
use Rattle.poly.specs.Terms.{Polynomial, terms_of}
use Rattle.poly.specs.PointValue.{Point}
use Rattle.poly.specs.Lists.{of_lists}
use Rattle.poly.specs.ImageCall.{ImageCall, image_call, of_point, image_table, Fine, point_of, refused_image, found_image, image_record}
use Rattle.poly.specs.ImageCall.{PointAnswer, bad, good, AnswersPoint, ImageAnswer, refused, answered}
use Rattle.poly.specs.Image.Model.{image_of}
use Rattle.poly.specs.Euclid.Meaning.{series_injective}
use Rattle.poly.specs.Image.Laws.{image_unique}
use Rattle.poly.specs.Image.ModelLaws.{image_of_answers}
use Rattle.poly.specs.List.Check.{lists_one_place}
use Rattle.poly.specs.Points.Check.{point_three, point_below}
use Rattle.poly.specs.List.Right.{lists_are_right}

module _ (p : ℕ) (A B point : List ℕ) where
  pub image_fine : Passes (image_table (image_call p A B point)) → Fine p A B point
  image_fine h =
      let back = passes_back (of_lists p A B) (of_point p point) h in
      record { lists = passes_front (of_lists p A B) (of_point p point) h; three = point_three p point back; below = point_below p point back }

  -- what the service answers, where the inputs pass
  pub image_answered : Passes (image_table (image_call p A B point)) → (found : PointImage) → AnswersPoint p A B point found
      → {r : ImageRecord} → r ≡ image_record found.size found.coefficients → ImageAnswer (image_call p A B point) r
  image_answered pass found h e =
      let listed = (lists_are_right p A B (image_fine pass).lists).is_listed in
      rw e (answered pass listed found (h (listed_prime listed)))

  -- its error is the table's
  pub image_refused : (f : Fault) → Refuses (image_table (image_call p A B point)) f → {r : Result MonicImage Fault} → r ≡ Err f
      → StandsFor refused_image found_image (ImageAnswer (image_call p A B point)) r
  image_refused f h e = stands_err refused_image found_image (ImageAnswer (image_call p A B point)) e
      (refuses_positive (image_table (image_call p A B point)) tt f h) (refused f h)

-- the record by a size that the code has tested
pub record_bad : (size : ℕ) (u : List ℕ) → size ≡ 0 → image_record size u ≡ refused_image (fault NO_GOOD_POINT 0)
record_bad zero u e = refl
record_bad (suc degree) u e = absurd (omega arith)

pub record_good : (size : ℕ) (u : List ℕ) → ¬ (size ≡ 0) → image_record size u ≡ record { fault = none; coefficients = u; degree = size - 1 }
record_good zero u n = absurd (n refl)
record_good (suc degree) u n = let e : degree ≡ suc degree - 1 = omega arith in λ i. record { fault = none; coefficients = u; degree = e i }

-- a point settles its answer
pub point_determined : (p : ℕ) (P : Prime p) (A B : Polynomial (Modulo p P)) (at : Point (Modulo p P).ring) (r q : PointImage)
    → PointAnswer p P A B at r → PointAnswer p P A B at q → r ≡ q
point_determined p P A B at r q (bad x) (bad y) = refl
point_determined p P A B at r q (bad x) (good d u h i) = absurd (i.good x)
point_determined p P A B at r q (good d u h i) (bad y) = absurd (i.good y)
point_determined p P A B at r q (good d u h i) (good e v k j) =
    let w = image_unique (Modulo p P) A B at d e _ _ i j in
    let c : u ≡ v = ext_get_or 0 u v (h.eight ∙ sym k.eight) (λ n l. series_injective p u v h k w.1 n) in
    λ i. record { size = suc (w.0 i); coefficients = c i }

-- of inputs in order the model's image answers the point, and no other does
pub model_answers : (p : ℕ) (A B point : List ℕ) → Passes (of_lists p A B) → {r : PointImage} → r ≡ image_of p A B point
    → AnswersPoint p A B point r
model_answers p A B point h e P =
    let right = lists_are_right p A B h in
    subst (PointAnswer p P _ _ _) (sym e) (image_of_answers P point A B right.first right.second)

pub point_model : (p : ℕ) (A B point : List ℕ) → Passes (of_lists p A B) → (r : PointImage) → AnswersPoint p A B point r
    → r ≡ image_of p A B point
point_model p A B point h r s =
    let right = lists_are_right p A B h in
    let P = listed_prime right.is_listed in
    point_determined p P _ _ _ r _ (s P) (image_of_answers P point A B right.first right.second)

image_table_one_place : (c : ImageCall) → OnePlaceEach (image_table c)
image_table_one_place c =
    one_place_append (of_lists c.modulus c.first_list c.second_list) (of_point c.modulus c.point)
    (lists_one_place c.modulus c.first_list c.second_list)
    (whole_one_place _, (first_one_place _, tt))

-- the promise of the image service settles the record
pub image_determined : (c : ImageCall) (r q : ImageRecord) → ImageAnswer c r → ImageAnswer c q → r ≡ q
image_determined c r q (refused f h) (refused g k) =
    ap refused_image (refuses_determined (image_table c) (image_table_one_place c) f g h k)
image_determined c r q (refused f h) (answered pass listed s x) = absurd (not_passes_and_refuses (image_table c) f pass h)
image_determined c r q (answered pass listed s x) (refused g k) = absurd (not_passes_and_refuses (image_table c) g pass k)
image_determined c r q (answered pass listed s x) (answered pass' listed' s' y) =
    ap (λ (found : PointImage). image_record found.size found.coefficients)
    (point_determined c.modulus (listed_prime listed) _ _ _ s s' x
    (subst
    (λ (l : Listed c.modulus).
    PointAnswer c.modulus (listed_prime l) (terms_of c.modulus (listed_prime l) c.first_list)
    (terms_of c.modulus (listed_prime l) c.second_list) (point_of c.modulus (listed_prime l) c.point) s')
    (listed_unique _ listed' listed) y))

monic_known : (u v : MonicImage) → found_image u ≡ found_image v → u ≡ v
monic_known u v e = λ i. record { coefficients = (e i).coefficients; degree = (e i).degree }

-- and so its `Result`
pub image_result_determined : (c : ImageCall) (r q : Result MonicImage Fault)
    → StandsFor refused_image found_image (ImageAnswer c) r → StandsFor refused_image found_image (ImageAnswer c) q → r ≡ q
image_result_determined c =
    stands_determined refused_image found_image (ImageAnswer c) (λ f g e. ap (λ (r : ImageRecord). r.fault) e) monic_known
    (λ f u l e. omega (arith, l, ap (λ (r : ImageRecord). r.fault.number) e)) (image_determined c)

record_names : (size : ℕ) (u : List ℕ) → (image_record size u).fault.list ≡ list_at_fault (image_record size u).fault.number
record_names zero u = refl
record_names (suc degree) u = refl

pub image_another_list : (c : ImageCall) → RefutesAnotherList (λ r. r.fault) (ImageAnswer c)
image_another_list c r other (refused f h) = other (refuses_names (image_table c) f h)
image_another_list c r other (answered pass listed found x) = other (record_names found.size found.coefficients)
