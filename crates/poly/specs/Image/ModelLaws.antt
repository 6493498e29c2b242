-- The model of the image gives the image: its values are the values, and Euclid's algorithm gives their monic greatest common divisor.
use Rattle.std.specs.Prelude.{◌≡◌, refl, List, [], ◌∷◌, ℕ, suc, ◌-◌, ◌<◌, length, get_or}
use Rattle.std.proofs.Common.{sym, ap, ◌∙◌, subst, arith}
use Rattle.std.proofs.Math.Decide.{ℕ_discrete}
use borrow.Author.Tests.{eq-eqb, ne_eqb}
use Rattle.field.specs.Prime.{Prime}
use Rattle.field.specs.Modulus.Prime.{prime_positive}
use Rattle.field.specs.Fp.{Fp, el}
use Rattle.field.specs.Elements.Fp.{el_nonzero}
use Rattle.field.specs.Modulo.{Modulo}
use Rattle.poly.specs.Keys.{keys}
use Rattle.poly.specs.Terms.{terms_of}
use Rattle.poly.specs.PointValue.{value, x_degree}
use Rattle.poly.specs.PointImage.{LeadVanishes, Image}
use Rattle.poly.specs.LeadingPart.{x_of}
use Rattle.poly.specs.Coefficients.{Eight, series}
use Rattle.poly.specs.ImageCall.{point_of, PointAnswer, bad, good}
use Rattle.poly.specs.Value.Model.{value_of, leading_number}
use Rattle.poly.specs.Euclid.Model.{size, gcd}
use Rattle.poly.specs.Image.Model.{seen, no_image, sized, image_of_values, image_of}
use Rattle.poly.specs.Euclid.Numbers.{eight_clear, size_clear}
use Rattle.poly.specs.Euclid.Meaning.{clear_ends}
use Rattle.poly.specs.Euclid.Gcd.{IsGcd, gcd_nonzero, gcd_is_gcd}
use Rattle.poly.specs.Value.ModelLaws.{value_of_eight}
use Rattle.poly.specs.Value.Meaning.{value_of_series}
use Rattle.poly.specs.Image.Laws.{image_swap}
use Rattle.poly.specs.List.Falling.{falling_key}
use Rattle.poly.specs.List.Right.{RightList}

-- what the code's tests of the leading numbers settle
module _ (p m n : ℕ) (a b : List ℕ) where
  pub first_keeps : ¬ (m ≡ 0) → image_of_values p m n a b ≡ sized (gcd p b a)
  unfolding image_of_values
  first_keeps x = rw (ne_eqb m 0 x, image_of_values)

  pub second_keeps : m ≡ 0 → ¬ (n ≡ 0) → image_of_values p m n a b ≡ sized (gcd p a b)
  unfolding image_of_values
  second_keeps x y = rw (eq-eqb m 0 x, ne_eqb n 0 y, image_of_values)

  pub neither_keeps : m ≡ 0 → n ≡ 0 → image_of_values p m n a b ≡ no_image
  unfolding image_of_values
  neither_keeps x y = rw (eq-eqb m 0 x, eq-eqb n 0 y, image_of_values)

-- a number that is not 0 gives a size
pub size_positive : (p x : ℕ) (a : List ℕ) → Eight p a → ¬ (get_or a x 0 ≡ 0) → 0 < size a
size_positive p x a h n =
    elim (ℕ_discrete (size a) 0) [ yes e ↦ absurd (n (size_clear 8 a (eight_clear p a h) x (omega arith))) | no q ↦ omega arith ]

module _ {p : ℕ} (P : Prime p) (point : List ℕ) where
  -- the value of a list at the point
  abbrev value_there : List ℕ → ℕ → Fp p
  value_there ts = value (Modulo p P).ring (terms_of p P ts) (point_of p P point)

  -- its numbers, as the code works them, and the one that the code tests
  abbrev numbers : List ℕ → List ℕ
  numbers ts = value_of p point ts

  abbrev tested : List ℕ → ℕ
  tested ts = leading_number ts (numbers ts)

  in_range : (ts : List ℕ) → Eight p (numbers ts)
  in_range ts = value_of_eight p point (prime_positive P) ts

  are_value : (ts : List ℕ) → RightList p ts → series p (numbers ts) ≡ value_there ts
  are_value ts h = value_of_series p P point ts (falling_key p keys ts h.falls)

  first_power : (ts : List ℕ) → 0 < length ts → x_degree (Modulo p P).ring (terms_of p P ts) ≡ x_of (get_or ts 0 0)
  first_power [] l = absurd (omega arith)
  first_power (t ∷ ts) l = refl

  -- the number that the code tests is the x-leading coefficient at the point
  leading : (ts : List ℕ) → RightList p ts → el p (tested ts) ≡ value_there ts (x_degree (Modulo p P).ring (terms_of p P ts))
  leading ts h = ap (λ (f : ℕ → Fp p). f (x_of (get_or ts 0 0))) (are_value ts h) ∙ ap (value_there ts) (sym (first_power ts h.some))

  vanishes : (ts : List ℕ) → RightList p ts → tested ts ≡ 0 → LeadVanishes (Modulo p P) (terms_of p P ts) (point_of p P point)
  vanishes ts h z = sym (leading ts h) ∙ ap (el p) z

  -- u is the image of two lists
  record Found (A B u : List ℕ) : Type 0 where
    eight : Eight p u
    some : 0 < size u
    image : Image (Modulo p P) (terms_of p P A) (terms_of p P B) (point_of p P point) (size u - 1) (series p u)

  found_answers : (A B u : List ℕ) → Found A B u → PointAnswer p P (terms_of p P A) (terms_of p P B) (point_of p P point) (sized u)
  found_answers A B u h =
      let one_more : suc (size u - 1) ≡ size u = omega (arith, h.some) in
      subst (λ (s : ℕ). PointAnswer p P (terms_of p P A) (terms_of p P B) (point_of p P point) (seen s u)) one_more
      (good (size u - 1) u h.eight h.image)

  -- where B's value keeps its degree
  module _ (A B : List ℕ) (hA : RightList p A) (hB : RightList p B) (keeps : ¬ (tested B ≡ 0)) where
    abbrev u : List ℕ
    u = gcd p (numbers A) (numbers B)

    filled : 0 < size (numbers B)
    filled = size_positive p (x_of (get_or B 0 0)) (numbers B) (in_range B) keeps

    greatest : IsGcd P (value_there A) (value_there B) u (size u - 1)
    greatest =
        subst (λ (v : ℕ → Fp p). IsGcd P v (value_there B) u (size u - 1)) (are_value A hA)
        (subst (λ (v : ℕ → Fp p). IsGcd P (series p (numbers A)) v u (size u - 1)) (are_value B hB)
        (gcd_is_gcd P (numbers A) (numbers B) (in_range A) (in_range B) filled))

    found : Found A B u
    found = record {
      eight = greatest.eight;
      some = gcd_nonzero P (numbers A) (numbers B) (in_range A) (in_range B) filled;
      image =
          record {
            good = λ z. el_nonzero p (tested B) ((in_range B).below (x_of (get_or B 0 0))) keeps (leading B hB ∙ z.1);
            monic =
                record {
                  leads = ap (el p) greatest.monic.one;
                  ends = clear_ends p (prime_positive P) (suc (size u - 1)) u greatest.monic.clear;
                };
            greatest = greatest.greatest;
          };
    }

  found_swap : (A B u : List ℕ) → Found B A u → Found A B u
  found_swap A B u h = record {
    eight = h.eight;
    some = h.some;
    image = image_swap (Modulo p P) (terms_of p P B) (terms_of p P A) (point_of p P point) _ _ h.image;
  }

  -- the model answers as the rule says
  pub image_of_answers : (A B : List ℕ) → RightList p A → RightList p B
      → PointAnswer p P (terms_of p P A) (terms_of p P B) (point_of p P point) (image_of p A B point)
  unfolding image_of
  image_of_answers A B hA hB = go (ℕ_discrete (tested A) 0) (ℕ_discrete (tested B) 0)
    where
      go : Dec (tested A ≡ 0) → Dec (tested B ≡ 0)
          → PointAnswer p P (terms_of p P A) (terms_of p P B) (point_of p P point)
          (image_of_values p (tested A) (tested B) (numbers A) (numbers B))
      go (no x) t = rw (first_keeps p _ _ (numbers A) (numbers B) x) (found_answers A B _ (found_swap A B _ (found B A hB hA x)))
      go (yes x) (no y) = rw (second_keeps p _ _ (numbers A) (numbers B) x y) (found_answers A B _ (found A B hA hB y))
      go (yes x) (yes y) = rw (neither_keeps p _ _ (numbers A) (numbers B) x y) (bad (vanishes A hA x, vanishes B hB y))
