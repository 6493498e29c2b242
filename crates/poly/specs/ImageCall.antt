-- The image service: what is lent, the refusals in table order, and what is answered in every case.
use Rattle.std.specs.Prelude.{◌≡◌, List, [], ◌∷◌, ◌++◌, length, get_or, replicate, ℕ, zero, suc, ◌<◌}
use Rattle.field.specs.Prime.{Prime}
use Rattle.field.specs.Fp.{el}
use Rattle.field.specs.Moduli.{Listed}
use Rattle.field.specs.Modulus.Laws.{listed_prime}
use Rattle.field.specs.Modulo.{Modulo}
use Rattle.field.specs.Numbers.{POINTS_COUNT, POINT_NUMBER, NO_GOOD_POINT}
use Rattle.field.specs.Refusal.{Line, line, whole, first, fault, none, Refuses, Passes}
use Rattle.field.specs.declared.faults.Fault.{Fault}
use Rattle.poly.specs.declared.MonicImage.{MonicImage}
use Rattle.poly.specs.declared.PointImage.{PointImage}
use Rattle.poly.specs.Terms.{Polynomial, terms_of}
use Rattle.poly.specs.PointValue.{Point}
use Rattle.poly.specs.PointImage.{Bad, Image}
use Rattle.poly.specs.Lists.{WrongNumber, of_lists}
use Rattle.poly.specs.Coefficients.{Eight, series}

-- What the service tells: a fault, U's coefficients and its degree.
pub record ImageRecord : Type 0 where
  pub fault : Fault
  pub coefficients : List ℕ
  pub degree : ℕ

-- what the service is lent
pub record ImageCall : Type 0 where
  pub modulus : ℕ
  pub first_list : List ℕ
  pub second_list : List ℕ
  pub point : List ℕ

-- a call by its parts
abbrev pub image_call : ℕ → List ℕ → List ℕ → List ℕ → ImageCall
image_call p A B point = record { modulus = p; first_list = A; second_list = B; point = point }

-- a point that isn't three numbers, or of which one is at least p
abbrev pub of_point : ℕ → List ℕ → List Line
of_point p numbers =
    line POINTS_COUNT (whole (¬ (length numbers ≡ 3)))
    ∷ line POINT_NUMBER (first (WrongNumber p numbers))
    ∷ []

-- the refusals of the inputs, tested in this order
abbrev pub image_table : ImageCall → List Line
image_table c = of_lists c.modulus c.first_list c.second_list ++ of_point c.modulus c.point

-- inputs of which nothing is refused: the lines of the modulus and the lists pass, and the point is three numbers below p
pub record Fine (p : ℕ) (A B point : List ℕ) : Type 0 where
  pub lists : Passes (of_lists p A B)
  pub three : length point ≡ 3
  pub below : (i : ℕ) → i < 3 → get_or point i 0 < p

-- the point that three numbers are
abbrev pub point_of : (p : ℕ) (P : Prime p) → List ℕ → Point (Modulo p P).ring
point_of p P numbers = record { y = el p (get_or numbers 0 0); z = el p (get_or numbers 1 0); w = el p (get_or numbers 2 0) }

-- on refusal the coefficients and the degree are 0
abbrev pub refused_image : Fault → ImageRecord
refused_image f = record { fault = f; coefficients = replicate 8 0; degree = 0 }

-- told of an image
abbrev pub found_image : MonicImage → ImageRecord
found_image u = record { fault = none; coefficients = u.coefficients; degree = u.degree }

-- what a point gives: where it is bad nothing, of size 0; else the image, whose size is one more than its degree
pub data PointAnswer (p : ℕ) (P : Prime p) (A B : Polynomial (Modulo p P)) (at : Point (Modulo p P).ring) : PointImage → Type 0 where
  bad : Bad (Modulo p P) A B at → PointAnswer p P A B at (record { size = 0; coefficients = replicate 8 0 })
  good : (degree : ℕ) (coefficients : List ℕ) → Eight p coefficients → Image (Modulo p P) A B at degree (series p coefficients)
      → PointAnswer p P A B at (record { size = suc degree; coefficients = coefficients })

-- the same of lists and numbers, whatever shows that p is prime
abbrev pub AnswersPoint : ℕ → List ℕ → List ℕ → List ℕ → PointImage → Type 0
AnswersPoint p A B point r = (P : Prime p) → PointAnswer p P (terms_of p P A) (terms_of p P B) (point_of p P point) r

-- the record of a size and the coefficients: 12 where the point is bad, else the image
abbrev pub image_record : ℕ → List ℕ → ImageRecord
image_record zero coefficients = refused_image (fault NO_GOOD_POINT 0)
image_record (suc degree) coefficients = record { fault = none; coefficients = coefficients; degree = degree }

-- the promise of the image service
pub data ImageAnswer (c : ImageCall) : ImageRecord → Type 0 where
  refused : (f : Fault) → Refuses (image_table c) f → ImageAnswer c (refused_image f)
  answered : Passes (image_table c) → (listed : Listed c.modulus) (found : PointImage)
      → PointAnswer c.modulus (listed_prime listed)
      (terms_of c.modulus (listed_prime listed) c.first_list) (terms_of c.modulus (listed_prime listed) c.second_list)
      (point_of c.modulus (listed_prime listed) c.point) found
      → ImageAnswer c (image_record found.size found.coefficients)
