-- The model of the image at a point, as the code works it: the two values, then Euclid's algorithm.
use Rattle.std.specs.Prelude.{true, false, List, ℕ, eqb, replicate}
use Rattle.poly.specs.declared.PointImage.{PointImage}
use Rattle.poly.specs.Value.Model.{value_of, leading_number}
use Rattle.poly.specs.Euclid.Model.{size, gcd}

-- an image by its size and its coefficients
abbrev pub seen : ℕ → List ℕ → PointImage
seen size u = record { size = size; coefficients = u }

-- at a bad point, and at a good one
abbrev pub no_image : PointImage
no_image = seen 0 (replicate 8 0)

abbrev pub sized : List ℕ → PointImage
sized u = seen (size u) u

-- where the values are a and b, and their leading numbers are m and n: the value that keeps its degree is not 0
unfoldable pub image_of_values : ℕ → ℕ → ℕ → List ℕ → List ℕ → PointImage
image_of_values p m n a b =
    elim (eqb m 0) [ false ↦ sized (gcd p b a) | true ↦ elim (eqb n 0) [ false ↦ sized (gcd p a b) | true ↦ no_image ] ]

unfoldable pub image_of : ℕ → List ℕ → List ℕ → List ℕ → PointImage
image_of p A B point =
    let a = value_of p point A in
    let b = value_of p point B in
    image_of_values p (leading_number A a) (leading_number B b) a b
