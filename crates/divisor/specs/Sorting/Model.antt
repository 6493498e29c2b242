-- Sorting the points by the sizes of their images: 0 for a bad point, else one more than the image's degree.
use Rattle.std.specs.Prelude.{true, false, List, [], ◌∷◌, ◌++◌, map, ℕ, zero, suc, eqb, ltb, length, get_or, replicate}
use Rattle.field.specs.Loops.Filled.{Filled}
use Rattle.field.specs.Loops.Fold.{fold}
use Rattle.field.specs.Prime.{Prime}
use Rattle.field.specs.Modulo.{Modulo}
use Rattle.poly.specs.declared.PointImage.{PointImage}
use Rattle.poly.specs.PointValue.{Point}
use Rattle.poly.specs.Coefficients.{series}
use Rattle.divisor.specs.Rule.{Kept}
use Rattle.divisor.specs.Candidate.{most_points}

abbrev pub sizes_of : List PointImage → List ℕ
sizes_of looks = map (λ (r : PointImage). r.size) looks

-- the less of two sizes, of which 0 is none
unfoldable pub lesser : ℕ → ℕ → ℕ
lesser a b =
    elim (eqb b 0) [ true ↦ a | false ↦ elim (eqb a 0) [ true ↦ b | false ↦ elim (ltb b a) [ true ↦ b | false ↦ a ] ] ]

-- the least so far, with one more size
abbrev pub with_size : ℕ → ℕ → ℕ
with_size s m = lesser m s

-- the least size but 0, or 0
abbrev pub least : List ℕ → ℕ
least sizes = fold with_size sizes 0

-- how many sizes are m
unfoldable pub alike : ℕ → List ℕ → ℕ
alike m [] = 0
alike m (s ∷ sizes) = elim (eqb s m) [ true ↦ suc (alike m sizes) | false ↦ alike m sizes ]

-- the places before i of the sizes that are m
unfoldable pub places_before : ℕ → List ℕ → ℕ → List ℕ
places_before m sizes zero = []
places_before m sizes (suc i) = places_before m sizes i ++ (elim (eqb (get_or sizes i 0) m) [ true ↦ i ∷ [] | false ↦ [] ])

-- an array with these places, and zeros behind them
abbrev pub HasPlaces : ℕ → List ℕ → ℕ → List ℕ → Type 0
HasPlaces m sizes i places =
    Filled (λ a. get_or (places_before m sizes i) a 0) most_points (replicate most_points 0) (length (places_before m sizes i)) places

-- the points whose size is m, in the order lent, with their images
unfoldable pub kept_of : {p : ℕ} (P : Prime p) → ℕ → List (Point (Modulo p P).ring) → List PointImage → List (Kept (Modulo p P))
kept_of P m [] looks = []
kept_of P m (at ∷ points) [] = []
kept_of {p} P m (at ∷ points) (r ∷ looks) =
    elim (eqb r.size m) [
      | true ↦ record { point = at; image = series p r.coefficients } ∷ kept_of P m points looks
      | false ↦ kept_of P m points looks
    ]
