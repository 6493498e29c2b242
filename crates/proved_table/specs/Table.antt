-- P1 to P12, as docs/RULE.md has them: modulo 17 unless said, z = w = 0.
use Rattle.std.specs.Prelude.{List, [], ◌∷◌, ℕ}
use Rattle.field.specs.Refusal.{none}
use Rattle.poly.specs.Keys.{key}
use Rattle.poly.specs.Terms.{keyed}
use Rattle.poly.specs.ImageCall.{image_call}
use Rattle.divisor.specs.declared.CandidateRecord.{CandidateRecord}
use Rattle.divisor.specs.Rule.{report}
use Rattle.divisor.specs.Candidate.{most_steps}
use Rattle.proved_table.specs.Row.{Row, ImageRow, Product}

-- the key of x^a y^b, and the term c x^a y^b
abbrev pub key_xy : ℕ → ℕ → ℕ
key_xy a b = key (record { x = a; y = b; z = 0; w = 0 })

abbrev pub term_xy : ℕ → ℕ → ℕ → ℕ
term_xy c a b = keyed (key_xy a b) c

-- the points (y, 0, 0)
abbrev pub at : List ℕ → List ℕ
at [] = []
at (y ∷ ys) = y ∷ 0 ∷ 0 ∷ at ys

-- E = (y + 16) x³ + 15 y, F = (x - y + 1) E, H = (x + y + 1) E
abbrev pub E : List ℕ
E = term_xy 1 3 1 ∷ term_xy 16 3 0 ∷ term_xy 15 0 1 ∷ []

abbrev pub F : List ℕ
F = term_xy 1 4 1 ∷ term_xy 16 4 0 ∷ term_xy 16 3 2 ∷ term_xy 2 3 1 ∷ term_xy 16 3 0 ∷ term_xy 15 1 1 ∷ term_xy 2 0 2 ∷ term_xy 15 0 1 ∷ []

abbrev pub H : List ℕ
H = term_xy 1 4 1 ∷ term_xy 16 4 0 ∷ term_xy 1 3 2 ∷ term_xy 16 3 0 ∷ term_xy 15 1 1 ∷ term_xy 15 0 2 ∷ term_xy 15 0 1 ∷ []

-- K = (y + 2) x³ + 12 y² + 7 y
abbrev pub K : List ℕ
K = term_xy 1 3 1 ∷ term_xy 2 3 0 ∷ term_xy 12 0 2 ∷ term_xy 7 0 1 ∷ []

-- the two polynomials of P2: (3 y x + 1) (x - y) and (3 y x + 1) (x + y + 1)
abbrev pub A₂ : List ℕ
A₂ = term_xy 3 2 1 ∷ term_xy 14 1 2 ∷ term_xy 1 1 0 ∷ term_xy 16 0 1 ∷ []

abbrev pub B₂ : List ℕ
B₂ = term_xy 3 2 1 ∷ term_xy 3 1 2 ∷ term_xy 3 1 1 ∷ term_xy 1 1 0 ∷ term_xy 1 0 1 ∷ term_xy 1 0 0 ∷ []

-- of P4: 7 x + 6 y and 12 x + y
abbrev pub A₄ : List ℕ
A₄ = term_xy 7 1 0 ∷ term_xy 6 0 1 ∷ []

abbrev pub B₄ : List ℕ
B₄ = term_xy 12 1 0 ∷ term_xy 1 0 1 ∷ []

-- of P11: x + y; of P12: 3 y
abbrev pub A₁₁ : List ℕ
A₁₁ = term_xy 1 1 0 ∷ term_xy 1 0 1 ∷ []

abbrev pub A₁₂ : List ℕ
A₁₂ = term_xy 3 0 1 ∷ []

-- what P7 accepts, x³ + 12 y
abbrev pub p7_terms : List ℕ
p7_terms = term_xy 1 3 0 ∷ term_xy 12 0 1 ∷ []

-- the lists that are given as products; and K, which is what P7 accepts times y + 2, and has the same degree in x
abbrev pub products : List Product
products =
    record { whole = F; first = term_xy 1 1 0 ∷ term_xy 16 0 1 ∷ term_xy 1 0 0 ∷ []; second = E }
    ∷ record { whole = H; first = term_xy 1 1 0 ∷ term_xy 1 0 1 ∷ term_xy 1 0 0 ∷ []; second = E }
    ∷ record { whole = A₂; first = term_xy 3 1 1 ∷ term_xy 1 0 0 ∷ []; second = term_xy 1 1 0 ∷ term_xy 16 0 1 ∷ [] }
    ∷ record { whole = B₂; first = term_xy 3 1 1 ∷ term_xy 1 0 0 ∷ []; second = term_xy 1 1 0 ∷ term_xy 1 0 1 ∷ term_xy 1 0 0 ∷ [] }
    ∷ record { whole = K; first = term_xy 1 0 1 ∷ term_xy 2 0 0 ∷ []; second = p7_terms }
    ∷ []

-- the images that it names: x of P4; x³ + 12, x³ + 7 and x³ + 2 of P6
abbrev pub image : List ℕ → List ℕ → ℕ → ℕ → List ℕ → ImageRow
image A B y degree coefficients =
    record { call = image_call 17 A B (at (y ∷ [])); found = record { fault = none; coefficients = coefficients; degree = degree } }

abbrev pub images : List ImageRow
images =
    image A₄ B₄ 0 1 (0 ∷ 1 ∷ 0 ∷ 0 ∷ 0 ∷ 0 ∷ 0 ∷ 0 ∷ [])
    ∷ image K K 1 3 (12 ∷ 0 ∷ 0 ∷ 1 ∷ 0 ∷ 0 ∷ 0 ∷ 0 ∷ [])
    ∷ image K K 2 3 (7 ∷ 0 ∷ 0 ∷ 1 ∷ 0 ∷ 0 ∷ 0 ∷ 0 ∷ [])
    ∷ image K K 3 3 (2 ∷ 0 ∷ 0 ∷ 1 ∷ 0 ∷ 0 ∷ 0 ∷ 0 ∷ [])
    ∷ []

-- modulus, two lists, skeleton, points, ceiling; the record; the terms
abbrev pub row_under : ℕ → ℕ → List ℕ → List ℕ → List ℕ → List ℕ → CandidateRecord → List ℕ → Row
row_under ceiling p A B skeleton points found terms = record {
  modulus = p;
  first_list = A;
  second_list = B;
  skeleton = skeleton;
  points = points;
  ceiling = ceiling;
  found = found;
  terms = terms;
}

-- with the programs' ceiling, which is never reached
abbrev pub row : ℕ → List ℕ → List ℕ → List ℕ → List ℕ → CandidateRecord → List ℕ → Row
row = row_under most_steps

-- x² - 1 and x² + 2 x + 1, y = 0, skeleton x, 1: x + 1
abbrev pub p1 : Row
p1 =
    row 17 (term_xy 1 2 0 ∷ term_xy 16 0 0 ∷ []) (term_xy 1 2 0 ∷ term_xy 2 1 0 ∷ term_xy 1 0 0 ∷ []) (key_xy 1 0 ∷ key_xy 0 0 ∷ []) (at (0 ∷ []))
    (report 0 (record { d = 1; bad = 0; unlucky = 0; kept = 1 }) 2 4) (term_xy 1 1 0 ∷ term_xy 1 0 0 ∷ [])

-- y = 0, skeleton 1: 12, bad 1
abbrev pub p2 : Row
p2 = row 17 A₂ B₂ (key_xy 0 0 ∷ []) (at (0 ∷ [])) (report 12 (record { d = 0; bad = 1; unlucky = 0; kept = 0 }) 0 0) []

-- y = 1, skeleton x y, 1: x y + 6, d = 1
abbrev pub p3 : Row
p3 = row 17 A₂ B₂ (key_xy 1 1 ∷ key_xy 0 0 ∷ []) (at (1 ∷ [])) (report 0 (record { d = 1; bad = 0; unlucky = 0; kept = 1 }) 2 5) (37748737 ∷ 6 ∷ [])

-- y = 0, skeleton x: 15
abbrev pub p4 : Row
p4 = row 17 A₄ B₄ (key_xy 1 0 ∷ []) (at (0 ∷ [])) (report 15 (record { d = 1; bad = 0; unlucky = 0; kept = 1 }) 0 1) []

-- y = 0 and y = 1, skeleton 1: 1, d = 0, unlucky 1, kept 1
abbrev pub p5 : Row
p5 = row 17 A₄ B₄ (key_xy 0 0 ∷ []) (at (0 ∷ 1 ∷ [])) (report 0 (record { d = 0; bad = 0; unlucky = 1; kept = 1 }) 1 4) (term_xy 1 0 0 ∷ [])

-- y = 1, 2, 3, skeleton x³ y, x³, y², y: 14
abbrev pub p6 : Row
p6 =
    row 17 K K (key_xy 3 1 ∷ key_xy 3 0 ∷ key_xy 0 2 ∷ key_xy 0 1 ∷ []) (at (1 ∷ 2 ∷ 3 ∷ []))
    (report 14 (record { d = 3; bad = 0; unlucky = 0; kept = 3 }) 0 0) []

-- the same points, skeleton x³, y: x³ + 12 y
abbrev pub p7 : Row
p7 = row 17 K K (key_xy 3 0 ∷ key_xy 0 1 ∷ []) (at (1 ∷ 2 ∷ 3 ∷ [])) (report 0 (record { d = 3; bad = 0; unlucky = 0; kept = 3 }) 2 4) p7_terms

-- y = 1, 2, skeleton x³, 1: 13
abbrev pub p8 : Row
p8 = row 17 K K (key_xy 3 0 ∷ key_xy 0 0 ∷ []) (at (1 ∷ 2 ∷ [])) (report 13 (record { d = 3; bad = 0; unlucky = 0; kept = 2 }) 0 0) []

-- y = 5, skeleton x³ y, x³, y: 14
abbrev pub p9 : Row
p9 = row 17 F H (key_xy 3 1 ∷ key_xy 3 0 ∷ key_xy 0 1 ∷ []) (at (5 ∷ [])) (report 14 (record { d = 3; bad = 0; unlucky = 0; kept = 1 }) 0 0) []

-- y = 5 twice: 14, kept 2
abbrev pub p9_twice : Row
p9_twice = row 17 F H (key_xy 3 1 ∷ key_xy 3 0 ∷ key_xy 0 1 ∷ []) (at (5 ∷ 5 ∷ [])) (report 14 (record { d = 3; bad = 0; unlucky = 0; kept = 2 }) 0 0) []

-- y = 1, 0, 5, 2, the same skeleton: x³ y + 16 x³ + 15 y, d = 3, bad 1, unlucky 1, kept 2
abbrev pub p10 : Row
p10 =
    row 17 F H (key_xy 3 1 ∷ key_xy 3 0 ∷ key_xy 0 1 ∷ []) (at (1 ∷ 0 ∷ 5 ∷ 2 ∷ []))
    (report 0 (record { d = 3; bad = 1; unlucky = 1; kept = 2 }) 3 6) (term_xy 1 3 1 ∷ term_xy 16 3 0 ∷ term_xy 15 0 1 ∷ [])

-- modulo 7, y = 1, skeleton x, y⁷: 15
abbrev pub p11 : Row
p11 = row 7 A₁₁ A₁₁ (key_xy 1 0 ∷ key_xy 0 7 ∷ []) (at (1 ∷ [])) (report 15 (record { d = 1; bad = 0; unlucky = 0; kept = 1 }) 0 0) []

-- y = 2, skeleton y: y, d = 0
abbrev pub p12 : Row
p12 = row 17 A₁₂ A₁₂ (key_xy 0 1 ∷ []) (at (2 ∷ [])) (report 0 (record { d = 0; bad = 0; unlucky = 0; kept = 1 }) 1 2) (term_xy 1 0 1 ∷ [])

abbrev pub table : List Row
table = p1 ∷ p2 ∷ p3 ∷ p4 ∷ p5 ∷ p6 ∷ p7 ∷ p8 ∷ p9 ∷ p9_twice ∷ p10 ∷ p11 ∷ p12 ∷ []
