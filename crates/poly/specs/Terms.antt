-- Terms: a term is one number, its key times 65536 plus its coefficient. What a list of terms means modulo a prime: a polynomial.
use Rattle.std.specs.Prelude.{List, map, ℕ, ◌+◌, ◌*◌, ◌/◌, ◌%◌}
use Rattle.algebra.specs.Field.{Field}
use Rattle.algebra.specs.SeriesRing.{S4}
use Rattle.algebra.specs.Monomial.{Term, polynomial}
use Rattle.field.specs.Widths.{residue_limit}
use Rattle.field.specs.Prime.{Prime}
use Rattle.field.specs.Fp.{el}
use Rattle.field.specs.Modulo.{Modulo}
use Rattle.poly.specs.Keys.{key, exponents}

-- every coefficient is below
abbrev pub coefficient_limit : ℕ
coefficient_limit = residue_limit

-- the term of a key and a coefficient
abbrev pub keyed : ℕ → ℕ → ℕ
keyed k c = k * coefficient_limit + c

abbrev pub key_of : ℕ → ℕ
key_of t = t / coefficient_limit

abbrev pub coefficient_of : ℕ → ℕ
coefficient_of t = t % coefficient_limit

abbrev pub Polynomial : Field → Type 0
Polynomial K = List (Term K.ring)

module _ (p : ℕ) (P : Prime p) where
  -- the term that a number is
  abbrev pub term_of : ℕ → Term (Modulo p P).ring
  term_of t = record { exponents = exponents (key_of t); coefficient = el p (coefficient_of t) }

  abbrev pub terms_of : List ℕ → Polynomial (Modulo p P)
  terms_of ts = map term_of ts

  -- the number that a term is
  abbrev pub number_of : Term (Modulo p P).ring → ℕ
  number_of t = keyed (key t.exponents) t.coefficient.val

  abbrev pub numbers_of : Polynomial (Modulo p P) → List ℕ
  numbers_of f = map number_of f

  -- the polynomial of a list, as the function of its coefficients
  abbrev pub poly : List ℕ → (S4 (Modulo p P).ring).Car
  poly ts = polynomial (Modulo p P).ring (terms_of ts)
