-- Division on cells, as the code does it: the cell at a key holds that monomial's coefficient, and the highest cell that is not 0 is the leading term.
use Rattle.std.specs.Prelude.{Bool, true, false, ◌&&◌, List, [], ◌∷◌, ℕ, zero, suc, ◌+◌, ◌-◌, ◌*◌, ◌%◌, ◌<◌, max, eqb, leb, length, get_or, set}
use Rattle.algebra.specs.Four.{Exponents}
use Rattle.algebra.specs.GreatestExponent.{Variable, in_x, in_y, in_z, in_w, exponent}
use Rattle.field.specs.Fp.{el, inv}
use Rattle.field.specs.Loops.Fold.{fold}
use Rattle.poly.specs.Keys.{key, exponents, keys}
use Rattle.poly.specs.Terms.{key_of, coefficient_of, keyed}
use Rattle.poly.specs.Division.SpreadModel.{spread}

-- each key of a list, moved up by s, is below n
abbrev pub KeysBelow : ℕ → ℕ → List ℕ → Type 0
KeysBelow s n ts = (i : ℕ) → i < length ts → key_of (get_or ts i 0) + s < n

-- a list's greatest exponent in a variable, in each, and the key of all four
abbrev pub most : Variable → List ℕ → ℕ
most v [] = 0
most v (t ∷ ts) = max (exponent v (exponents (key_of t))) (most v ts)

abbrev pub most_of : List ℕ → Exponents
most_of ts = record { x = most in_x ts; y = most in_y ts; z = most in_z ts; w = most in_w ts }

abbrev pub most_key : List ℕ → ℕ
most_key ts = key (most_of ts)

-- each exponent of the key a is at most that of the key b
unfoldable pub at_most : ℕ → ℕ → Bool
at_most a b =
    leb (exponents a).x (exponents b).x && leb (exponents a).y (exponents b).y
    && leb (exponents a).z (exponents b).z
    && leb (exponents a).w (exponents b).w

-- what a division keeps: the modulus, the divisor's terms, its leading key and the inverse of its leading coefficient,
-- and the bound of the quotient's exponents, as a key
pub record Setting : Type 0 where
  pub modulus : ℕ
  pub terms : List ℕ
  pub lead : ℕ
  pub inverse : ℕ
  pub bound : ℕ

-- one cell less the quotient's coefficient q times the coefficient of the term t, at the term's key moved up by s
abbrev pub less_term : ℕ → ℕ → ℕ → ℕ → List ℕ → List ℕ
less_term p s q t l = set l (key_of t + s) ((get_or l (key_of t + s) 0 + (p - q) * coefficient_of t) % p)

-- the remainder less the quotient's term times the divisor
abbrev pub less_product : ℕ → ℕ → ℕ → List ℕ → List ℕ → List ℕ
less_product p s q ts l = fold (less_term p s q) ts l

-- the monomial at k can be divided by the one at lead: no exponent of the quotient is negative, none above the bound's
unfoldable pub fits_in : ℕ → ℕ → ℕ → Bool
fits_in lead bound k = at_most lead k && at_most (k - lead) bound

module _ (d : Setting) where
  abbrev pub fits : ℕ → Bool
  fits k = fits_in d.lead d.bound k

  -- the quotient's coefficient at the cell k, and what it leaves of the remainder
  abbrev pub factor : ℕ → List ℕ → ℕ
  factor k l = (get_or l k 0 * d.inverse) % d.modulus

  abbrev pub less : ℕ → List ℕ → List ℕ
  less k l = less_product d.modulus (k - d.lead) (factor k l) d.terms l

-- what a division ends with: whether each leading term could be divided, and the quotient's cells
pub record Outcome : Type 0 where
  pub whole : Bool
  pub quotient : List ℕ

-- the division goes on with the cells of l below k; c are the quotient's cells
unfoldable pub divide_from : Setting → ℕ → List ℕ → List ℕ → Outcome
divide_from d zero l c = record { whole = true; quotient = c }
divide_from d (suc k) l c =
    elim (eqb (get_or l k 0) 0) [
      | true ↦ divide_from d k l c
      | false ↦ elim (fits d k) [
        | true ↦ divide_from d k (less d k l) (set c (k - d.lead) (factor d k l))
        | false ↦ record { whole = false; quotient = c }
      ]
    ]

-- the quotient's terms that it finds, the first found first
unfoldable pub found_from : Setting → ℕ → List ℕ → List ℕ
found_from d zero l = []
found_from d (suc k) l =
    elim (eqb (get_or l k 0) 0) [
      | true ↦ found_from d k l
      | false ↦ elim (fits d k) [
        | true ↦ keyed (k - d.lead) (factor d k l) ∷ found_from d k (less d k l)
        | false ↦ []
      ]
    ]

-- the setting of f over g
abbrev pub setting : ℕ → List ℕ → List ℕ → Setting
setting p f g =
    record {
      modulus = p;
      terms = g;
      lead = key_of (get_or g 0 0);
      inverse = (inv (el p (coefficient_of (get_or g 0 0)))).val;
      bound = most_key f - most_key g;
    }

-- f over g, with f spread over the cells l and the quotient's cells c; at once no where some greatest exponent of g is above that of f
unfoldable pub divided : ℕ → List ℕ → List ℕ → List ℕ → List ℕ → Outcome
divided p f g l c =
    elim (at_most (most_key g) (most_key f)) [
      | true ↦ divide_from (setting p f g) keys (spread f l) c
      | false ↦ record { whole = false; quotient = c }
    ]

-- the quotient's terms that it finds
unfoldable pub found : ℕ → List ℕ → List ℕ → List ℕ → List ℕ
found p f g l =
    elim (at_most (most_key g) (most_key f)) [
      | true ↦ found_from (setting p f g) keys (spread f l)
      | false ↦ []
    ]
