-- How the models of a division go on by one term of a list or by one cell, as the loops do.
use Rattle.std.specs.Prelude.{◌≡◌, List, [], ◌∷◌, ℕ, ◌+◌, ◌-◌, ◌*◌, ◌%◌, ◌≤◌, max, get_or, set}
use Rattle.std.proofs.Common.{◌∙◌, ap, arith}
use Rattle.std.proofs.Math.Nat.{max-zero, zero-max}
use Rattle.algebra.specs.Four.{Exponents}
use Rattle.field.specs.Loops.Fold.{fold}
use Rattle.poly.specs.Keys.{exponents}
use Rattle.poly.specs.Terms.{key_of, coefficient_of}
use Rattle.poly.specs.Division.SpreadModel.{gathered}
use Rattle.poly.specs.Division.Model.{most_of, less_term}

-- the greatest exponents: each term raises those so far
abbrev joined : Exponents → Exponents → Exponents
joined a b = record { x = max a.x b.x; y = max a.y b.y; z = max a.z b.z; w = max a.w b.w }

abbrev pub raised : ℕ → Exponents → Exponents
raised t e = joined e (exponents (key_of t))

max_assoc : (a b c : ℕ) → max (max a b) c ≡ max a (max b c)
max_assoc a b c = omega arith

joined_assoc : (a b c : Exponents) → joined (joined a b) c ≡ joined a (joined b c)
joined_assoc a b c = simp max_assoc

raised_from : (ts : List ℕ) (e : Exponents) → fold raised ts e ≡ joined e (most_of ts)
unfolding fold
raised_from [] e = simp max-zero
raised_from (t ∷ ts) e = raised_from ts (raised t e) ∙ joined_assoc e (exponents (key_of t)) (most_of ts)

pub raised_most : (ts : List ℕ) → fold raised ts (exponents 0) ≡ most_of ts
raised_most ts = raised_from ts (exponents 0) ∙ simp zero-max

-- the subtraction of a product: the key k, the coefficient c, the cell's new value v
pub less_is : (p s q : ℕ) (l : List ℕ) (t : ℕ) {k c v : ℕ} → k ≡ key_of t → c ≡ coefficient_of t → v ≡ (get_or l (k + s) 0 + (p - q) * c) % p
    → set l (k + s) v ≡ less_term p s q t l
less_is p s q l t ek ec ev = rw (ev, ec, ek)

-- no cell is below 0
pub gather_none : (k : ℕ) (l : List ℕ) → k ≤ 0 → gathered k l ≡ []
unfolding gathered
gather_none k l h = let z : k ≡ 0 = omega arith in ap (λ (m : ℕ). gathered m l) z
