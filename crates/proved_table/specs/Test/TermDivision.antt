-- Division of short lists of terms by the rule, over any field, computed: it says how many steps there are and whether the divisor divides, or leaves it
-- open.
use Rattle.std.specs.Prelude.{Bool, true, false, [], ◌∷◌, ℕ, zero, suc, ◌-◌}
use Rattle.std.proofs.Math.Logic.Dec
use Rattle.std.proofs.Math.Decide.{dec_le}
use Rattle.algebra.specs.Field.{Field}
use Rattle.algebra.specs.Four.{Exponents, ◌⊞◌, ◌≼◌}
use Rattle.algebra.specs.Monomial.{Term}
use Rattle.algebra.specs.Laws.Four.{lower, equal, higher, compare}
use Rattle.poly.specs.Terms.{Polynomial}

-- ended after so many steps, with the answer whether the divisor divides
pub data Outcome : Type 0 where
  ended : ℕ → Bool → Outcome
  open_still : Outcome

unfoldable pub one_more : Outcome → Outcome
one_more (ended n whole) = ended (suc n) whole
one_more open_still = open_still

-- each exponent at most the other's
unfoldable pub each_at_most : (e f : Exponents) → Dec (e ≼ f)
each_at_most e f =
    elim (Dec.and (dec_le e.x f.x) (Dec.and (dec_le e.y f.y)
    (Dec.and (dec_le e.z f.z) (dec_le e.w f.w)))) [
      | yes h ↦ yes (record { x = h.0; y = h.1.0; z = h.1.1.0; w = h.1.1.1 })
      | no n ↦ no (λ l. n (l.x, (l.y, (l.z, l.w))))
    ]

-- e less f in each exponent
abbrev pub over : Exponents → Exponents → Exponents
over e f = record { x = e.x - f.x; y = e.y - f.y; z = e.z - f.z; w = e.w - f.w }

module _ (K : Field) where
  open K use {ring as R}
  open R use {add as ◌+◌, mul as ◌*◌, neg}

  infixl 60 ◌+◌
  infixl 70 ◌*◌
  -- two terms of one monomial as one
  abbrev pub together : Term R → Term R → Term R
  together t u = record { exponents = u.exponents; coefficient = t.coefficient + u.coefficient }

  -- a term and a list added; two terms of one monomial become one, or none
  unfoldable pub plus : Term R → Polynomial K → Polynomial K
  plus t [] = t ∷ []
  plus t (u ∷ us) =
      elim (compare t.exponents u.exponents) [
        | lower l ↦ u ∷ plus t us
        | equal e ↦ elim (K.decide (t.coefficient + u.coefficient)) [
          | yes z ↦ us
          | no n ↦ together t u ∷ us
        ]
        | higher l ↦ t ∷ u ∷ us
      ]

  -- t over u, where u's exponents are at most t's
  abbrev pub term_over : Term R → Term R → Term R
  term_over t u = record { exponents = over t.exponents u.exponents; coefficient = t.coefficient * K.inv u.coefficient }

  -- - t u
  abbrev pub less_product : Term R → Term R → Term R
  less_product t u = record { exponents = t.exponents ⊞ u.exponents; coefficient = neg (t.coefficient * u.coefficient) }

  -- f - t g
  unfoldable pub less : Polynomial K → Term R → Polynomial K → Polynomial K
  less f t [] = f
  less f t (u ∷ us) = less (plus (less_product t u) f) t us

  -- f - q g
  unfoldable pub less_all : Polynomial K → Polynomial K → Polynomial K → Polynomial K
  less_all f [] g = f
  less_all f (t ∷ ts) g = less_all (less f t g) ts g

  -- before all terms of a list
  unfoldable pub before_all : Exponents → Polynomial K → Bool
  before_all e [] = true
  before_all e (u ∷ us) = elim (compare e u.exponents) [ lower l ↦ false | equal q ↦ false | higher l ↦ before_all e us ]

  -- a term that is not 0 and before all that follow
  unfoldable pub leads : Term R → Polynomial K → Bool
  leads t f = elim (K.decide t.coefficient) [ yes e ↦ false | no n ↦ before_all t.exponents f ]

  -- m over the monomial l: no exponent of the quotient negative, and with most_g none above most_f
  unfoldable pub can_divide : (l most_f most_g m : Exponents) → Dec ((l ≼ m) × (over m l ⊞ most_g ≼ most_f))
  can_divide l most_f most_g m = Dec.and (each_at_most l m) (each_at_most (over m l ⊞ most_g) most_f)

  -- the remainder t ∷ f by g, which begins with the term l; most_f and most_g are the greatest exponents; the number of steps is bounded
  unfoldable pub divided : Exponents → Exponents → Term R → Polynomial K → ℕ → Polynomial K → Outcome
  divided most_f most_g l g zero [] = ended 0 true
  divided most_f most_g l g zero (t ∷ f) = open_still
  divided most_f most_g l g (suc k) [] = ended 0 true
  divided most_f most_g l g (suc k) (t ∷ f) =
      elim (leads t f) [
        | true ↦ elim (can_divide l.exponents most_f most_g t.exponents) [
          | yes h ↦ one_more (divided most_f most_g l g k (less (t ∷ f) (term_over t l) g))
          | no n ↦ ended 0 false
        ]
        | false ↦ open_still
      ]

  -- f by g, in at most n steps
  unfoldable pub division : Exponents → Exponents → ℕ → Polynomial K → Polynomial K → Outcome
  division most_f most_g n f [] = open_still
  division most_f most_g n f (l ∷ g) = divided most_f most_g l (l ∷ g) n f
