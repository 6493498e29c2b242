-- What the tests of a list give: where no place is the first wrong one none is wrong, keys of which none is wrong fall,
-- and then no power of x is above the first term's.
use Rattle.std.specs.Prelude.{refl, List, [], ◌∷◌, map, ℕ, zero, suc, ◌≤◌, ◌<◌}
use Rattle.std.proofs.Common.{ap, arith}
use Rattle.std.proofs.Math.Decide.{ℕ_discrete, dec_le}
use Rattle.field.specs.Prime.{Prime}
use Rattle.field.specs.Modulo.{Modulo}
use Rattle.field.specs.Refusal.{first}
use Rattle.poly.specs.Keys.{exponents, keys}
use Rattle.poly.specs.Terms.{key_of, coefficient_of, terms_of}
use Rattle.poly.specs.PointValue.{x_degree}
use Rattle.poly.specs.Lists.{Falling, WrongKey, above, not_below, wrong_key, coefficient_zero, WrongModulo, wrong_term, coefficient_large}
use Rattle.poly.specs.Value.Laws.{WithinX, Bounded}

-- no first wrong place: no wrong place
pub none_wrong : (Wrong : ℕ → Type 0) → ((place : ℕ) → ¬ first Wrong place) → (place : ℕ) → ¬ Wrong place
none_wrong Wrong none place w = up_to (suc place) place (omega arith) w
  where
    up_to : (n i : ℕ) → i < n → ¬ Wrong i
    up_to zero i l w = absurd (omega arith)
    up_to (suc n) i l w = elim (ℕ_discrete i n) [
      | yes e ↦ none i (w, λ j m. up_to n j (omega arith))
      | no q ↦ up_to n i (omega arith) w
    ]

-- the keys fall, from below b
abbrev pub FallFrom : ℕ → List ℕ → Type 0
FallFrom b [] = Unit {0}
FallFrom b (k ∷ ks) = (k < b) × FallFrom k ks

wrong_later : (k : ℕ) (ks : List ℕ) (i : ℕ) → WrongKey ks i → WrongKey (k ∷ ks) (suc i)
wrong_later k ks i (above l m) = above (omega arith) m
wrong_later k ks i (not_below j e l m) = not_below (suc j) (ap suc e) (omega arith) m

-- the first key of a list, if it has one, is below b
abbrev Begins : ℕ → List ℕ → Type 0
Begins b [] = Unit {0}
Begins b (k ∷ ks) = k < b

begins_next : (k : ℕ) (ks : List ℕ) → ((i : ℕ) → ¬ WrongKey (k ∷ ks) i) → Begins k ks
begins_next k [] none = tt
begins_next k (j ∷ js) none = elim (dec_le k j) [ yes m ↦ absurd (none 1 (not_below 0 refl (omega arith) m)) | no q ↦ omega arith ]

fall_from : (b : ℕ) (ks : List ℕ) → Begins b ks → ((i : ℕ) → ¬ WrongKey ks i) → FallFrom b ks
fall_from b [] l none = tt
fall_from b (k ∷ ks) l none = (l, fall_from k ks (begins_next k ks none) (λ i w. none (suc i) (wrong_later k ks i w)))

-- keys of which none is wrong fall
pub keys_fall : (ks : List ℕ) → ((i : ℕ) → ¬ WrongKey ks i) → FallFrom keys ks
keys_fall [] none = tt
keys_fall (k ∷ ks) none =
    fall_from keys (k ∷ ks) (elim (dec_le keys k) [ yes l ↦ absurd (none 0 (above (omega arith) l)) | no q ↦ omega arith ]) none

falling_of : (p b : ℕ) (ts : List ℕ) → FallFrom b (map key_of ts) → ((i : ℕ) → ¬ WrongModulo p ts i) → Falling p b ts
falling_of p b [] h none = tt
falling_of p b (t ∷ ts) h none = (
  h.0,
  elim (ℕ_discrete (coefficient_of t) 0) [ yes e ↦ absurd (none 0 (wrong_term (coefficient_zero (omega arith) e))) | no q ↦ omega arith ],
  elim (dec_le p (coefficient_of t)) [ yes l ↦ absurd (none 0 (coefficient_large (omega arith) l)) | no q ↦ omega arith ],
  falling_of p (key_of t) ts h.1 (λ i w. none (suc i) (later i w)),
)
  where
    later : (i : ℕ) → WrongModulo p ts i → WrongModulo p (t ∷ ts) (suc i)
    later i (wrong_term (wrong_key w)) = wrong_term (wrong_key (wrong_later (key_of t) (map key_of ts) i w))
    later i (wrong_term (coefficient_zero l e)) = wrong_term (coefficient_zero (omega arith) e)
    later i (coefficient_large l m) = coefficient_large (omega arith) m

-- a list of which no term is wrong falls, with coefficients in range
pub terms_fall : (p : ℕ) (ts : List ℕ) → ((place : ℕ) → ¬ first (WrongModulo p ts) place) → Falling p keys ts
terms_fall p ts none =
    let wrong = none_wrong (WrongModulo p ts) none in
    falling_of p keys ts (keys_fall (map key_of ts) (λ i w. wrong i (wrong_term (wrong_key w)))) wrong

-- and no power of x in it is above the first term's, nor above 7
module _ (p : ℕ) (P : Prime p) where
  within_below : (b k : ℕ) (ts : List ℕ) → b ≤ suc k → Falling p b ts → WithinX (Modulo p P) (exponents k).x (terms_of p P ts)
  within_below b k [] l h = tt
  within_below b k (t ∷ ts) l h = let m : key_of t < b = h.0 in (omega arith, within_below (key_of t) k ts (omega arith) h.3)

  falling_within : (b : ℕ) (ts : List ℕ) → Falling p b ts → WithinX (Modulo p P) (x_degree (Modulo p P).ring (terms_of p P ts)) (terms_of p P ts)
  falling_within b [] h = tt
  falling_within b (t ∷ ts) h = (omega arith, within_below (key_of t) (key_of t) ts (omega arith) h.3)

  pub falling_bounded : (ts : List ℕ) → Falling p keys ts → Bounded (Modulo p P) (terms_of p P ts)
  falling_bounded ts h = record { by_first = falling_within keys ts h; by_seven = within_below keys 4095 ts (omega arith) h }
