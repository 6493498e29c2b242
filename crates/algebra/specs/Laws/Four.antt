-- The exponents of monomials: equality and order are decided, of two different ones one alone is below the other, and a common factor cancels.
use Rattle.std.specs.Prelude.{◌≡◌, ℕ, ◌+◌, ◌<◌}
use Rattle.std.proofs.Common.{sym, ap, arith}
use Rattle.std.proofs.Math.Decide.{ℕ_discrete, dec_lt}
use Rattle.algebra.specs.Four.{Exponents, ◌⊞◌, ◌≺◌, by_x, by_y, by_z, by_w}

pub exponents_path : {e f : Exponents} → e.x ≡ f.x → e.y ≡ f.y → e.z ≡ f.z → e.w ≡ f.w → e ≡ f
exponents_path p q r s = λ i. record { x = p i; y = q i; z = r i; w = s i }

pub same_exponents : (e f : Exponents) → Dec (e ≡ f)
same_exponents e f = go (ℕ_discrete e.x f.x) (ℕ_discrete e.y f.y) (ℕ_discrete e.z f.z) (ℕ_discrete e.w f.w)
  where
    go : Dec (e.x ≡ f.x) → Dec (e.y ≡ f.y) → Dec (e.z ≡ f.z) → Dec (e.w ≡ f.w) → Dec (e ≡ f)
    go (no q) b c d = no (λ p. q (ap (λ (u : Exponents). u.x) p))
    go (yes a) (no q) c d = no (λ p. q (ap (λ (u : Exponents). u.y) p))
    go (yes a) (yes b) (no q) d = no (λ p. q (ap (λ (u : Exponents). u.z) p))
    go (yes a) (yes b) (yes c) (no q) = no (λ p. q (ap (λ (u : Exponents). u.w) p))
    go (yes a) (yes b) (yes c) (yes d) = yes (exponents_path a b c d)

-- e is below f, is f, or is above it
pub data Order (e f : Exponents) : Type 0 where
  lower : e ≺ f → Order e f
  equal : e ≡ f → Order e f
  higher : f ≺ e → Order e f

-- by an exponent of each, and where they are equal by what comes behind
unfoldable pub compare_by : {e f : Exponents} (a b : ℕ) → (a < b → e ≺ f) → (b < a → f ≺ e) → (a ≡ b → Order e f) → Order e f
compare_by a b less more behind =
    elim (dec_lt a b) [ yes l ↦ lower (less l) | no n ↦ elim (dec_lt b a) [ yes l ↦ higher (more l) | no m ↦ behind (omega arith) ] ]

unfoldable pub compare : (e f : Exponents) → Order e f
unfolding compare_by
compare e f =
    compare_by e.x f.x by_x by_x λ p.
    compare_by e.y f.y (by_y p) (by_y (sym p)) λ q.
    compare_by e.z f.z (by_z p q) (by_z (sym p) (sym q)) λ r.
    compare_by e.w f.w (by_w p q r) (by_w (sym p) (sym q) (sym r)) λ s. equal (exponents_path p q r s)

-- of two different monomials one alone is below the other
pub not_both_below : (e f : Exponents) → e ≺ f → f ≺ e → ⊥
not_both_below e f (by_x l) (by_x m) = omega arith
not_both_below e f (by_x l) (by_y p m) = omega arith
not_both_below e f (by_x l) (by_z p q m) = omega arith
not_both_below e f (by_x l) (by_w p q r m) = omega arith
not_both_below e f (by_y p l) (by_x m) = omega arith
not_both_below e f (by_y p l) (by_y q m) = omega arith
not_both_below e f (by_y p l) (by_z q r m) = omega arith
not_both_below e f (by_y p l) (by_w q r s m) = omega arith
not_both_below e f (by_z p q l) (by_x m) = omega arith
not_both_below e f (by_z p q l) (by_y r m) = omega arith
not_both_below e f (by_z p q l) (by_z r s m) = omega arith
not_both_below e f (by_z p q l) (by_w r s u m) = omega arith
not_both_below e f (by_w p q r l) (by_x m) = omega arith
not_both_below e f (by_w p q r l) (by_y s m) = omega arith
not_both_below e f (by_w p q r l) (by_z s u m) = omega arith
not_both_below e f (by_w p q r l) (by_w s u v m) = omega arith

-- the order goes on
pub below_trans : (e f g : Exponents) → e ≺ f → f ≺ g → e ≺ g
below_trans e f g (by_x l) (by_x m) = by_x (omega arith)
below_trans e f g (by_x l) (by_y s m) = by_x (omega arith)
below_trans e f g (by_x l) (by_z s u m) = by_x (omega arith)
below_trans e f g (by_x l) (by_w s u v m) = by_x (omega arith)
below_trans e f g (by_y p l) (by_x m) = by_x (omega arith)
below_trans e f g (by_y p l) (by_y s m) = by_y (omega arith) (omega arith)
below_trans e f g (by_y p l) (by_z s u m) = by_y (omega arith) (omega arith)
below_trans e f g (by_y p l) (by_w s u v m) = by_y (omega arith) (omega arith)
below_trans e f g (by_z p q l) (by_x m) = by_x (omega arith)
below_trans e f g (by_z p q l) (by_y s m) = by_y (omega arith) (omega arith)
below_trans e f g (by_z p q l) (by_z s u m) = by_z (omega arith) (omega arith) (omega arith)
below_trans e f g (by_z p q l) (by_w s u v m) = by_z (omega arith) (omega arith) (omega arith)
below_trans e f g (by_w p q r l) (by_x m) = by_x (omega arith)
below_trans e f g (by_w p q r l) (by_y s m) = by_y (omega arith) (omega arith)
below_trans e f g (by_w p q r l) (by_z s u m) = by_z (omega arith) (omega arith) (omega arith)
below_trans e f g (by_w p q r l) (by_w s u v m) = by_w (omega arith) (omega arith) (omega arith) (omega arith)

pub below_irreflexive : (e : Exponents) → ¬ (e ≺ e)
below_irreflexive e l = not_both_below e e l l

-- a common factor changes no order
pub below_cancel : (e f g : Exponents) → e ⊞ g ≺ f ⊞ g → e ≺ f
below_cancel e f g (by_x l) = by_x (omega arith)
below_cancel e f g (by_y p l) = by_y (omega arith) (omega arith)
below_cancel e f g (by_z p q l) = by_z (omega arith) (omega arith) (omega arith)
below_cancel e f g (by_w p q r l) = by_w (omega arith) (omega arith) (omega arith) (omega arith)

pub exponents_cancel : (e f g : Exponents) → e ⊞ g ≡ f ⊞ g → e ≡ f
exponents_cancel e f g p =
    let px : e.x + g.x ≡ f.x + g.x = ap (λ (u : Exponents). u.x) p in
    let py : e.y + g.y ≡ f.y + g.y = ap (λ (u : Exponents). u.y) p in
    let pz : e.z + g.z ≡ f.z + g.z = ap (λ (u : Exponents). u.z) p in
    let pw : e.w + g.w ≡ f.w + g.w = ap (λ (u : Exponents). u.w) p in
    exponents_path (omega arith) (omega arith) (omega arith) (omega arith)
