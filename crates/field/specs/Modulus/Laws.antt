-- Each listed modulus is prime, by one computed test over the table, and within the bounds that the code leans on.
use Rattle.std.specs.Prelude.{◌≡◌, refl, Bool, true, false, ◌&&◌, ◌||◌, List, [], ◌∷◌, ℕ, ◌<◌, T, eqb, ltb}
use Rattle.std.proofs.Common.{sym, ◌∙◌, subst, true≢false, arith, eqb→eq, ltb→lt}
use Rattle.std.proofs.Math.Bool.{Bool-discrete}
use mathlib.Core.HLevel.{hedberg}
use Rattle.field.specs.Widths.{residue_limit}
use Rattle.field.specs.Prime.{Prime}
use Rattle.field.specs.Modulus.Prime.{prime_test, test_prime}
use Rattle.field.specs.Moduli.{moduli, among, listed, Listed}

-- the test of each of a list
abbrev pub every : {X : Type 0} → (X → Bool) → List X → Bool
every f [] = true
every f (x ∷ xs) = f x && every f xs

-- what a test says of each entry, it says of a number among them
among_every : (f : ℕ → Bool) (ms : List ℕ) → T (every f ms) → (p : ℕ) → T (among p ms) → T (f p)
among_every f [] t p a = absurd a
among_every f (m ∷ ms) t p a =
    go (eqb p m) refl (f m) refl t a (λ u. among_every f ms u p)
  where
    go : (b : Bool) → eqb p m ≡ b → (c : Bool) → f m ≡ c → T (c && every f ms) → T (b || among p ms)
        → (T (every f ms) → T (among p ms) → T (f p)) → T (f p)
    go true e true g u v r =
        subst (λ (n : ℕ). T (f n)) (sym (eqb→eq p m (subst T (sym e) tt))) (subst T (sym g) tt)
    go true e false g u v r = absurd u
    go false e true g u v r = r u v
    go false e false g u v r = absurd u

listed_every : (f : ℕ → Bool) → T (every f moduli) → (p : ℕ) → Listed p → T (f p)
unfolding listed
listed_every f t p h = among_every f moduli t p (subst T (sym h) tt)

-- the evidence that a modulus is listed does not matter
pub listed_unique : (p : ℕ) (h k : Listed p) → h ≡ k
listed_unique p h k = hedberg Bool-discrete _ _ h k

pub listed_prime : {p : ℕ} → Listed p → Prime p
listed_prime {p} h = test_prime p (listed_every prime_test tt p h)

pub listed_above : {p : ℕ} → Listed p → 1 < p
listed_above {p} h = ltb→lt 1 p (listed_every (λ n. ltb 1 n) tt p h)

pub listed_positive : {p : ℕ} → Listed p → 0 < p
listed_positive h = omega (arith, listed_above h)

pub listed_below : {p : ℕ} → Listed p → p < residue_limit
listed_below {p} h = ltb→lt p residue_limit (listed_every (λ n. ltb n residue_limit) tt p h)

-- whether a modulus is listed is decided
unfoldable pub listed_decided : (p : ℕ) → Dec (Listed p)
listed_decided p = Bool-discrete (listed p) true

pub listed_stable : (p : ℕ) → ¬ (¬ Listed p) → Listed p
listed_stable p n = elim (listed_decided p) [ yes h ↦ h | no m ↦ absurd (n m) ]

pub unlisted : (p : ℕ) → listed p ≡ false → ¬ Listed p
unlisted p e h = true≢false (sym h ∙ e)
