-- The rule does not see the order of A and B: bad points, images, what is kept, and what divides both are the same. The steps of division are the same
-- where both are divided.
use Rattle.std.specs.Prelude.{List, [], ◌∷◌, ℕ, ◌≤◌, ◌<◌}
use Rattle.std.proofs.Math.Decide.{dec_lt}
use Rattle.std.proofs.Common.{arith}
use Rattle.algebra.specs.Field.{Field}
use Rattle.algebra.specs.Four.{Exponents}
use Rattle.poly.specs.Terms.{Polynomial}
use Rattle.poly.specs.PointValue.{Point}
use Rattle.poly.specs.Image.Laws.{bad_swap, image_swap}
use Rattle.divisor.specs.declared.CandidateRecord.{CandidateRecord}
use Rattle.divisor.specs.Rule.{Kept, Sorted, done, bad, unlucky, keep, AllBad, Unknowns, OnlySolution, divisor, DividesBoth, Steps, Tried}
use Rattle.divisor.specs.Rule.{cut_off, rejected, accepted}
use Rattle.divisor.specs.Rule.{Verdict, unsolvable, several, divided, RuleAnswer, all_bad, some_good}
use Rattle.divisor.specs.Swapped.{NotAccepted, does_not_divide, ceiling_reached, ToldAlike, same, not_accepted}
use Rattle.divisor.specs.Answer.Determined.{steps_determined}
use Rattle.divisor.specs.Ceiling.Steps.{steps_swap}

-- numbers and steps that are the same, or both of a G that is not accepted
data Alike (ceiling n m : ℕ) : ℕ → ℕ → Type 0 where
  alike : Alike ceiling n m n m
  neither : {n' m' : ℕ} → NotAccepted ceiling n m → NotAccepted ceiling n' m' → Alike ceiling n m n' m'

module _ (K : Field) (A B : Polynomial K) where
  open K use {ring as R}

  pub sorted_swap : {d b u : ℕ} {points : List (Point R)} {kept : List (Kept K)} → Sorted K A B d points b u kept → Sorted K B A d points b u kept
  sorted_swap done = done
  sorted_swap (bad x s) = bad (bad_swap K A B _ x) (sorted_swap s)
  sorted_swap (unlucky e U i l s) = unlucky e U (image_swap K A B _ e U i) l (sorted_swap s)
  sorted_swap (keep U i s) = keep U (image_swap K A B _ _ U i) (sorted_swap s)

  all_bad_swap : (points : List (Point R)) → AllBad K A B points → AllBad K B A points
  all_bad_swap [] h = tt
  all_bad_swap (at ∷ points) h = (bad_swap K A B at h.0, all_bad_swap points h.1)

  -- what the divisions settle in the other order, where these take k steps
  record SwappedTrial (G H : Polynomial K) (ceiling n m : ℕ) : Type 0 where
    number : ℕ
    steps : ℕ
    tried : Tried K B A G ceiling number H steps
    told : Alike ceiling n m number steps

  module _ (G : Polynomial K) (ceiling k : ℕ) (takes : Steps K B A G k) where
    -- a G that is not accepted is not accepted in the other order
    neither_order : (n m : ℕ) → NotAccepted ceiling n m → ¬ ((k ≤ ceiling) × DividesBoth K B A G) → SwappedTrial G [] ceiling n m
    neither_order n m x y = go (dec_lt ceiling k)
      where
        go : Dec (ceiling < k) → SwappedTrial G [] ceiling n m
        go (yes l) = record { number = _; steps = _; tried = cut_off k takes l; told = neither x ceiling_reached }
        go (no l) = record {
          number = _;
          steps = _;
          tried = rejected k takes (omega arith) (λ both. y (omega arith, both));
          told = neither x (does_not_divide k (omega arith));
        }

    tried_swap : (H : Polynomial K) (n m : ℕ) → Tried K A B G ceiling n H m → SwappedTrial G H ceiling n m
    tried_swap H n m (cut_off a t l) =
        neither_order n m ceiling_reached (λ y.
        let e = steps_determined K B A G a k (steps_swap K A B G a (y.1.1, y.1.0) t) takes in
        let w = y.0 in
        omega arith)
    tried_swap H n m (rejected a t l x) = neither_order n m (does_not_divide a l) (λ y. x (y.1.1, y.1.0))
    tried_swap H n m (accepted a t l x) =
        record { number = _; steps = _; tried = accepted a (steps_swap K A B G a x t) l (x.1, x.0); told = alike }

  -- the verdict in the other order
  record SwappedVerdict (monomials : List Exponents) (kept : List (Kept K)) (H : Polynomial K) (ceiling n m : ℕ) : Type 0 where
    number : ℕ
    steps : ℕ
    verdict : Verdict K B A monomials kept ceiling number H steps
    told : Alike ceiling n m number steps

  module _ (monomials : List Exponents) (kept : List (Kept K)) (ceiling : ℕ)
      (ends : (s : Unknowns K) → OnlySolution K monomials kept s → (k : ℕ) × Steps K B A (divisor K s) k) where
    verdict_swap : (n : ℕ) (H : Polynomial K) (m : ℕ) → Verdict K A B monomials kept ceiling n H m → SwappedVerdict monomials kept H ceiling n m
    verdict_swap n H m (unsolvable x) = record { number = _; steps = _; verdict = unsolvable x; told = alike }
    verdict_swap n H m (several x) = record { number = _; steps = _; verdict = several x; told = alike }
    verdict_swap n H m (divided s only x) =
        let k = ends s only in
        let t = tried_swap (divisor K s) ceiling k.0 k.1 H n m x in
        record { number = t.number; steps = t.steps; verdict = divided s only t.tried; told = t.told }

  -- the answer in the other order
  pub record SwappedAnswer (monomials : List Exponents) (points : List (Point R)) (ceiling : ℕ) (r : CandidateRecord) (G : Polynomial K) : Type 0 where
    pub found : CandidateRecord
    pub answer : RuleAnswer K B A monomials points ceiling found G
    pub told : ToldAlike ceiling r found

  pub answer_swap : (monomials : List Exponents) (points : List (Point R)) (ceiling : ℕ)
      → ((d b u : ℕ) (k : Kept K) (kept : List (Kept K)) → Sorted K A B d points b u (k ∷ kept) → (s : Unknowns K) → OnlySolution K monomials (k ∷ kept) s
      → (n : ℕ) × Steps K B A (divisor K s) n)
      → (r : CandidateRecord) (G : Polynomial K) → RuleAnswer K A B monomials points ceiling r G → SwappedAnswer monomials points ceiling r G
  answer_swap monomials points ceiling ends r G (all_bad h) = record { found = _; answer = all_bad (all_bad_swap points h); told = same }
  answer_swap monomials points ceiling ends r G (some_good d b u k kept s n H m v) =
      let w = verdict_swap monomials (k ∷ kept) ceiling (ends d b u k kept s) n H m v in go w.number w.steps w.verdict w.told
    where
      go : (n' m' : ℕ) → Verdict K B A monomials (k ∷ kept) ceiling n' H m' → Alike ceiling n m n' m' → SwappedAnswer monomials points ceiling r H
      go n' m' w alike = record { found = _; answer = some_good d b u k kept (sorted_swap s) n' H m' w; told = same }
      go n' m' w (neither x y) =
          record { found = _; answer = some_good d b u k kept (sorted_swap s) n' H m' w; told = not_accepted x n' m' y }
