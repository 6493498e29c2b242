-- Where a lent point is good, the points sort and one is kept: the least size of the images looked at is not 0. So demand 3's second half may begin
-- with a good point.
use Rattle.std.specs.Prelude.{refl, List, [], ◌∷◌, ℕ, zero, suc, ◌<◌, length}
use Rattle.std.proofs.Common.{inl, inr, arith}
use Rattle.algebra.specs.Field.{Field}
use Rattle.poly.specs.Terms.{Polynomial}
use Rattle.poly.specs.PointValue.{Point}
use Rattle.divisor.specs.Rule.{Kept, Sorted, AllBad}
use Rattle.divisor.specs.Candidate.{Call, prime, Numbers, A, B, lent_points, Result, Candidate}
use Rattle.divisor.specs.Demands.{SomeGood, SortedOut, GoodPointSorts, GoodPointSuffices}
use Rattle.divisor.specs.Sorting.Model.{sizes_of, least, alike}
use Rattle.divisor.specs.Checks.Passed.{looks_of, looked}
use Rattle.divisor.specs.Sorting.Laws.{Least, least_is, all_bad, sorted, kept_count}
use Rattle.divisor.specs.Demand.Laws.{common_divisor_comes_out}

-- a good point rules out that all are bad
some_not_all : (K : Field) (A B : Polynomial K) (points : List (Point K.ring)) → SomeGood K A B points → ¬ AllBad K A B points
some_not_all K A B [] g all = g
some_not_all K A B (at ∷ points) (inl g) all = g all.0
some_not_all K A B (at ∷ points) (inr g) all = some_not_all K A B points g all.1

pub good_point_sorts : (c : Call) → GoodPointSorts c
good_point_sorts c pass listed good = go (least sizes) (least_is 0 sizes)
  where
    sizes : List ℕ
    sizes = sizes_of (looks_of c)

    kept_out : (d b u : ℕ) (ks : List (Kept (Numbers c listed))) → 0 < length ks
        → Sorted (Numbers c listed) (A c listed) (B c listed) d (lent_points c listed) b u ks → SortedOut c listed
    kept_out d b u [] l s = absurd (omega arith)
    kept_out d b u (k ∷ ks) l s = record { d = d; bad = b; unlucky = u; first = k; others = ks; sorted = s }

    go : (m : ℕ) → Least 0 sizes m → SortedOut c listed
    go zero h = absurd (some_not_all (Numbers c listed) (A c listed) (B c listed) (lent_points c listed) good
        (all_bad (prime c listed) (A c listed) (B c listed) (lent_points c listed) (looks_of c) (looked c pass listed) (h.zero refl)))
    go (suc d) h =
        let s = sorted (prime c listed) (A c listed) (B c listed) d (lent_points c listed) (looks_of c) (looked c pass listed) h.below in
        let n = kept_count (prime c listed) (A c listed) (B c listed) (suc d) (lent_points c listed) (looks_of c) (looked c pass listed) in
        let some : 0 < alike (suc d) sizes = elim h.reached [ inl e ↦ absurd (omega arith) | inr l ↦ l ] in
        kept_out d _ s.0 _ (omega arith) s.1

-- DEMAND 3, second half, from a good point
pub good_point_suffices : (c : Call) (r : Result) → Candidate c r → GoodPointSuffices c r
good_point_suffices c r meets pass listed good =
    let found = good_point_sorts c pass listed good in
    (found, common_divisor_comes_out c r meets pass listed found)
