-- A point that is lent once more: of two calls that are alike but for that, the results are alike but for one count.
use Rattle.std.specs.Prelude.{◌≡◌, refl, ◌⊎◌, length, get_or, take, drop}
use Rattle.std.proofs.Common.{sym, ◌∙◌, ap, subst, inl, inr, arith, length-append, length-drop, length-take-le, get_or-take, get_or-drop, get_or-append-add}
use mathlib.Core.List.{List, [], ◌∷◌, ◌++◌}
use Prim.Native.Nat.{ℕ, zero, suc, ◌+◌, ◌-◌, ◌*◌, ◌%◌, ◌≤◌, ◌<◌}
use Rattle.std.proofs.Math.Decide.{dec_lt}
use Rattle.std.proofs.Math.ListN.{get_or-append}
use Rattle.field.specs.Prime.{Prime}
use Rattle.field.specs.Fp.{el}
use Rattle.field.specs.Refusal.{first, Refuses, Passes, refused as refused_by}
use Rattle.field.specs.Faults.Laws.{placed_never, refuses_numbered, tested_stops, tested_refuses, not_passes_and_refuses}
use Rattle.field.specs.declared.faults.Fault.{Fault}
use Rattle.poly.specs.Lists.{Count, WrongNumber}
use Rattle.poly.specs.Room.{of_rooms}
use Rattle.poly.specs.ImageCall.{point_of}
use Rattle.divisor.specs.Candidate.{most_point_numbers, Call, of_skeleton, table, of_points, point_at, points_of, prime, Numbers, A, B}
use Rattle.divisor.specs.Candidate.{monomials, Result, Candidate, refused, answered}
use Rattle.divisor.specs.Repeated.{once_more, again, lines_before_points, AlikeButOne, Repeated}
use Rattle.divisor.specs.Twice.Equations.{Inserted, here, there, Again, behind, later}
use Rattle.divisor.specs.Twice.Rule.{repeated_point}
use Rattle.divisor.specs.Points.Parts.{part_length}
use Rattle.divisor.specs.Checks.Passed.{first_bounded, second_bounded, right_points}
use Rattle.divisor.specs.Answer.CandidateDetermined.{candidate_determined}

-- three numbers put in between points are a point put in
module _ (p : ℕ) (P : Prime p) where
  inserted_at : (j n : ℕ) → n ≡ 3 * j → (l : List ℕ) → n ≤ length l → (y z w : ℕ)
      → Inserted (record { y = el p y; z = el p z; w = el p w }) (points_of p P l) (points_of p P (take n l ++ (y ∷ z ∷ w ∷ drop n l)))
  unfolding points_of
  inserted_at zero zero e l h y z w = here
  inserted_at zero (suc n) e l h y z w = absurd (omega arith)
  inserted_at (suc j) zero e l h y z w = absurd (omega arith)
  inserted_at (suc j) (suc zero) e l h y z w = absurd (omega arith)
  inserted_at (suc j) (suc (suc zero)) e l h y z w = absurd (omega arith)
  inserted_at (suc j) (suc (suc (suc n))) e [] h y z w = absurd (omega arith)
  inserted_at (suc j) (suc (suc (suc n))) e (a ∷ []) h y z w = absurd (omega arith)
  inserted_at (suc j) (suc (suc (suc n))) e (a ∷ b ∷ []) h y z w = absurd (omega arith)
  inserted_at (suc j) (suc (suc (suc n))) e (a ∷ b ∷ c ∷ l) h y z w =
      there (inserted_at j n (omega arith) l (omega arith) y z w)

  again_at : (i m j n : ℕ) → m ≡ 3 * i → n ≡ 3 * j → i < j → (l : List ℕ) → n ≤ length l
      → Again (point_of p P (take 3 (drop m l))) (points_of p P l) (points_of p P (take n l ++ (take 3 (drop m l) ++ drop n l)))
  unfolding points_of
  again_at i m j zero d e k l h = absurd (omega arith)
  again_at i m j (suc zero) d e k l h = absurd (omega arith)
  again_at i m j (suc (suc zero)) d e k l h = absurd (omega arith)
  again_at i m zero (suc (suc (suc n))) d e k l h = absurd (omega arith)
  again_at i m (suc j) (suc (suc (suc n))) d e k [] h = absurd (omega arith)
  again_at i m (suc j) (suc (suc (suc n))) d e k (y ∷ []) h = absurd (omega arith)
  again_at i m (suc j) (suc (suc (suc n))) d e k (y ∷ z ∷ []) h = absurd (omega arith)
  again_at zero zero (suc j) (suc (suc (suc n))) d e k (y ∷ z ∷ w ∷ l) h =
      behind (inserted_at j n (omega arith) l (omega arith) y z w)
  again_at zero (suc m) (suc j) (suc (suc (suc n))) d e k (y ∷ z ∷ w ∷ l) h = absurd (omega arith)
  again_at (suc i) zero (suc j) (suc (suc (suc n))) d e k (y ∷ z ∷ w ∷ l) h = absurd (omega arith)
  again_at (suc i) (suc zero) (suc j) (suc (suc (suc n))) d e k (y ∷ z ∷ w ∷ l) h = absurd (omega arith)
  again_at (suc i) (suc (suc zero)) (suc j) (suc (suc (suc n))) d e k (y ∷ z ∷ w ∷ l) h = absurd (omega arith)
  again_at (suc i) (suc (suc (suc m))) (suc j) (suc (suc (suc n))) d e k (y ∷ z ∷ w ∷ l) h =
      later (again_at i m j n (omega arith) (omega arith) (omega arith) l (omega arith))

  pub points_again : (i j : ℕ) → i < j → (l : List ℕ) → 3 * j ≤ length l
      → Again (point_of p P (point_at l i)) (points_of p P l) (points_of p P (once_more i j l))
  points_again i j k l h = again_at i (3 * i) j (3 * j) refl refl k l h

-- the numbers of the first call are numbers of the second
module _ (i j : ℕ) (l : List ℕ) (k : i < j) (h : 3 * j ≤ length l) where
  front_length : length (take (3 * j) l) ≡ 3 * j
  front_length = length-take-le (3 * j) l h

  three : length (point_at l i) ≡ 3
  three = part_length 3 i l (omega arith)

  once_more_length : length (once_more i j l) ≡ length l + 3
  once_more_length =
      let a = length-append (take (3 * j) l) (point_at l i ++ drop (3 * j) l) in
      let b = length-append (point_at l i) (drop (3 * j) l) in
      let d = length-drop (3 * j) l in
      let f = front_length in
      let t = three in
      omega arith

  number_before : (n : ℕ) → n < 3 * j → get_or (once_more i j l) n 0 ≡ get_or l n 0
  number_before n b =
      get_or-append (take (3 * j) l) (point_at l i ++ drop (3 * j) l) 0 n (let f = front_length in omega arith) ∙ get_or-take (3 * j) l n 0 b

  number_behind : (n : ℕ) → get_or (once_more i j l) (3 * j + (3 + n)) 0 ≡ get_or l (3 * j + n) 0
  number_behind n =
      ap (λ (m : ℕ). get_or (once_more i j l) (m + (3 + n)) 0) (sym front_length)
      ∙ get_or-append-add (take (3 * j) l) (point_at l i ++ drop (3 * j) l) (3 + n) 0
      ∙ ap (λ (m : ℕ). get_or (point_at l i ++ drop (3 * j) l) (m + n) 0) (sym three)
      ∙ get_or-append-add (point_at l i) (drop (3 * j) l) n 0
      ∙ get_or-drop (3 * j) l n 0

  numbers_small : (p : ℕ) → ((n : ℕ) → n < length (once_more i j l) → get_or (once_more i j l) n 0 < p) → (n : ℕ) → n < length l → get_or l n 0 < p
  numbers_small p small n b =
      let e = once_more_length in
      elim (dec_lt n (3 * j)) [
        | yes m ↦ subst (λ (a : ℕ). a < p) (number_before n m) (small n (omega arith))
        | no m ↦
            let q : 3 * j + (n - 3 * j) ≡ n = omega arith in
            subst (λ (a : ℕ). get_or l a 0 < p) q (subst (λ (a : ℕ). a < p) (number_behind (n - 3 * j)) (small (3 * j + (3 + (n - 3 * j))) (omega arith)))
      ]

module _ (c : Call) (i j : ℕ) (k : i < j) (h : 3 * j ≤ length c.points) where
  -- where the second call passes, so does the first
  passes : Passes (table (again c i j)) → Passes (table c)
  passes pass =
      let right = right_points (again c i j) pass in
      let longer = once_more_length i j c.points k h in
      let below = numbers_small i j c.points k h c.modulus right.below in
      let skeleton = pass.1.1.1.1.1 in
      let rooms = skeleton.1.1.1.1 in
      let counted : ¬ (Count most_point_numbers c.points ⊎ (¬ (length c.points % 3 ≡ 0))) =
      λ w. elim w [ inl x ↦ elim x [ inl y ↦ omega arith | inr y ↦ omega (arith, right.few) ] | inr n ↦ n (omega (arith, right.threes)) ] in
      let small : (place : ℕ) → ¬ first (WrongNumber c.modulus c.points) place =
      λ place w. let b = below place w.0.there in let g = w.0.large in omega arith in
      let rest : Passes (of_skeleton c.skeleton ++ (of_points c.modulus c.points
      ++ of_rooms (length c.output) (length c.skeleton) (length c.work))) =
      (skeleton.0, (skeleton.1.0, (placed_never counted, (small, rooms)))) in
      (pass.0, (pass.1.0, (pass.1.1.0, (pass.1.1.1.0, (pass.1.1.1.1.0, rest)))))

  alike : (r r' : Result) → Candidate c r → Candidate (again c i j) r' → Passes (table (again c i j)) → AlikeButOne c i r r'
  alike r r' (refused f x) meets pass = absurd (not_passes_and_refuses (table c) f (passes pass) x)
  alike r r' (answered own listed f G x) meets pass =
      let q = repeated_point (Numbers c listed) (A c listed) (B c listed) (first_bounded c own listed) (second_bounded c own listed)
      (monomials c listed)
      (points_again c.modulus (prime c listed) i j k c.points h) c.ceiling f G x in
      subst (λ (t : Result). AlikeButOne c i r t)
      (candidate_determined (again c i j) _ r' (answered pass listed q.found G q.answer) meets)
      (record { listed = listed; found = q.one_more; same_output = refl; same_work = refl })

-- what the lines 1 to 7 refuse is refused whatever the points are
refused_before_points : (c : Call) (points : List ℕ) (f : Fault) → Refuses (lines_before_points c) f
    → Refuses (lines_before_points c ++ (of_points c.modulus points ++ of_rooms (length c.output) (length c.skeleton) (length c.work))) f
refused_before_points c points f x =
    let n = refuses_numbered (lines_before_points c) tt f x in
    let rest = of_points c.modulus points ++ of_rooms (length c.output) (length c.skeleton) (length c.work) in
    tested_refuses (lines_before_points c ++ rest) f (tested_stops (lines_before_points c) rest f (refused_by x) n) n

refused_alike : (c : Call) (i j : ℕ) (r r' : Result) → Candidate c r → Candidate (again c i j) r' → (f : Fault) → Refuses (lines_before_points c) f → r' ≡ r
refused_alike c i j r r' meets meets' f x =
    candidate_determined (again c i j) r' _ meets' (refused f (refused_before_points c (once_more i j c.points) f x))
    ∙ candidate_determined c _ r (refused f (refused_before_points c c.points f x)) meets

-- A point may occur twice: it then adds no knowledge and does no harm.
pub repeated_call : (c : Call) (i j : ℕ) → i < j → 3 * j ≤ length c.points → (r r' : Result) → Candidate c r → Candidate (again c i j) r'
    → Repeated c i j r r'
repeated_call c i j k h r r' meets meets' = record {
  refused_alike = refused_alike c i j r r' meets meets';
  passes = passes c i j k h;
  alike = alike c i j k h r r' meets meets';
}
