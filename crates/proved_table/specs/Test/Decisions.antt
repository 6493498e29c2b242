-- The lines of the candidate's inputs, of the image's and of two lists without a modulus, each decided by computing.
use Rattle.std.specs.Prelude.{◌≡◌, refl, ◌⊎◌, List, [], ◌∷◌, ◌++◌, map, ℕ, zero, suc, ◌%◌, ◌≤◌, ◌<◌, length, get_or}
use Rattle.std.proofs.Common.{subst, inl, inr, arith}
use Rattle.std.proofs.Math.Logic.Dec
use Rattle.std.proofs.Math.Decide.{ℕ_discrete, dec_le, dec_lt}
use Rattle.field.specs.Numbers.{MODULUS, FIRST_COUNT, FIRST_TERM, SECOND_COUNT, SECOND_TERM, SKELETON_COUNT, SKELETON_KEY, POINTS_COUNT, POINT_NUMBER}
use Rattle.field.specs.Modulus.Laws.{listed_decided}
use Rattle.field.specs.Refusal.{Line}
use Rattle.field.specs.Faults.Decision.{either_decided, Checks, placed_check, first_check}
use Rattle.poly.specs.Keys.{keys}
use Rattle.poly.specs.Terms.{key_of, coefficient_of}
use Rattle.poly.specs.Lists.{most_terms, Count, WrongKey, above, not_below, WrongTerm, wrong_key, coefficient_zero}
use Rattle.poly.specs.Lists.{WrongModulo, wrong_term, coefficient_large, WrongNumber, of_terms, of_lists}
use Rattle.poly.specs.LeadingPart.{of_list}
use Rattle.poly.specs.ShorterPart.{of_two_lists}
use Rattle.poly.specs.ImageCall.{ImageCall, of_point, image_table}
use Rattle.poly.specs.List.Check.{wrong_beyond}
use Rattle.poly.specs.Points.Check.{numbers_end}
use Rattle.divisor.specs.Checks.Laws.{keys_beyond}
use Rattle.divisor.specs.Candidate.{most_keys, most_point_numbers, of_skeleton, of_points}

-- the decision of a statement that says the same as another
abbrev pub decided_as : {X Y : Type 0} → (X → Y) → (Y → X) → Dec X → Dec Y
decided_as to from (yes x) = yes (to x)
decided_as to from (no n) = no (λ y. n (from y))

unfoldable pub count_decided : (most : ℕ) (list : List ℕ) → Dec (Count most list)
count_decided most list = either_decided (ℕ_discrete (length list) 0) (dec_lt most (length list))

module _ (ks : List ℕ) where
  -- a key that is not below the one before
  abbrev pub NotBelow : ℕ → Type 0
  NotBelow zero = ⊥
  NotBelow (suc before) = get_or ks before 0 ≤ get_or ks (suc before) 0

  unfoldable pub not_below_decided : (i : ℕ) → Dec (NotBelow i)
  not_below_decided zero = no (λ h. h)
  not_below_decided (suc before) = dec_le (get_or ks before 0) (get_or ks (suc before) 0)

  -- a wrong key, part by part
  abbrev pub WrongParts : ℕ → Type 0
  WrongParts i = (i < length ks) × ((keys ≤ get_or ks i 0) ⊎ NotBelow i)

  pub to_wrong : (i : ℕ) → WrongParts i → WrongKey ks i
  to_wrong i (l, inl h) = above l h
  to_wrong zero (l, inr h) = absurd h
  to_wrong (suc before) (l, inr h) = not_below before refl l h

  pub from_wrong : (i : ℕ) → WrongKey ks i → WrongParts i
  from_wrong i (above l h) = (l, inl h)
  from_wrong zero (not_below before e l h) = absurd (omega arith)
  from_wrong (suc i) (not_below before e l h) = let q : before ≡ i = omega arith in (l, inr (subst (λ (n : ℕ). get_or ks n 0 ≤ get_or ks (suc i) 0) q h))

  unfoldable pub key_decided : (i : ℕ) → Dec (WrongKey ks i)
  key_decided i = decided_as (to_wrong i) (from_wrong i) (Dec.and (dec_lt i (length ks))
      (either_decided (dec_le keys (get_or ks i 0)) (not_below_decided i)))

module _ (ts : List ℕ) where
  -- a wrong term without a modulus, part by part
  abbrev pub TermParts : ℕ → Type 0
  TermParts i = WrongKey (map key_of ts) i ⊎ ((i < length ts) × (coefficient_of (get_or ts i 0) ≡ 0))

  pub to_wrong_term : (i : ℕ) → TermParts i → WrongTerm ts i
  to_wrong_term i (inl w) = wrong_key w
  to_wrong_term i (inr (l, e)) = coefficient_zero l e

  pub from_wrong_term : (i : ℕ) → WrongTerm ts i → TermParts i
  from_wrong_term i (wrong_key w) = inl w
  from_wrong_term i (coefficient_zero l e) = inr (l, e)

  unfoldable pub plain_term_decided : (i : ℕ) → Dec (WrongTerm ts i)
  plain_term_decided i = decided_as (to_wrong_term i) (from_wrong_term i)
      (either_decided (key_decided (map key_of ts) i) (Dec.and (dec_lt i (length ts)) (ℕ_discrete (coefficient_of (get_or ts i 0)) 0)))

module _ (p : ℕ) (ts : List ℕ) where
  -- and modulo p
  abbrev pub ModuloParts : ℕ → Type 0
  ModuloParts i = WrongTerm ts i ⊎ ((i < length ts) × (p ≤ coefficient_of (get_or ts i 0)))

  pub to_wrong_modulo : (i : ℕ) → ModuloParts i → WrongModulo p ts i
  to_wrong_modulo i (inl w) = wrong_term w
  to_wrong_modulo i (inr (l, h)) = coefficient_large l h

  pub from_wrong_modulo : (i : ℕ) → WrongModulo p ts i → ModuloParts i
  from_wrong_modulo i (wrong_term w) = inl w
  from_wrong_modulo i (coefficient_large l h) = inr (l, h)

  unfoldable pub term_decided : (i : ℕ) → Dec (WrongModulo p ts i)
  term_decided i = decided_as (to_wrong_modulo i) (from_wrong_modulo i)
      (either_decided (plain_term_decided ts i) (Dec.and (dec_lt i (length ts)) (dec_le p (coefficient_of (get_or ts i 0)))))

  unfoldable pub number_decided : (i : ℕ) → Dec (WrongNumber p ts i)
  number_decided i = decided_as (λ (h : (i < length ts) × (p ≤ get_or ts i 0)). record { there = h.0; large = h.1 }) (λ w. (w.there, w.large))
      (Dec.and (dec_lt i (length ts)) (dec_le p (get_or ts i 0)))

-- checks of two tables, one behind the other
unfoldable pub checks_append : (front back : List Line) → Checks front → Checks back → Checks (front ++ back)
checks_append [] back cs ds = ds
checks_append (l ∷ front) back cs ds = (cs.0, checks_append front back cs.1 ds)

unfoldable pub list_checks : (p : ℕ) (A B : List ℕ) → Checks (of_lists p A B)
list_checks p A B = (
  placed_check MODULUS 0 _ (Dec.not (listed_decided p)),
  (
    placed_check FIRST_COUNT 0 _ (count_decided most_terms A),
    (
      first_check FIRST_TERM _ (term_decided p A) (length A) (wrong_beyond p A),
      (placed_check SECOND_COUNT 0 _ (count_decided most_terms B), (first_check SECOND_TERM _ (term_decided p B) (length B) (wrong_beyond p B), tt)),
    ),
  ),
)

-- of one list without a modulus, by its two numbers, and of two
unfoldable pub terms_checks : (count term : ℕ) (ts : List ℕ) → Checks (of_terms count term (WrongTerm ts) ts)
terms_checks count term ts = (
  placed_check count 0 _ (count_decided most_terms ts),
  (first_check term _ (plain_term_decided ts) (length ts) (λ i l w. wrong_beyond 0 ts i l (wrong_term w)), tt),
)

unfoldable pub two_lists_checks : (A B : List ℕ) → Checks (of_two_lists A B)
two_lists_checks A B =
    checks_append (of_list A) (of_terms SECOND_COUNT SECOND_TERM (WrongTerm B) B) (terms_checks FIRST_COUNT FIRST_TERM A)
    (terms_checks SECOND_COUNT SECOND_TERM B)

unfoldable pub skeleton_checks : (skeleton : List ℕ) → Checks (of_skeleton skeleton)
skeleton_checks skeleton = (
  placed_check SKELETON_COUNT 0 _ (count_decided most_keys skeleton),
  (first_check SKELETON_KEY _ (key_decided skeleton) (length skeleton) (keys_beyond skeleton), tt),
)

unfoldable pub points_checks : (p : ℕ) (points : List ℕ) → Checks (of_points p points)
points_checks p points = (
  placed_check POINTS_COUNT 0 _ (either_decided (count_decided most_point_numbers points) (Dec.not (ℕ_discrete (length points % 3) 0))),
  (first_check POINT_NUMBER _ (number_decided p points) (length points) (numbers_end p points), tt),
)

unfoldable pub point_checks : (p : ℕ) (point : List ℕ) → Checks (of_point p point)
point_checks p point = (
  placed_check POINTS_COUNT 0 _ (Dec.not (ℕ_discrete (length point) 3)),
  (first_check POINT_NUMBER _ (number_decided p point) (length point) (numbers_end p point), tt),
)

-- the candidate's lines but those of the rooms
abbrev pub lines : ℕ → List ℕ → List ℕ → List ℕ → List ℕ → List Line
lines p A B skeleton points = of_lists p A B ++ (of_skeleton skeleton ++ of_points p points)

unfoldable pub checks : (p : ℕ) (A B skeleton points : List ℕ) → Checks (lines p A B skeleton points)
checks p A B skeleton points =
    checks_append (of_lists p A B) (of_skeleton skeleton ++ of_points p points) (list_checks p A B)
    (checks_append (of_skeleton skeleton) (of_points p points) (skeleton_checks skeleton) (points_checks p points))

-- the image's lines
unfoldable pub image_checks : (c : ImageCall) → Checks (image_table c)
image_checks c =
    checks_append (of_lists c.modulus c.first_list c.second_list) (of_point c.modulus c.point)
    (list_checks c.modulus c.first_list c.second_list) (point_checks c.modulus c.point)
