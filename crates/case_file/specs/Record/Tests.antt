-- The tests of a record in any format: which number the first failed one gives, and what is known when all are passed.
use Prim.Native.Nat.{ℕ, zero, suc, ◌≤◌, ◌<◌}
use Rattle.std.specs.Prelude.{◌≡◌, Bool, ◌&&◌, List, [], ◌∷◌, map, leb, ltb, eqb}
use Rattle.std.proofs.Math.Path.{refl}
use Rattle.std.proofs.Common.{sym, ap, true≢false}
use Rattle.std.proofs.Math.Bool.{true, false, and-eq-true_iff}
use Rattle.std.proofs.lemmas.Bool.{false≢true}
use Rattle.std.proofs.Math.Nat.{le-max_left, le-max_right}
use native.Mathlib.Omega.{arith}
use borrow.Author.Tests.{le-leb, lt-leb, lt-ltb, le-ltb, eq-eqb, leb-true, ltb-true, eqb-true, eqb-false}
use Rattle.field.specs.Numbers.{KIND_UNKNOWN, BODY_CUT, ORDER, TOO_MANY, LIST_NONE, list_at_fault}
use Rattle.case_file.specs.Format.{Kind, Format, kinds, bytes_of, first_byte, member, known, unknown, find, kind_of}
use Rattle.case_file.specs.Format.{body, limit, follows, greatest, rises}
use Rattle.case_file.specs.Reading.{first_failed, fault_number}

-- the first of rising kinds
pub risen : (n k : ℕ) (ks : List ℕ) → rises n (k ∷ ks) ≡ true → (n < k) × (rises k ks ≡ true)
risen n k ks r = let t = (and-eq-true_iff (ltb n k) (rises k ks)).0 r in (ltb-true n k t.0, t.1)

-- a fact of a list that has k: it holds where k is the head, and goes over from a tail that has k
pub by_member : (k : ℕ) (P : List ℕ → Type 0) → ((ks : List ℕ) → P (k ∷ ks)) → ((j : ℕ) (ks : List ℕ) → (j ≡ k → ⊥) → P ks → P (j ∷ ks))
    → (ks : List ℕ) → member k ks ≡ true → P ks
by_member k P here there [] m = absurd (false≢true m)
by_member k P here there (j ∷ ks) m = go (eqb k j) refl m (by_member k P here there ks)
  where
    go : (b : Bool) → eqb k j ≡ b → elim b [ true ↦ true | false ↦ member k ks ] ≡ true → (member k ks ≡ true → P ks) → P (j ∷ ks)
    go true e m ih = rw (← eqb-true k j e) (here ks)
    go false e m ih = there j ks (λ q. eqb-false k j e (sym q)) (ih m)

pub above : (k : ℕ) (ks : List ℕ) → member k ks ≡ true → (n : ℕ) → rises n ks ≡ true → n < k
above k = by_member k (λ (ks : List ℕ). (n : ℕ) → rises n ks ≡ true → n < k) (λ ks n r. (risen n k ks r).0)
    (λ j ks ne ih n r. let t = risen n j ks r in omega (arith, t.0, ih j t.1))

pub at_most_greatest : (g : ℕ → ℕ) (k : ℕ) (ks : List ℕ) → member k ks ≡ true → g k ≤ greatest (map g ks)
at_most_greatest g k =
    by_member k (λ (ks : List ℕ). g k ≤ greatest (map g ks)) (λ ks. le-max_left (g k) (greatest (map g ks)))
    (λ j ks ne ih. omega (arith, le-max_right (g j) (greatest (map g ks))))

not_found : (b : ℕ) (ks : List Kind) → member b (bytes_of ks) ≡ false → find ks b ≡ unknown b
not_found b [] h = refl
not_found b (k ∷ ks) h = go (eqb b k.byte) (not_found b ks) h
  where
    go : (t : Bool) → (member b (bytes_of ks) ≡ false → find ks b ≡ unknown b) → elim t [ true ↦ true | false ↦ member b (bytes_of ks) ] ≡ false
        → elim t [ true ↦ k | false ↦ find ks b ] ≡ unknown b
    go true ih h = absurd (true≢false h)
    go false ih h = ih h

module _ (f : Format) where
  pub unknown_kind : (k : ℕ) → known f k ≡ false → kind_of f k ≡ unknown k
  unfolding known kind_of
  unknown_kind k h = not_found k (kinds f) h

  -- a kind that may have a record is known
  pub room_known : (k n : ℕ) → n < limit f k → known f k ≡ true
  room_known k n h = go (known f k) refl
    where
      go : (b : Bool) → known f k ≡ b → known f k ≡ true
      go true e = e
      go false e = absurd (let z : limit f k ≡ 0 = ap (λ (j : Kind). j.limit) (unknown_kind k e) in omega arith)

  -- after the first record kinds never fall, and the first kind does not come again
  pub follows_later : (before k : ℕ) → (before ≡ 0 → ⊥) → leb before k && ltb (first_byte f) k ≡ follows f before k
  unfolding follows
  follows_later zero k h = absurd (h refl)
  follows_later (suc before) k h = refl

  pub may_follow : (before k : ℕ) → 1 ≤ before → before ≤ k → first_byte f < k → follows f before k ≡ true
  unfolding follows
  may_follow zero k a b d = absurd (omega arith)
  may_follow (suc before) k a b d = rw (le-leb (suc before) k b, lt-ltb (first_byte f) k d)

  pub may_begin : follows f 0 (first_byte f) ≡ true
  unfolding follows
  may_begin = eq-eqb (first_byte f) (first_byte f) refl

  pub not_first : (before k : ℕ) → follows f before k ≡ true → (k ≡ first_byte f → ⊥) → 1 ≤ before
  unfolding follows
  not_first zero k o ne = absurd (ne (eqb-true k (first_byte f) o))
  not_first (suc before) k o ne = omega arith

  not_falling : (before k : ℕ) → 1 ≤ before → follows f before k ≡ true → (before ≤ k) × (first_byte f < k)
  unfolding follows
  not_falling zero k l e = absurd (omega arith)
  not_falling (suc before) k l e =
      let t = (and-eq-true_iff (leb (suc before) k) (ltb (first_byte f) k)).0 e in
      (leb-true _ _ t.0, ltb-true _ _ t.1)

  pub not_second : (before : ℕ) → follows f before (first_byte f) ≡ true → before ≡ 0
  not_second zero e = refl
  not_second (suc before) e =
      absurd (let l = not_falling (suc before) (first_byte f) (omega arith) e in omega (arith, l.1))

  -- a record that may stand here is not below the one before it
  pub not_below : (before k : ℕ) → follows f before k ≡ true → before ≤ k
  not_below zero k o = omega arith
  not_below (suc before) k o = (not_falling (suc before) k (omega arith) o).0

  module _ (before k n m : ℕ) where
    pub fails_known : known f k ≡ false → KIND_UNKNOWN ≡ fault_number f before k n m
    unfolding fault_number
    fails_known h = rw h

    module _ (t : known f k ≡ true) where
      pub fails_order : follows f before k ≡ false → ORDER ≡ fault_number f before k n m
      unfolding fault_number
      fails_order o = rw (t, o)

      module _ (o : follows f before k ≡ true) where
        pub fails_whole : m < body f k → BODY_CUT ≡ fault_number f before k n m
        unfolding fault_number
        fails_whole h = rw (t, o, lt-leb (body f k) m h)

        pub fails_limit : body f k ≤ m → limit f k ≤ n → TOO_MANY ≡ fault_number f before k n m
        unfolding fault_number
        fails_limit w h = rw (t, o, le-leb (body f k) m w, le-ltb n (limit f k) h)

        pub passes : body f k ≤ m → n < limit f k → 0 ≡ fault_number f before k n m
        unfolding fault_number
        passes w h = rw (t, o, le-leb (body f k) m w, lt-ltb n (limit f k) h)

  -- what is known of a record that passes its tests
  pub record Passed (before k n m : ℕ) : Type 0 where
    pub is_known : known f k ≡ true
    pub in_order : follows f before k ≡ true
    pub in_file : body f k ≤ m
    pub room : n < limit f k

-- the first failed of a record's tests, by their outcomes
abbrev outcome : (is_known order whole room : Bool) → ℕ
outcome is_known order whole room =
    first_failed ((KIND_UNKNOWN, is_known) ∷ (ORDER, order) ∷ (BODY_CUT, whole) ∷ (TOO_MANY, room) ∷ [])

all_true : (a b c d : Bool) → outcome a b c d ≡ 0 → (a ≡ true) × (b ≡ true) × (c ≡ true) × (d ≡ true)
all_true true true true true h = (refl, refl, refl, refl)
all_true true true true false h = absurd (omega arith)
all_true true true false d h = absurd (omega arith)
all_true true false c d h = absurd (omega arith)
all_true false b c d h = absurd (omega arith)

outcome_no_list : (a b c d : Bool) → list_at_fault (outcome a b c d) ≡ LIST_NONE
unfolding list_at_fault
outcome_no_list true true true true = refl
outcome_no_list true true true false = refl
outcome_no_list true true false d = refl
outcome_no_list true false c d = refl
outcome_no_list false b c d = refl

-- no test of a record is about a list of a call
pub tests_no_list : (f : Format) (before k n m : ℕ) → list_at_fault (fault_number f before k n m) ≡ LIST_NONE
unfolding fault_number
tests_no_list f before k n m = outcome_no_list (known f k) (follows f before k) (leb (body f k) m) (ltb n (limit f k))

module _ (f : Format) (before k : ℕ) where
  pub passed : (n m : ℕ) → fault_number f before k n m ≡ 0 → Passed f before k n m
  unfolding fault_number
  passed n m h =
      let t = all_true (known f k) (follows f before k) (leb (body f k) m) (ltb n (limit f k)) h in
      record { is_known = t.0; in_order = t.1; in_file = leb-true _ _ t.2; room = ltb-true _ _ t.3 }

  -- how many of its kind were read matters only for a record of a known kind that may stand here
  pub fault_same : (n n' m : ℕ) → (known f k ≡ true → follows f before k ≡ true → n ≡ n') → fault_number f before k n m ≡ fault_number f before k n' m
  unfolding fault_number
  fault_same n n' m h = go (known f k) (follows f before k) refl refl
    where
      go : (a o : Bool) → known f k ≡ a → follows f before k ≡ o
          → outcome a o (leb (body f k) m) (ltb n (limit f k)) ≡ outcome a o (leb (body f k) m) (ltb n' (limit f k))
      go true true e q = rw (h e q)
      go true false e q = refl
      go false o e q = refl
