-- `follows` decides whether a kind may stand after another: kinds are equal as their bytes are, and stand in the order of their bytes.
use Rattle.std.specs.Prelude.{ℕ, ℤ, pos, Bool, true, false, leb, ltb, eqb, cond, ◌&&◌, get_or, [], ◌∷◌, ◌≡◌}
use Rattle.std.proofs.Common.{refl, sym, arith, is_le, is_lt, int_cmp, Less, Equal, Greater, le-leb, ltb-true, ltb-false}
use Rattle.std.proofs.lemmas.Bool.{lt-leb}
use denote.Enum.Declared.{tag_of}
use denote.Enum.Bare.{sameb}
use Rattle.case_file.specs.contracts.record.Kind.{the_type}
use Rattle.case_file.specs.declared.record.Kind.{Kind}
use Rattle.case_file.specs.declared.record.Kind.TheVariants.{Modulus, First, Second, Skeleton, Point, End}
use Rattle.case_file.specs.Format.{today, follows}
use Rattle.case_file.specs.Record.Tests.{follows_later}
use Rattle.case_file.specs.Kinds.{kind_byte}
use Rattle.case_file.proofs.record.Kind.follows.Goals as goal

abbrev place : Kind → ℤ
place k = get_or {A = ℤ} (pos 1 ∷ pos 2 ∷ pos 3 ∷ pos 4 ∷ pos 5 ∷ pos 6 ∷ []) (tag_of the_type k) (pos 0)

place_is : (k : Kind) → place k ≡ pos (kind_byte k)
place_is Modulus = refl
place_is First = refl
place_is Second = refl
place_is Skeleton = refl
place_is Point = refl
place_is End = refl

begins : (k : Kind) → sameb the_type k Modulus ≡ eqb (kind_byte k) 1
begins Modulus = refl
begins First = refl
begins Second = refl
begins Skeleton = refl
begins Point = refl
begins End = refl

above_zero : (k : Kind) → ¬ (kind_byte k ≡ 0)
above_zero Modulus = λ z. omega arith
above_zero First = λ z. omega arith
above_zero Second = λ z. omega arith
above_zero Skeleton = λ z. omega arith
above_zero Point = λ z. omega arith
above_zero End = λ z. omega arith

at_most : (m n : ℕ) → is_le (int_cmp (pos m) (pos n)) ≡ leb m n
at_most m n = go (ltb m n) (ltb n m) refl refl
  where
    go : (a b : Bool) → ltb m n ≡ a → ltb n m ≡ b → is_le (cond a Less (cond b Greater Equal)) ≡ leb m n
    go true b p q = sym (le-leb m n (omega (arith, ltb-true m n p)))
    go false true p q = sym (lt-leb m n (ltb-true n m q))
    go false false p q = sym (le-leb m n (ltb-false n m q))

below : (m n : ℕ) → is_lt (int_cmp (pos m) (pos n)) ≡ ltb m n
below m n = go (ltb m n) (ltb n m)
  where
    go : (a b : Bool) → is_lt (cond a Less (cond b Greater Equal)) ≡ a
    go true b = refl
    go false true = refl
    go false false = refl

later : (l k : Kind) → is_le (int_cmp (place l) (place k)) && is_lt (int_cmp (pos 1) (place k)) ≡ follows today (kind_byte l) (kind_byte k)
later l k = rw (place_is l, place_is k, at_most, below) (follows_later today (kind_byte l) (kind_byte k) (above_zero l))

pub returns-in-None : goal.returns-in-None
unfolding follows
returns-in-None c = rw (c.in-None.is, c.eq.ensures) (begins c.args.self)

pub returns-in-Some : goal.returns-in-Some
returns-in-Some c = rw (c.in-Some.is, c.le.ensures, c.lt.ensures) (later c.in-Some.last c.args.self)
