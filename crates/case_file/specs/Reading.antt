-- Reading a case file of a format: record by record, each tested in the stated order, up to the end record or the first fault.
use Rattle.std.specs.Prelude.{ℕ, zero, suc, ◌+◌, Bool, true, false, List, [], ◌∷◌, eqb, ltb, leb, length}
use Rattle.field.specs.Numbers.{KIND_UNKNOWN, BODY_CUT, ORDER, AFTER_END, NO_END, TOO_MANY}
use Rattle.case_file.specs.Format.{Format, last_byte, known, limit, body, follows, content, today}
use Rattle.case_file.specs.Case.{Case, no_records, added}

-- the number of the first test that is not passed, 0 if all are
abbrev pub first_failed : List (ℕ × Bool) → ℕ
first_failed [] = 0
first_failed (t ∷ ts) = elim t.1 [ true ↦ first_failed ts | false ↦ t.0 ]

pub data Reading : Type 0 where
  -- a case, and the offset after its end record
  whole : Case → ℕ → Reading
  -- number and place
  refused : ℕ → ℕ → Reading

-- one case and nothing after it, in a file of n bytes
unfoldable pub alone : ℕ → Reading → Reading
alone n (whole c at) = elim (ltb at n) [ true ↦ refused AFTER_END at | false ↦ whole c at ]
alone n (refused e at) = refused e at

module _ (f : Format) where
  -- the tests of a record of kind k: the record before it is of kind before, n of its kind were read, m bytes follow its kind byte
  unfoldable pub fault_number : (before k n m : ℕ) → ℕ
  fault_number before k n m = first_failed ((KIND_UNKNOWN, known f k) ∷ (ORDER, follows f before k) ∷ (BODY_CUT, leb (body f k) m)
      ∷ (TOO_MANY, ltb n (limit f k)) ∷ [])

  -- from the offset at on, where s bytes of a body are still to be passed: the last record is of kind before, c is what was read
  unfoldable pub reading : (s at before : ℕ) → Case → List ℕ → Reading
  reading zero at before c [] = refused NO_END at
  reading (suc s) at before c [] = refused NO_END at
  reading (suc s) at before c (b ∷ bs) = reading s (at + 1) before c bs
  reading zero at before c (k ∷ bs) =
      elim (fault_number before k (length (c k)) (length bs)) [
        | suc n ↦ refused (suc n) at
        | zero ↦
            elim (eqb k (last_byte f)) [
              | true ↦ whole (added k (content f k bs ∷ []) c) (at + 1)
              | false ↦ reading (body f k) (at + 1) k (added k (content f k bs ∷ []) c) bs
            ]
      ]

  -- the case at the start of the bytes
  unfoldable pub read_one_in : List ℕ → Reading
  read_one_in bs = reading 0 0 0 no_records bs

  -- a case file
  unfoldable pub read_in : List ℕ → Reading
  read_in bs = alone (length bs) (read_one_in bs)

-- today's format
abbrev pub read_one : List ℕ → Reading
read_one bs = read_one_in today bs

abbrev pub read : List ℕ → Reading
read bs = read_in today bs
