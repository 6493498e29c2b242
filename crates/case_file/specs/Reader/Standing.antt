-- What holds of the case at each record: later kinds have no records yet, no list is beyond its limit, and each record has the
-- numbers of its kind. So the lists fit their arrays.
use Rattle.std.specs.Prelude.{ℕ, ◌*◌, ◌≤◌, ◌<◌, ◌≡◌, refl, List, [], ◌∷◌, length}
use Rattle.std.proofs.Math.Path.{sym}
use Rattle.std.proofs.Common.{◌∙◌, add-mul, one-mul, zero-mul, mul-le-mul_right, arith, length-append}
use Rattle.case_file.specs.Format.{Format, count, limit, content}
use Rattle.case_file.specs.Case.{Case, no_records, added, flat}
use Rattle.case_file.specs.Record.Tests.{not_below, Passed}
use Rattle.case_file.specs.Record.Packing.{length_numbers}
use Rattle.case_file.specs.Record.Arrays.{flat_more}
use Rattle.case_file.specs.Reader.Added.{added_other, added_each}

module _ (f : Format) where
  pub record Standing (before : ℕ) (c : Case) : Type 0 where
    pub later : (j : ℕ) → before < j → c j ≡ []
    pub within : (j : ℕ) → length (c j) ≤ limit f j
    pub even : (j : ℕ) → length (flat (c j)) ≡ length (c j) * count f j

  pub standing_start : Standing 0 no_records
  unfolding flat
  standing_start = record { later = λ j h. refl; within = λ j. omega arith; even = λ j. sym (zero-mul (count f j)) }

  -- one record more, with its numbers
  pub standing_more : (before k m : ℕ) (c : Case) (bs : List ℕ) → Standing before c → Passed f before k (length (c k)) m
      → Standing k (added k (content f k bs ∷ []) c)
  standing_more before k m c bs s p =
      let up : before ≤ k = not_below f before k p.in_order in
      record {
        later = λ j h. added_other k (content f k bs ∷ []) c j (λ e. omega arith) ∙ s.later j (omega arith);
        within =
            added_each k (content f k bs ∷ []) c (λ (j : ℕ) (rs : List (List ℕ)). length rs ≤ limit f j) (rw length-append (omega (arith, p.room)))
            (λ j ne. s.within j);
        even =
            added_each k (content f k bs ∷ []) c (λ (j : ℕ) (rs : List (List ℕ)). length (flat rs) ≡ length rs * count f j)
            (rw (flat_more, length-append, length-append, length_numbers, s.even k, add-mul, one-mul))
            (λ j ne. s.even j);
      }

  pub fits : (before : ℕ) (c : Case) → Standing before c → (j : ℕ) → length (flat (c j)) ≤ limit f j * count f j
  fits before c s j = rw (s.even j) (mul-le-mul_right (count f j) (s.within j))
