-- The reader's numbers are about no list of a call, so it names none; its contracts refute every other list.
use Prim.Native.Nat.{ℕ, zero, suc, ◌+◌}
use Rattle.std.specs.Prelude.{◌≡◌, length}
use Rattle.std.proofs.Math.Path.{refl, ap}
use Rattle.std.proofs.Common.{sym, ◌∙◌}
use mathlib.Core.List.{List, [], ◌∷◌}
use Rattle.field.specs.Numbers.{LIST_NONE, list_at_fault}
use Rattle.field.specs.Refusal.{RefutesAnotherList}
use Rattle.case_file.specs.Format.{Format, body, content, today}
use Rattle.case_file.specs.Case.{Case, no_records, added}
use Rattle.case_file.specs.Reading.{Reading, whole, refused, reading, read_one_in, read_in, read}
use Rattle.case_file.specs.Handed.{Counts, Contents, fault, Gives, contents}
use Rattle.case_file.specs.Record.Tests.{tests_no_list}
use Rattle.case_file.specs.Reader.Steps.{by_record}
use Rattle.case_file.specs.Reader.Alone.{alone_each}

-- a refusal's number is about no list
abbrev NoList : Reading → Type 0
NoList (whole c at) = Unit {0}
NoList (refused e at) = list_at_fault e ≡ LIST_NONE

module _ (f : Format) where
  reading_no_list : (s at before : ℕ) (c : Case) (bs : List ℕ) → NoList (reading f s at before c bs)
  unfolding reading list_at_fault
  reading_no_list zero at before c [] = refl
  reading_no_list (suc s) at before c [] = refl
  reading_no_list (suc s) at before c (b ∷ bs) = reading_no_list s (at + 1) before c bs
  reading_no_list zero at before c (k ∷ bs) =
      by_record f at before c k bs NoList (λ e h z. ap list_at_fault (sym h) ∙ tests_no_list f before k (length (c k)) (length bs)) (λ h q. tt)
      (λ h q. reading_no_list (body f k) (at + 1) k (added k (content f k bs ∷ []) c) bs)

  read_one_no_list : (bs : List ℕ) → NoList (read_one_in f bs)
  unfolding read_one_in
  read_one_no_list bs = reading_no_list 0 0 0 no_records bs

  read_no_list : (bs : List ℕ) → NoList (read_in f bs)
  unfolding read_in list_at_fault
  read_no_list bs = alone_each NoList (length bs) (read_one_in f bs) (λ at. refl) (read_one_no_list bs)

-- so no list is named
pub read_names_none : (bs : List ℕ) → (fault (read bs)).list ≡ LIST_NONE
read_names_none bs = go (read bs) (read_no_list today bs)
  where
    go : (o : Reading) → NoList o → (fault o).list ≡ LIST_NONE
    go (whole c at) h = (unfold list_at_fault in refl)
    go (refused e at) h = h

reading_names : (o : Reading) → (fault o).list ≡ list_at_fault (fault o).number
reading_names (whole c at) = refl
reading_names (refused e at) = refl

pub read_another_list : (bs : List ℕ) → RefutesAnotherList (λ r. r.fault) (λ (r : Contents). r ≡ contents (read bs))
read_another_list bs r other e = other (rw e (reading_names (read bs)))

-- the same of a record with lent arrays, whatever is read
pub gives_another_list : (o : Reading) (f s k p : List ℕ) → RefutesAnotherList (λ r. r.fault) (λ (r : Counts). Gives o r f s k p)
gives_another_list o f s k p r other g = other (rw g.record_is (reading_names o))
