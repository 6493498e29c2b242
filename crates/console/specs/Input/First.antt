-- A list that stands first in an array; one that is padded to an array does.
use Rattle.std.specs.Prelude.{ℕ, ◌≡◌, List, length, take}
use Rattle.std.proofs.Common.{arith, ap, length-append}
use Rattle.console.specs.Counts.{IsPrefixLen}
use Rattle.case_file.specs.Handed.{padded}
use Rattle.case_file.specs.Reader.Lent.{take_padded}
use Rattle.console.specs.Answer.TermsFirst.{counts_within}

-- the first n numbers of the array are the list
pub record First (n : ℕ) (array numbers : List ℕ) : Type 0 where
  pub counts : IsPrefixLen n array
  pub is : take n array ≡ numbers

pub padded_first : (m n : ℕ) (array numbers : List ℕ) → n ≡ length numbers → array ≡ padded m numbers → First n array numbers
unfolding padded
padded_first m n array numbers k e =
    record {
      counts = counts_within n array (omega (arith, simp length-append at (ap length e)));
      is = rw (e, k) (take_padded m numbers);
    }
