-- What the functions of a record ask and promise: room for its numbers, and the numbers in their list.
use Rattle.std.specs.Prelude.{ℕ, ◌+◌, ◌*◌, ◌/◌, ◌≤◌, List, [], ◌∷◌, length, get_or}
use Rattle.case_file.specs.Format.{Kind, base, sum}
use Rattle.case_file.specs.Handed.{Counts}

-- by kind, the records that the counts say, of a point three numbers; those of modulus and end have no count, and the order of kinds bounds them
abbrev pub held : Counts → ℕ → ℕ
held r k = get_or (0 ∷ 0 ∷ r.first ∷ r.second ∷ r.skeleton ∷ r.points / 3 ∷ 0 ∷ []) k 0

-- how many numbers the list of a kind holds at the most
abbrev pub most : Kind → ℕ
most k = k.limit * length k.widths

-- a body of kind k at the offset at is whole, and a list with n numbers has room for it
pub record Place (k : Kind) (bytes : List ℕ) (at n : ℕ) : Type 0 where
  pub whole : at + sum k.widths ≤ length bytes
  pub room : n + length k.widths ≤ most k

-- numbers of two and of four bytes, as they are worked
abbrev pub two : List ℕ → ℕ → ℕ
two bytes at = get_or bytes at 0 + base * get_or bytes (at + 1) 0

abbrev pub four : List ℕ → ℕ → ℕ
four bytes at = two bytes at + base * base * two bytes (at + 2)
