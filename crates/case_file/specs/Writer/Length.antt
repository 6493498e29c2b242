-- The length of a file: of any format by the records of each kind, and of a call of the writer by the lengths of its lists.
use Rattle.std.specs.Prelude.{ℕ, ◌+◌, ◌*◌, ◌/◌, ◌≤◌, ◌≡◌, length}
use Rattle.std.proofs.Math.Path.{refl}
use mathlib.Core.List.{List, [], ◌∷◌, map}
use Rattle.std.proofs.Common.{mul-suc, mul-le-mul_left, arith, length-append}
use Rattle.std.proofs.Math.Nat.{mul-zero}
use Rattle.std.proofs.Math.ListN.{length-map}
use Rattle.field.specs.Refusal.{Line}
use Rattle.field.specs.declared.case.Case.{Case as Lent}
use Rattle.case_file.specs.Format.{Format, order, kind_of, widths, count, limit, sum, body, fullest, today}
use Rattle.case_file.specs.Case.{Case, added}
use Rattle.case_file.specs.Written.{records, in_order, file_of}
use Rattle.case_file.specs.WriteCall.{WriteCall, call_case, of_lengths, file}
use Rattle.case_file.specs.Record.Packing.{length_packed}
use Rattle.case_file.specs.Writer.Cases.{EachHas, singles_have, triples_have, length_triples, case_each}

module _ (f : Format) where
  pub length_records : (k : ℕ) (rs : List (List ℕ)) → EachHas (count f k) rs → length (records f k rs) ≡ (1 + body f k) * length rs
  unfolding records
  length_records k [] h = rw mul-zero
  length_records k (ns ∷ rs) h =
      rw (length-append, length_packed (widths f k) ns h.0, length_records k rs h.1, mul-suc) (omega arith)

  -- where each record has as many numbers as its kind
  module _ (c : Case) (h : (k : ℕ) → EachHas (count f k) (c k)) where
    length_in_order : (ks : List ℕ) → length (in_order f ks c) ≡ sum (map (λ (k : ℕ). (1 + body f k) * length (c k)) ks)
    unfolding in_order
    length_in_order [] = refl
    length_in_order (k ∷ ks) = rw (length-append, length_records k (c k) (h k), length_in_order ks)

    pub length_file_of : length (file_of f c) ≡ sum (map (λ (k : ℕ). (1 + body f k) * length (c k)) (order f))
    unfolding file_of
    length_file_of = length_in_order (order f)

    -- where no list is beyond its limit, the file is not longer than the fullest
    pub at_most_fullest : ((k : ℕ) → length (c k) ≤ limit f k) → length (file_of f c) ≤ fullest f
    at_most_fullest l = rw length_file_of (at_most (order f))
      where
        at_most : (ks : List ℕ) → sum (map (λ (k : ℕ). (1 + body f k) * length (c k)) ks) ≤ sum (map (λ (k : ℕ). (1 + body f k) * limit f k) ks)
        at_most [] = omega arith
        at_most (k ∷ ks) = omega (arith, mul-le-mul_left (1 + body f k) (l k), at_most ks)

-- the length of the file of lists of these lengths: of each record its kind byte and its body
abbrev pub file_length : (first second skeleton points : ℕ) → ℕ
file_length first second skeleton points = 3 + 5 * first + 5 * second + 3 * skeleton + 7 * (points / 3) + 1

-- the lines of the writer for a case and a buffer of this length
abbrev pub of_case : Lent → ℕ → List Line
of_case c buffer =
    of_lengths (length c.first.now) (length c.second.now) (length c.skeleton.now) (length c.points.now)
    (file_length (length c.first.now) (length c.second.now) (length c.skeleton.now) (length c.points.now)) buffer

module _ (c : WriteCall) where
  pub case_has : (k : ℕ) → EachHas (count today k) (call_case c k)
  unfolding kind_of
  case_has =
      case_each c.modulus c.first_list c.second_list c.skeleton c.points (λ (k : ℕ) (rs : List (List ℕ)). EachHas (count today k) rs)
      (refl, tt) (singles_have c.first_list) (singles_have c.second_list) (singles_have c.skeleton) (triples_have c.points) (refl, tt)
      (λ j h. tt)

  pub length_file : length (file c) ≡ file_length (length c.first_list) (length c.second_list) (length c.skeleton) (length c.points)
  unfolding kind_of added
  length_file = rw (length_file_of today (call_case c) case_has, length-map, length-map, length-map, length_triples) (omega arith)
