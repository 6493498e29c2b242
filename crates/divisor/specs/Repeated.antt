-- A point may occur twice: it then adds no knowledge and does no harm. Stated over two calls that are alike, but that a lent point occurs once more in
-- the second, at any place behind the first occurrence. (Not in front of it: there the multiplier that is fixed at 1 would be another point's, and
-- that of a later point may be 0.)
use Rattle.std.specs.Prelude.{◌≡◌, List, ◌++◌, take, drop, ℕ, suc, ◌*◌, ◌<◌}
use Rattle.algebra.specs.Series.{Seq}
use Rattle.algebra.specs.Field.{Field}
use Rattle.field.specs.Moduli.{Listed}
use Rattle.field.specs.Refusal.{Line, Refuses, Passes}
use Rattle.field.specs.declared.faults.Fault.{Fault}
use Rattle.poly.specs.Terms.{Polynomial}
use Rattle.poly.specs.PointValue.{Point}
use Rattle.poly.specs.PointImage.{Bad, Image}
use Rattle.poly.specs.ImageCall.{point_of}
use Rattle.poly.specs.Lists.{of_lists}
use Rattle.divisor.specs.declared.CandidateRecord.{CandidateRecord}
use Rattle.divisor.specs.Candidate.{Call, candidate_call, of_skeleton, table, point_at, prime, Numbers, A, B, Result}

-- the point numbers with those of point i once more, in front of point j, or behind all points
abbrev pub once_more : ℕ → ℕ → List ℕ → List ℕ
once_more i j points = take (3 * j) points ++ (point_at points i ++ drop (3 * j) points)

-- the second call
abbrev pub again : Call → ℕ → ℕ → Call
again c i j =
    candidate_call c.modulus c.first_list c.second_list c.skeleton (once_more i j c.points) c.ceiling c.output c.work

-- the lines 1 to 7
abbrev pub lines_before_points : Call → List Line
lines_before_points c = of_lists c.modulus c.first_list c.second_list ++ of_skeleton c.skeleton

-- what is told, with other counts of points
abbrev pub with_counts : CandidateRecord → ℕ → ℕ → ℕ → CandidateRecord
with_counts r bad unlucky kept =
    record { fault = r.fault; degree = r.degree; bad = bad; unlucky = unlucky; kept = kept; terms = r.terms; steps = r.steps }

-- One count is one more, that of the class to which the point belongs; all else is the same. With number 12 every point is bad.
pub data OneMore (K : Field) (A B : Polynomial K) (at : Point K.ring) (r : CandidateRecord) : CandidateRecord → Type 0 where
  one_bad : Bad K A B at → OneMore K A B at r (with_counts r (suc r.bad) r.unlucky r.kept)
  one_unlucky : (e : ℕ) (U : Seq K.ring) → Image K A B at e U → r.degree < e
      → OneMore K A B at r (with_counts r r.bad (suc r.unlucky) r.kept)
  one_kept : (U : Seq K.ring) → Image K A B at r.degree U → OneMore K A B at r (with_counts r r.bad r.unlucky (suc r.kept))

-- what the second call brings about where it passes
pub record AlikeButOne (c : Call) (i : ℕ) (r r' : Result) : Type 0 where
  pub listed : Listed c.modulus
  pub found : OneMore (Numbers c listed) (A c listed) (B c listed) (point_of c.modulus (prime c listed) (point_at c.points i)) r.found r'.found
  pub same_output : r'.output ≡ r.output
  pub same_work : r'.work ≡ r.work

-- The results r and r' of the two calls: what the lines 1 to 7 refuse is refused alike; where the second call passes so does the first, and only one
-- count differs. (Where the first call passes, only line 8 can refuse the second, for too many points.)
pub record Repeated (c : Call) (i j : ℕ) (r r' : Result) : Type 0 where
  pub refused_alike : (f : Fault) → Refuses (lines_before_points c) f → r' ≡ r
  pub passes : Passes (table (again c i j)) → Passes (table c)
  pub alike : Passes (table (again c i j)) → AlikeButOne c i r r'
