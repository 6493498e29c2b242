-- What the reader hands back: a record and four arrays, zeros beyond each count; on refusal zeros with counts 0.
use Rattle.std.specs.Prelude.{◌≡◌, ℕ, ◌*◌, ◌-◌, min, List, [], ◌++◌, length, replicate, get_or, take}
use Rattle.case_file.specs.Format.{modulus_kind, first_kind, second_kind, skeleton_kind, point_kind, count, limit, today}
use Rattle.case_file.specs.Case.{Case, no_records, flat}
use Rattle.case_file.specs.Reading.{Reading, whole, refused}
use Rattle.case_file.specs.declared.Counts.{Counts as ReadCounts}
use Rattle.case_file.specs.declared.Contents.{Contents as ReadContents}
use Rattle.field.specs.Refusal.{none}
use Rattle.field.specs.Refusal as refusal
use Rattle.field.specs.declared.faults.Fault.{Fault}
use Rattle.field.specs.declared.case.Case.{Case as Lent}

-- What is told of a reading beside the arrays: a fault, the offset after the end record, the modulus, and how many numbers each list has.
pub record Counts : Type 0 where
  pub fault : Fault
  pub next : ℕ
  pub modulus : ℕ
  pub first : ℕ
  pub second : ℕ
  pub skeleton : ℕ
  pub points : ℕ

-- The same with the arrays.
pub record Contents : Type 0 where
  pub fault : Fault
  pub modulus : ℕ
  pub first : List ℕ
  pub first_count : ℕ
  pub second : List ℕ
  pub second_count : ℕ
  pub skeleton : List ℕ
  pub skeleton_count : ℕ
  pub points : List ℕ
  pub points_count : ℕ

abbrev pub case : Reading → Case
case (whole c at) = c
case (refused number place) = no_records

abbrev pub fault : Reading → Fault
fault (whole c at) = none
fault (refused number place) = refusal.fault number place

-- the offset after the end record
abbrev pub next : Reading → ℕ
next (whole c at) = at
next (refused number place) = 0

-- the numbers of kind k
abbrev pub list : Reading → ℕ → List ℕ
list o k = flat (case o k)

-- a list at the start of n places, zeros beyond it
unfoldable pub padded : ℕ → List ℕ → List ℕ
padded n xs = xs ++ replicate (n - length xs) 0

-- a list in the array of kind k, which has room for the most records of that kind
abbrev pub in_array : ℕ → List ℕ → List ℕ
in_array k xs = padded (limit today k * count today k) xs

abbrev pub array : Reading → ℕ → List ℕ
array o k = in_array k (list o k)

abbrev pub counts : Reading → Counts
counts o =
    record {
      fault = fault o;
      next = next o;
      modulus = get_or (list o modulus_kind) 0 0;
      first = length (list o first_kind);
      second = length (list o second_kind);
      skeleton = length (list o skeleton_kind);
      points = length (list o point_kind);
    }

-- the record and the lent arrays
pub record Gives (o : Reading) (r : Counts) (first second skeleton points : List ℕ) : Type 0 where
  pub record_is : r ≡ counts o
  pub first_is : first ≡ array o first_kind
  pub second_is : second ≡ array o second_kind
  pub skeleton_is : skeleton ≡ array o skeleton_kind
  pub points_is : points ≡ array o point_kind

-- the same in one record
abbrev pub contents : Reading → Contents
contents o =
    record {
      fault = fault o;
      modulus = get_or (list o modulus_kind) 0 0;
      first = array o first_kind;
      first_count = length (list o first_kind);
      second = array o second_kind;
      second_count = length (list o second_kind);
      skeleton = array o skeleton_kind;
      skeleton_count = length (list o skeleton_kind);
      points = array o point_kind;
      points_count = length (list o point_kind);
    }

-- told of counts that were read, and of a refusal
abbrev pub counted : ReadCounts → Counts
counted r =
    record {
      fault = none;
      next = r.next;
      modulus = r.modulus;
      first = r.first;
      second = r.second;
      skeleton = r.skeleton;
      points = r.points;
    }

abbrev pub refused_counts : Fault → Counts
refused_counts f = record { fault = f; next = 0; modulus = 0; first = 0; second = 0; skeleton = 0; points = 0 }

-- told of contents that were read, and of a refusal
abbrev pub contained : ReadContents → Contents
contained r =
    record {
      fault = none;
      modulus = r.modulus;
      first = r.first;
      first_count = r.first_count;
      second = r.second;
      second_count = r.second_count;
      skeleton = r.skeleton;
      skeleton_count = r.skeleton_count;
      points = r.points;
      points_count = r.points_count;
    }

abbrev pub refused_contents : Fault → Contents
refused_contents f =
    record {
      fault = f;
      modulus = 0;
      first = in_array first_kind [];
      first_count = 0;
      second = in_array second_kind [];
      second_count = 0;
      skeleton = in_array skeleton_kind [];
      skeleton_count = 0;
      points = in_array point_kind [];
      points_count = 0;
    }

-- the case of the contents: the first numbers of each array, as many as its count says and the array holds
pub record Lends (r : ReadContents) (c : Lent) : Type 0 where
  pub modulus : c.modulus ≡ r.modulus
  pub first : c.first.now ≡ take (min r.first_count 256) r.first
  pub second : c.second.now ≡ take (min r.second_count 256) r.second
  pub skeleton : c.skeleton.now ≡ take (min r.skeleton_count 32) r.skeleton
  pub points : c.points.now ≡ take (min r.points_count 96) r.points
