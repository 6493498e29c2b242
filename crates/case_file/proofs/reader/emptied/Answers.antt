-- `emptied` leaves zeros in the arrays and hands back counts of 0.
use Rattle.std.proofs.Common.{refl}
use Rattle.case_file.specs.Format.{kind_of}
use Rattle.case_file.specs.Case.{flat}
use Rattle.case_file.specs.Handed.{padded}
use Rattle.case_file.proofs.reader.emptied.Goals as goal

pub returns : goal.returns
unfolding kind_of flat padded
returns c = record { record_is = refl; first_is = refl; second_is = refl; skeleton_is = refl; points_is = refl }
