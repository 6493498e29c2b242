-- `refused` leaves zeros in the arrays and hands back the fault that `Fault::at` makes.
use Rattle.case_file.specs.Handed.{refused_counts}
use Rattle.case_file.specs.Case.{flat}
use Rattle.case_file.proofs.reader.refused.Goals as goal

pub returns : goal.returns
unfolding flat
returns c =
    let g = c.emptied.ensures in
    record {
      record_is = λ i. refused_counts (c.at.ensures i);
      first_is = g.first_is;
      second_is = g.second_is;
      skeleton_is = g.skeleton_is;
      points_is = g.points_is;
    }
