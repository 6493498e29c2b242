-- `read` hands on the fault of `read_into`: on refusal the contents are zeros.
use Rattle.std.proofs.Common.{◌≡◌}
use Rattle.field.specs.Faults.Laws.{exit_err, stands_err}
use Rattle.case_file.specs.Reading.{read}
use Rattle.case_file.specs.Handed.{contents, contained, refused_contents}
use Rattle.case_file.specs.Reader.Determined.{refused_is}
use Rattle.case_file.proofs.reader.read.Goals as goal

pub returns-in_err-counts : goal.returns-in_err-counts
returns-in_err-counts c =
    let told = c.in_err-counts.ensures in
    stands_err refused_contents contained (λ r. r ≡ contents (read c.args.bytes.now)) (exit_err _ c.from_residual.ensures.1) told.0
    (refused_is (read c.args.bytes.now) told.1)
