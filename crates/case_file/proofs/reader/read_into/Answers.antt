-- `read_into` refuses what stands after the end record: its three ways out are those of `alone`.
use Rattle.std.proofs.Common.{refl, arith}
use Rattle.field.specs.Faults.Laws.{exit_err}
use Rattle.case_file.specs.Reader.Alone.{nothing_after, bytes_after, refused_alike, refused_told}
use Rattle.case_file.proofs.reader.read_into.Goals as goal

pub returns-in_err-counts : goal.returns-in_err-counts
returns-in_err-counts c = refused_alike _ (exit_err _ c.from_residual.ensures.1) c.in_err-counts.ensures

pub returns-then-end-bytes : goal.returns-then-end-bytes
returns-then-end-bytes c =
    refused_told (bytes_after _ c.in_ok-counts.ensures c.if-end-bytes.true refl) (λ z. omega arith) c.refused.ensures

pub returns : goal.returns
returns c = nothing_after _ c.in_ok-counts.ensures c.if-end-bytes.false
