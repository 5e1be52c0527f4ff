use Rattle.sheet_reads.proofs.Written.{Written, good_ended}
use Rattle.sheet_reads.proofs.good_sheet_is_read.Goals as goal

pub returns : goal.returns
returns c =
    let law : Written = record { head = c.head_is_read.ensures; runs = c.rows_are_told_by_runs.ensures.written } in
    good_ended law
