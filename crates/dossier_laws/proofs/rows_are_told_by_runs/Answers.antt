use Rattle.dossier_laws.proofs.RowRuns.{row_read, row_written}
use Rattle.dossier_laws.proofs.rows_are_told_by_runs.Goals as goal

pub returns-clause-read : goal.returns-clause-read
returns-clause-read c = row_read

pub returns-clause-written : goal.returns-clause-written
returns-clause-written c = row_written
