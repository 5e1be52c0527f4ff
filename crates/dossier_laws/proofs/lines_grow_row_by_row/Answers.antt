use Rattle.dossier_terms.specs.Dossier.{IsSigned}
use Rattle.dossier_laws.proofs.LeafReads.{rows_more, rows_push, tables_more}
use Rattle.dossier_laws.proofs.lines_grow_row_by_row.Goals as goal

pub returns-clause-rows : goal.returns-clause-rows
returns-clause-rows c = λ wants line read left rows j row h count each.
    (rows_push IsSigned wants read rows j row h count each, rows_more IsSigned wants line read rows j left row h)

pub returns-clause-tables : goal.returns-clause-tables
returns-clause-tables c = tables_more
