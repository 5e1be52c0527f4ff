use Rattle.std.proofs.Common.{ap, w64}
use Rattle.std.proofs.lemmas.Int.{to_z-of_z}
use Rattle.crew_io.specs.Chains.{puts_then, puts_front, puts_same}
use Rattle.crew_terms.specs.Words.{line_text}
use Rattle.dossier_terms.specs.Lines.{worth_line}
use Rattle.dossier_out.proofs.TeamTables.{table_front, table_text}
use Rattle.dossier_out.proofs.tables.put_table.Goals as goal

pub returns-in_err-put_line : goal.returns-in_err-put_line
returns-in_err-put_line g c =
    puts_front g.K.Sink (line_text (worth_line c.args.worth)) _ _ _ _ c.from_residual.result c.from_residual.ensures.0
    (puts_same g.K.Sink _ _ _ _ _ (ap (λ v. line_text (worth_line v)) (to_z-of_z w64 c.args.worth c.ranges.worth)) c.in_err-put_line.ensures)
    (table_front c.args.limits.now.limits c.args.k c.args.worth c.args.table.now)

pub returns : goal.returns
returns g c =
    puts_same g.K.Sink _ _ _ _ _ (table_text c.args.limits.now.limits c.args.k c.args.worth c.args.table.now)
    (puts_then g.K.Sink (line_text (worth_line c.args.worth)) _ _ _ _ _ _
    (puts_same g.K.Sink _ _ _ _ _ (ap (λ v. line_text (worth_line v)) (to_z-of_z w64 c.args.worth c.ranges.worth)) c.in_ok-put_line.ensures) c.put_rows.ensures)
