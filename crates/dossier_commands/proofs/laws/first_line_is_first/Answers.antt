use Rattle.std.proofs.Common.{◌++◌}
use Rattle.dossier_laws.specs.Sheet.{sheet}
use Rattle.dossier_terms.specs.Lines.{lines_of}
use Rattle.dossier_commands.proofs.Refusals.{ended_after, none_before}
use Rattle.dossier_commands.proofs.laws.first_line_is_first.Goals as goal

-- a good dossier's lines would be read behind them too, as more lines of a good dossier
pub returns : goal.returns
returns c = λ lines back.
    let read = c.good_is_read.ensures sheet c.sheet_is_good.ensures.0 in
    none_before lines (lines_of sheet) (c.read_is_good.ensures (lines ++ lines_of sheet) sheet (ended_after _ lines _ _ sheet back read)).spelled
