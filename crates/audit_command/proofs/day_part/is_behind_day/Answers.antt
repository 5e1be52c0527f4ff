use Rattle.std.proofs.Common.{sym, ◌∙◌}
use Rattle.std.proofs.lemmas.Slice.Eq.{bytes_eq-Decides}
use Rattle.audit_command.specs.Days.{dossiers_line}
use Rattle.audit_command.proofs.day_part.is_behind_day.Goals as goal

pub returns : goal.returns
returns c =
    let d = bytes_eq-Decides c.args.line.now dossiers_line in
    (λ t. d.0 (sym c.eq.ensures ∙ t), λ e. c.eq.ensures ∙ d.1 e)
