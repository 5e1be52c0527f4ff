use Rattle.dossier_terms.specs.Texts.{no_line}
use Rattle.dossier_commands.specs.declared.read.Ended.TheVariants.{No}
use Rattle.delay_command.proofs.Tells.{puts_part, puts_whole}
use Rattle.delay_command.proofs.command.put_refusal.Goals as goal

pub returns-in-Ok : goal.returns-in-Ok
returns-in-Ok g c = puts_whole g.K.Sink (no_line c.args.line c.args.reason) No c.args.out.now c.put_no.new.out (λ e. absurd (cc)) tt c.in-Ok.ensures

pub returns-in-Err : goal.returns-in-Err
returns-in-Err g c = puts_part g.K.Sink (no_line c.args.line c.args.reason) No c.args.out.now c.put_no.new.out (λ e. absurd (cc)) _ c.in-Err.ensures
