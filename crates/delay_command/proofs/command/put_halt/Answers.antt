use Rattle.std.proofs.Common.{subst, sym}
use Rattle.late_lines.specs.declared.halt.Halt.{Halt}
use Rattle.delay_command.specs.Says.{PutsHalt}
use Rattle.delay_command.proofs.command.put_halt.Goals as goal

pub returns-in-No : goal.returns-in-No
returns-in-No g c = subst (λ (h : Halt). PutsHalt g.K.Sink h c.args.out.now c.put_refusal.new.out c.put_refusal.result) (sym c.in-No.is) c.put_refusal.ensures
