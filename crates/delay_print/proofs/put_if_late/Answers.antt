use Rattle.std.proofs.Common.{sym}
use Rattle.crew_io.specs.Chains.{puts_same}
use Rattle.delay_print.proofs.Words.{late_one}
use Rattle.delay_print.proofs.put_if_late.Goals as goal

pub returns-in-Some : goal.returns-in-Some
returns-in-Some g c =
    puts_same g.K.Sink _ _ _ _ _ (late_one c.args.instance.now c.args.plan.now c.args.waits.now c.args.j c.in-Some.starts (sym c.in-Some.ensures)) c.put_delay.ensures
