use Rattle.delay_command.proofs.Tells.{puts_part, puts_whole}
use Rattle.delay_command.proofs.command.put_waits.Goals as goal
use Rattle.delay_print.specs.Texts.{delays_text}
use Rattle.dossier_commands.specs.declared.read.Ended.TheVariants.{Done}

pub returns-in-Ok : goal.returns-in-Ok
returns-in-Ok g c =
    puts_whole g.K.Sink (delays_text c.args.instance.now c.args.plan.now c.args.waits.now) Done c.args.out.now c.put_delays.new.out (λ e. absurd (cc)) tt c.in-Ok.ensures

pub returns-in-Err : goal.returns-in-Err
returns-in-Err g c =
    puts_part g.K.Sink (delays_text c.args.instance.now c.args.plan.now c.args.waits.now) Done c.args.out.now c.put_delays.new.out (λ e. absurd (cc)) _ c.in-Err.ensures
