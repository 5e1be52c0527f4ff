use Rattle.std.proofs.Common.{sym}
use Rattle.crew_io.specs.Chains.{puts_then, puts_same, puts_front}
use Rattle.delay_print.proofs.Words.{text_parts, wave_front}
use Rattle.delay_print.proofs.put_delays.Goals as goal

pub returns-in_err-put_wave : goal.returns-in_err-put_wave
returns-in_err-put_wave g c =
    puts_front g.K.Sink _ _ _ _ _ c.from_residual.result c.from_residual.ensures.0 c.in_err-put_wave.ensures (wave_front c.args.instance.now c.args.plan.now c.args.waits.now)

pub returns : goal.returns
returns g c =
    puts_same g.K.Sink _ _ _ _ _ (sym (text_parts c.args.instance.now c.args.plan.now c.args.waits.now))
    (puts_then g.K.Sink _ _ _ _ _ _ _ c.in_ok-put_wave.ensures c.put_lates.ensures)
