use Rattle.crew_io.specs.Draws.{reads_none}
use Rattle.late_lines.specs.First.{IsAfter}
use Rattle.late_lines.specs.Lines.{first_lines}
use Rattle.delay_command.proofs.Tells.{nothing_tells}
use Rattle.delay_command.proofs.command.write_behind.Goals as goal

pub returns-in_err-checker : goal.returns-in_err-checker
returns-in_err-checker g c =
    nothing_tells g.S.Source g.K.Sink (λ input. IsAfter (first_lines c.args.lines.now) input c.args.reader.now (g.S.Source.left c.args.src.now)) c.args.src.now c.args.src.now c.args.out.now
    c.from_residual.result c.from_residual.ensures.0 (reads_none g.S.Source c.args.src.now)
