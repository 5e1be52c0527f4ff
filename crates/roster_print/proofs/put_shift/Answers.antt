use Rattle.std.proofs.Common.{ap}
use Rattle.crew_terms.specs.Words.{line_text}
use Rattle.crew_io.specs.Chains.{puts_same}
use Rattle.roster_print.proofs.Words.{shift_words}
use Rattle.roster_print.proofs.put_shift.Goals as goal

pub returns : goal.returns
returns g c =
    puts_same g.K.Sink _ _ _ _ _
    (ap line_text (shift_words c.args.instance.now c.args.k c.team-team.result.now _ _ _ c.team-team.ensures.team c.bytes.ensures.bytes c.clock-from.ensures c.clock-until.ensures))
    c.put_line.ensures
