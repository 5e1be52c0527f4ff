use Rattle.std.proofs.Common.{[], ap, sym}
use Rattle.crew_io.specs.Chains.{puts_done, puts_nothing, puts_same}
use Rattle.desk_commands.specs.Rounds.{changes_since}
use Rattle.desk_commands.proofs.texts.put_changes.Goals as goal

pub returns-in-Some : goal.returns-in-Some
returns-in-Some g c = puts_same g.K.Sink _ _ _ _ _ (sym (ap (λ b. changes_since c.args.round b c.args.now.now) c.in-Some.is)) c.changes.ensures

pub returns-in-None : goal.returns-in-None
returns-in-None g c =
    puts_same g.K.Sink _ _ _ _ _ (sym (ap (λ b. changes_since c.args.round b c.args.now.now) c.in-None.is)) (puts_done g.K.Sink [] _ _ tt tt (puts_nothing g.K.Sink c.args.out.now))
