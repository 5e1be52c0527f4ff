use Rattle.std.proofs.Common.{[], ap, sym}
use Rattle.crew_io.specs.Chains.{puts_done, puts_nothing, puts_same}
use Rattle.desk_commands.specs.Rounds.{head_of}
use Rattle.desk_commands.proofs.texts.put_first.Goals as goal

pub returns-in-Changes : goal.returns-in-Changes
returns-in-Changes g c = puts_same g.K.Sink _ _ _ _ _ (ap head_of (sym c.in-Changes.is)) (puts_done g.K.Sink [] _ _ tt tt (puts_nothing g.K.Sink c.args.out.now))

pub returns-in-Picture : goal.returns-in-Picture
returns-in-Picture g c = puts_same g.K.Sink _ _ _ _ _ (ap head_of (sym c.in-Picture.is)) c.put_page_head.ensures
