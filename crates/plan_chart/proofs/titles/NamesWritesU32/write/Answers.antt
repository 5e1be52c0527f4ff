use Rattle.std.proofs.Common.{refl}
use Rattle.each_out.specs.Laws.{puts_as}
use Rattle.plan_chart.specs.Titles.{name_of}
use Rattle.plan_chart.proofs.titles.NamesWritesU32.write.Goals as goal

pub returns : goal.returns
unfolding name_of
returns g c = puts_as g.K.Sink _ _ _ _ _ c.put_pieces.ensures (rw (c.bytes.ensures.bytes, c.team-team.ensures.team) refl)
