use Rattle.std.proofs.Common.{refl}
use Rattle.each_out.specs.Laws.{puts_as}
use Rattle.plan_chart.specs.Titles.{what_of}
use Rattle.plan_chart.proofs.titles.put_what.Goals as goal

pub returns : goal.returns
unfolding what_of
returns g c = puts_as g.K.Sink _ _ _ _ _ c.put_pieces.ensures (rw (c.kind.ensures, c.bytes.ensures.bytes, c.bytes-2.ensures.bytes) refl)
