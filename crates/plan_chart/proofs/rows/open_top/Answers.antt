use Rattle.std.proofs.Common.{refl}
use Rattle.plan_chart.proofs.rows.open_top.Goals as goal

pub returns-clause-top : goal.returns-clause-top
returns-clause-top c = rw (c.row_top-below.ensures.top, c.teams.ensures.count, c.open_before-open.ensures.count) refl
