use Rattle.std.proofs.Common.{◌+◌, ap, ◌∙◌}
use Rattle.plan_chart.specs.Rows.{open_top}
use Rattle.plan_chart.specs.declared.drawings.TheConstants.{FOOT}
use Rattle.plan_chart.proofs.drawings.bottom.Goals as goal

pub returns-clause-bottom : goal.returns-clause-bottom
returns-clause-bottom c = ap (λ n. n + FOOT) c.open_top.ensures.top ∙ ap (λ n. open_top c.args.instance.now c.args.plan.now n + FOOT) c.len.ensures.count
