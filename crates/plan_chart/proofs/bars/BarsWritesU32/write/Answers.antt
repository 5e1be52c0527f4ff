use Rattle.std.proofs.Common.{ap, ◌∙◌}
use Rattle.crew_io.specs.Chains.{puts_then}
use Rattle.crew_terms.specs.declared.Task.{Task}
use Rattle.each_out.specs.Laws.{cut_first, puts_as}
use Rattle.plan_chart.specs.Rows.{row_top}
use Rattle.plan_chart.specs.Bars.{box_of, way_of}
use Rattle.plan_chart.proofs.bars.BarsWritesU32.write.Goals as goal

pub returns-in_err-put_way : goal.returns-in_err-put_way
returns-in_err-put_way g c =
    let start = c.args.self.now.start in
    cut_first g.K.Sink _ _ _ _ _ c.from_residual.result c.from_residual.ensures.0
    (puts_as g.K.Sink _ _ _ _ _ c.in_err-put_way.ensures
    (ap (λ t. way_of t start c.minutes_there-way.result) c.row_top-top.ensures.top ∙ ap (λ m. way_of (row_top c.args.item.now) start m) c.minutes_there-way.ensures.minutes))

pub returns : goal.returns
returns g c =
    let start = c.args.self.now.start in
    let look = c.args.self.now.look in
    puts_then g.K.Sink _ _ _ _ _ _ _
    (puts_as g.K.Sink _ _ _ _ _ c.in_ok-put_way.ensures
    (ap (λ t. way_of t start c.minutes_there-way.result) c.row_top-top.ensures.top ∙ ap (λ m. way_of (row_top c.args.item.now) start m) c.minutes_there-way.ensures.minutes))
    (puts_as g.K.Sink _ _ _ _ _ c.put_box.ensures
    (ap (λ t. box_of look t c.task.result.now start) c.row_top-top.ensures.top ∙ ap (λ (t : Task). box_of look (row_top c.args.item.now) t start) c.task.ensures.task))
