use Rattle.std.proofs.Common.{[], sym, ◌∙◌}
use Rattle.crew_io.specs.Chains.{puts_done, puts_nothing}
use Rattle.crew_terms.specs.Plan.{job_of}
use Rattle.each_out.specs.Laws.{puts_as}
use Rattle.plan_chart.specs.Laws.{text_of_done, text_of_open}
use Rattle.plan_chart.specs.RowTexts.{open_task}
use Rattle.plan_chart.proofs.opens.OpensWritesU32.write.Goals as goal

pub returns-in-Some : goal.returns-in-Some
returns-in-Some g c =
    let p = c.args.self.now.plan.now in
    let j = c.args.item.now in
    puts_as g.K.Sink _ _ _ _ _ (puts_done g.K.Sink [] _ _ tt tt (puts_nothing g.K.Sink c.args.out.now))
    (text_of_done (open_task c.args.self.now.instance.now p c.args.self.now.left j) (job_of p j) _ (sym c.start.ensures ∙ c.in-Some.is))

pub returns-in-None : goal.returns-in-None
returns-in-None g c =
    let p = c.args.self.now.plan.now in
    let j = c.args.item.now in
    puts_as g.K.Sink _ _ _ _ _ c.put_task.ensures (text_of_open (open_task c.args.self.now.instance.now p c.args.self.now.left j) (job_of p j) (sym c.start.ensures ∙ c.in-None.is))
