use Rattle.std.proofs.Common.{[], sym, ◌∙◌}
use Rattle.crew_io.specs.Chains.{puts_done, puts_nothing}
use Rattle.crew_terms.specs.Plan.{job_of}
use Rattle.each_out.specs.Laws.{puts_as}
use Rattle.plan_chart.specs.Laws.{text_of_job, text_of_none}
use Rattle.plan_chart.specs.RowTexts.{link_of_teams}
use Rattle.plan_chart.proofs.links.LinksWritesU32.write.Goals as goal

pub returns-in-Some : goal.returns-in-Some
returns-in-Some g c =
    let o = job_of c.args.self.now.plan.now c.args.item.now in
    puts_as g.K.Sink _ _ _ _ _ c.put_teams.ensures (text_of_job link_of_teams o c.in-Some.start c.teams.result.now (sym c.start.ensures ∙ c.in-Some.is) c.teams.ensures)

pub returns-in-None : goal.returns-in-None
returns-in-None g c =
    let o = job_of c.args.self.now.plan.now c.args.item.now in
    puts_as g.K.Sink _ _ _ _ _ (puts_done g.K.Sink [] _ _ tt tt (puts_nothing g.K.Sink c.args.out.now)) (text_of_none link_of_teams o (sym c.start.ensures ∙ c.in-None.is))
