use Rattle.std.proofs.Common.{[], ap, sym, ◌∙◌}
use Rattle.crew_io.specs.Chains.{puts_done, puts_nothing}
use Rattle.crew_terms.specs.Plan.{job_of}
use Rattle.each_out.specs.Laws.{puts_as}
use Rattle.plan_chart.specs.Laws.{text_of_job, text_of_none}
use Rattle.plan_chart.specs.Jobs.{job_group, job_text}
use Rattle.plan_chart.specs.Looks.{look_of}
use Rattle.plan_chart.specs.declared.looks.Look.{Look}
use Rattle.plan_chart.proofs.Legal.{ends_in_day, in_tasks, known_teams}
use Rattle.plan_chart.proofs.jobs.JobsWritesU32.write.Goals as goal

pub put_job-requires-clause-task : goal.put_job-requires-clause-task
put_job-requires-clause-task g c = in_tasks c.args.self.now.instance.now c.args.self.now.plan.now c.args.item.now c.in-Some.start c.requires.0 c.requires.1 c.requires.2 (sym c.start.ensures ∙ c.in-Some.is)

pub put_job-requires-clause-day : goal.put_job-requires-clause-day
put_job-requires-clause-day g c = ends_in_day c.args.self.now.instance.now c.args.self.now.plan.now c.args.item.now c.in-Some.start c.requires.0 c.requires.1 c.requires.2 (sym c.start.ensures ∙ c.in-Some.is)

pub put_job-requires-clause-known : goal.put_job-requires-clause-known
put_job-requires-clause-known g c =
    known_teams c.args.self.now.instance.now c.args.self.now.plan.now c.args.item.now c.in-Some.start c.requires.0 c.requires.1 c.requires.2 (sym c.start.ensures ∙ c.in-Some.is) c.teams-teams.result.now c.teams-teams.ensures

pub returns-in-Some : goal.returns-in-Some
unfolding job_text
returns-in-Some g c =
    let i = c.args.self.now.instance.now in
    let p = c.args.self.now.plan.now in
    let j = c.args.item.now in
    let look = look_of i p c.args.self.now.before.now c.args.self.now.now.now j in
    puts_as g.K.Sink _ _ _ _ _ c.put_job.ensures
    (ap (λ (l : Look). job_group i p l j c.in-Some.start c.teams-teams.result.now) c.look_of-look.ensures
    ∙ text_of_job (job_group i p look j) (job_of p j) c.in-Some.start c.teams-teams.result.now (sym c.start.ensures ∙ c.in-Some.is) c.teams-teams.ensures)

pub returns-in-None : goal.returns-in-None
unfolding job_text
returns-in-None g c =
    let i = c.args.self.now.instance.now in
    let p = c.args.self.now.plan.now in
    let j = c.args.item.now in
    let look = look_of i p c.args.self.now.before.now c.args.self.now.now.now j in
    puts_as g.K.Sink _ _ _ _ _ (puts_done g.K.Sink [] _ _ tt tt (puts_nothing g.K.Sink c.args.out.now)) (text_of_none (job_group i p look j) (job_of p j) (sym c.start.ensures ∙ c.in-None.is))
