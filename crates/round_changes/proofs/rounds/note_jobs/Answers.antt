use Rattle.std.proofs.Common.{◌≡◌, ◌≤◌, ◌<◌, ◌++◌, length, ap, sym, subst, ◌∙◌, arith}
use Rattle.round_changes.specs.Named.{jobs_at}
use Rattle.round_changes.proofs.Jobs.{flat_more}
use Rattle.round_changes.proofs.rounds.note_jobs.Goals as goal

pub push_job-requires-clause-task : goal.push_job-requires-clause-task
push_job-requires-clause-task c = let t = c.loop-j-test.true in let e = c.tasks-j-end.ensures.count in let w = c.requires.feasible.whole in omega (arith, t, e, w)

pub loop-j-preserved : goal.loop-j-preserved
loop-j-preserved c =
    let f = jobs_at c.args.instance.now c.args.plan.now in
    c.in_ok-push_job.ensures ∙ ap (λ js. js ++ f c.loop-j.j) c.loop-j.invariant ∙ sym (flat_more f c.loop-j.j)
