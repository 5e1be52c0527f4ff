use Rattle.std.proofs.Common.{◌≡◌, ◌<◌, length, set, Some, Option, ap, arith, sym, ◌∙◌}
use Rattle.crew_terms.specs.Plan.{Job, job_of}
use Rattle.crew_instance.specs.Begun.{none_begun}
use Rattle.crew_instance.proofs.Copies.{copied_none, copied_job, job_again}
use Rattle.crew_instance.proofs.plans.Plan.copy.Goals as goal
use Rattle.crew_instance.proofs.plans.Plan.copy.Goals.{in-Some+in_ok-assign, in_default}

pub loop-i-preserved : goal.loop-i-preserved
loop-i-preserved c =
    let l : c.loop-i.i < length c.args.self.now = let a = c.loop-i-test.true in let b = c.len-i-end.ensures.count in omega arith in
    elim c.match-start.branch [
      | in-Some+in_ok-assign w ↦
          let job : Option Job = Some (record { start = w.in-Some.start; teams = w.teams.result.now }) in
          let is : job_of c.args.self.now c.loop-i.i ≡ job = job_again (job_of c.args.self.now c.loop-i.i) w.in-Some.start w.teams.result.now (sym c.start.ensures ∙ w.in-Some.is) w.teams.ensures in
          w.copy-is ∙ w.in_ok-assign.ensures.ok ∙ ap (λ p. set p c.loop-i.i job) c.loop-i.invariant ∙ copied_job c.args.self.now c.loop-i.i l job is
      | in_default w ↦
          w.copy-is ∙ c.loop-i.invariant ∙ copied_none c.args.self.now c.loop-i.i l (none_begun (job_of c.args.self.now c.loop-i.i) (sym c.start.ensures ∙ w.in_default.is))
    ]
