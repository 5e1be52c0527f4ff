use Rattle.std.proofs.Common.{◌≡◌, ◌<◌, ◌+◌, ℕ, length, arith, sym, ap, subst, ◌∙◌}
use Rattle.std.proofs.lemmas.List.{length-map}
use Rattle.crew_terms.specs.Plan.{Plan}
use Rattle.day_terms.specs.Instances.{plan_of_jobs}
use Rattle.day_terms.specs.State.{DayState}
use Rattle.flight_changes.specs.Kept.{kept}
use Rattle.flight_changes.specs.declared.lists.Lists.TheInside.{Inside}
use Rattle.flight_changes.proofs.NamedJobs.{plan_length}
use Rattle.flight_changes.proofs.PlansSoFar.{IsSoFar, so_far_none, so_far_more, so_far_all}
use Rattle.flight_changes.proofs.lists.Lists.plan_of.Goals as goal

-- as many tasks as entries
counted : (a : Inside) (s : DayState) (n : ℕ) → kept a ≡ s → n ≡ length a.tasks.entries → n ≡ length s.tasks
counted a s n same e = e ∙ sym (length-map a.tasks.entries (λ e. e.1)) ∙ ap (λ s. length s.tasks) same

pub loop-j-init : goal.loop-j-init
loop-j-init c =
    let target = plan_of_jobs c.args.self.now c.args.jobs.now in
    let n = counted c.self.inside c.args.self.now c.len.result c.self.view_is c.len.ensures.len ∙ sym (plan_length c.args.self.now c.args.jobs.now) in
    subst (λ (p : Plan). IsSoFar p target 0) (sym c.in_ok-plan.ensures) (so_far_none target c.len.result n)

pub assign_job-requires : goal.assign_job-requires
assign_job-requires c =
    let n = counted c.self.inside c.args.self.now c.len-j-end.result c.self.view_is c.len-j-end.ensures.len in
    record {
      known = c.requires;
      task = subst (λ n. c.loop-j.j < n) n c.loop-j-test.true;
      whole = c.loop-j.invariant.whole ∙ plan_length c.args.self.now c.args.jobs.now;
      free = c.loop-j.invariant.rest c.loop-j.j (omega arith);
    }

pub loop-j-preserved : goal.loop-j-preserved
loop-j-preserved c =
    let target = plan_of_jobs c.args.self.now c.args.jobs.now in
    let n = counted c.self.inside c.args.self.now c.len-j-end.result c.self.view_is c.len-j-end.ensures.len ∙ sym (plan_length c.args.self.now c.args.jobs.now) in
    let l : c.loop-j.j < length target = subst (λ n. c.loop-j.j < n) n c.loop-j-test.true in
    subst (λ (p : Plan). IsSoFar p target (c.loop-j.j + 1)) (sym c.in_ok-assign_job.ensures) (so_far_more c.loop-j.plan target c.loop-j.j c.loop-j.invariant l)

pub returns : goal.returns
returns c =
    let target = plan_of_jobs c.args.self.now c.args.jobs.now in
    let n = counted c.self.inside c.args.self.now c.len-j-end.result c.self.view_is c.len-j-end.ensures.len ∙ sym (plan_length c.args.self.now c.args.jobs.now) in
    so_far_all c.loop-j.plan target c.loop-j.j c.loop-j.invariant (omega (arith, n))
