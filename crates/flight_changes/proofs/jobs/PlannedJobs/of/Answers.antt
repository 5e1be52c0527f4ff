use Rattle.std.proofs.Common.{◌≡◌, ◌+◌, ◌++◌, arith, sym, ap, ◌∙◌}
use Rattle.crew_terms.specs.declared.TheConstants.{LAST_MINUTE}
use Rattle.flight_changes.specs.Named.{jobs_at}
use Rattle.flight_changes.proofs.ByPlace.{each_more}
use Rattle.flight_changes.proofs.NamedJobs.{all_minutes}
use Rattle.flight_changes.proofs.jobs.PlannedJobs.of.Goals as goal

pub loop-minute-preserved : goal.loop-minute-preserved
loop-minute-preserved c =
    let at = jobs_at c.args.instance.now c.args.plan.now in
    c.in_ok-add_jobs_at.ensures ∙ ap (λ jobs. jobs ++ at c.loop-minute.minute) c.loop-minute.invariant ∙ sym (each_more at c.loop-minute.minute)

pub returns : goal.returns
returns c =
    let end : c.loop-minute.minute ≡ LAST_MINUTE + 1 = omega arith in
    all_minutes c.args.instance.now c.args.plan.now c.loop-minute.minute c.loop-minute.jobs.items end c.loop-minute.invariant
