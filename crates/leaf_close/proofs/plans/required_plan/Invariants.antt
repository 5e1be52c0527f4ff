use Rattle.std.proofs.Common.{◌≡◌, ◌≤◌, ◌<◌, ℕ, None, length}
use Rattle.crew_terms.specs.Limits.{tasks_in}
use Rattle.crew_terms.specs.Plan.{job_of}
use Rattle.search_terms.specs.Closing.{required_job}
use Rattle.leaf_close.proofs.plans.required_plan.Given as goal

abbrev pub invariant-loop-j : goal.invariant-loop-j
invariant-loop-j l = record {
  whole : length l.plan ≡ tasks_in l.limits.limits;
  done : (h : ℕ) → h < l.j → job_of l.plan h ≡ required_job l.limits.limits h;
  none : (h : ℕ) → l.j ≤ h → job_of l.plan h ≡ None;
}
