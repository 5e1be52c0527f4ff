use Rattle.std.proofs.Common.{◌≡◌, ◌≤◌, take}
use Rattle.std.specs.Prelude.{count_by}
use Rattle.round_changes.specs.Changes.{is_gone}
use Rattle.round_changes.proofs.changes.count_gone.Given as goal

abbrev pub invariant-loop-job : goal.invariant-loop-job
invariant-loop-job l = record {
  few : l.n ≤ l.job-index;
  so_far : l.n ≡ count_by (is_gone l.now.jobs) (take l.job-index l.before.jobs);
}
