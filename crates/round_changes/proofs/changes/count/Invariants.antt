use Rattle.std.proofs.Common.{◌≡◌, ◌≤◌, take}
use Rattle.std.specs.Prelude.{count_by}
use Rattle.round_changes.specs.Named.{JobByNames}
use Rattle.round_changes.specs.Changes.{change_of, is_same}
use Rattle.round_changes.proofs.changes.count.Given as goal

abbrev pub invariant-loop-job : goal.invariant-loop-job
invariant-loop-job l = record {
  few : l.n ≤ l.job-index;
  so_far : l.n ≡ count_by (λ (job : JobByNames). is_same (change_of l.before.jobs job) l.change) (take l.job-index l.now.jobs);
}
