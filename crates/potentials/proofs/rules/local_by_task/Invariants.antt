use Rattle.std.proofs.Common.{◌≡◌, length}
use Rattle.crew_terms.specs.Limits.{tasks_in}
use Rattle.crew_terms.specs.Leaf.{earned}
use Rattle.potentials.specs.Rules.{HoldBelow, KeepRecords}
use Rattle.potentials.specs.Table.{phi}
use Rattle.potentials.proofs.rules.local_by_task.Given as goal

abbrev pub invariant-loop-task : goal.invariant-loop-task
invariant-loop-task l = record {
  count : length l.room.records.items ≡ tasks_in l.limits.limits;
  records : KeepRecords l.limits.limits l.k (phi l.table) l.room.records.items;
  rules : HoldBelow l.limits.limits l.k (earned l.prices l.k) (phi l.table) l.task;
}
