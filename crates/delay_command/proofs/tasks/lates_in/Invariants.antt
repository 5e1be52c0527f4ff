use Rattle.std.proofs.Common.{◌≡◌, take}
use Rattle.std.specs.List.{All}
use Rattle.delay_command.specs.Tasks.{IsDone, lates_in}
use Rattle.delay_command.proofs.tasks.lates_in.Given as goal

abbrev pub invariant-loop-n : goal.invariant-loop-n
invariant-loop-n l = record {
  done : All (IsDone l.instance l.plan) (take l.n l.lines);
  told : l.lates.items ≡ lates_in l.instance (take l.n l.lines);
}
