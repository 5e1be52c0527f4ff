use Rattle.std.proofs.Common.{◌≡◌, map}
use Rattle.std.specs.List.{range_with_len}
use Rattle.round_changes.specs.Named.{task_name}
use Rattle.round_changes.proofs.rounds.note_tasks.Given as goal

abbrev pub invariant-loop-j : goal.invariant-loop-j
invariant-loop-j l = l.names.items ≡ map (task_name l.instance) (range_with_len 0 l.j)
