use Rattle.std.proofs.Common.{◌≡◌, map, take}
use Rattle.crew_terms.specs.declared.Task.{Task}
use Rattle.column_arena.proofs.names.task_names.Given as goal

abbrev pub invariant-loop-j : goal.invariant-loop-j
invariant-loop-j l = l.names.items ≡ map (λ (t : Task). t.name) (take l.j l.instance.tasks)
