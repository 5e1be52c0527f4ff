use Rattle.std.proofs.Common.{◌≡◌, ◌-◌, ◌++◌}
use Rattle.day_gen.specs.Day.{task_entries}
use Rattle.day_gen.proofs.days.add_tasks.Given as goal

abbrev pub invariant-loop-j : goal.invariant-loop-j
invariant-loop-j l = l.fn.entries.items ++ task_entries l.fn.generator 0 l.tasks ≡ l.entries.items ++ task_entries l.generator l.j (l.tasks - l.j)
