use Rattle.std.proofs.Common.{◌≡◌, ◌<◌, ℕ, false}
use Rattle.std.specs.Str.{bytes_eq}
use Rattle.crew_terms.specs.Instance.{task_of}
use Rattle.delay_command.proofs.tasks.task_named.Given as goal

abbrev pub invariant-loop-j : goal.invariant-loop-j
invariant-loop-j l = (k : ℕ) → k < l.j → bytes_eq (task_of l.instance k).name l.name ≡ false
