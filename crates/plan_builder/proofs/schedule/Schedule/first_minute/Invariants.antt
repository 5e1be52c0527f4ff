use Rattle.std.proofs.Common.{ℕ, ◌≤◌, ◌<◌}
use Rattle.crew_terms.specs.Instance.{task_of}
use Rattle.plan_builder.proofs.Filled.{IsShort}
use Rattle.plan_builder.proofs.schedule.Schedule.first_minute.Given as goal

abbrev pub invariant-loop-t : goal.invariant-loop-t
invariant-loop-t l = (u : ℕ) → (task_of l.self.instance l.j).earliest ≤ u → u < l.t → IsShort l.self l.j u
