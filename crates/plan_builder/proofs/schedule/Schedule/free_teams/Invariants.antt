use Rattle.std.proofs.Common.{◌≤◌, length}
use Rattle.team_days.specs.Free.{IsFreeFor}
use Rattle.plan_builder.proofs.Listed.{AreBelow}
use Rattle.plan_builder.proofs.schedule.Schedule.free_teams.Given as goal

abbrev pub invariant-loop-k : goal.invariant-loop-k
invariant-loop-k l = (length l.free.items ≤ l.k) × AreBelow (λ k. IsFreeFor l.self.instance l.self.plan k l.j l.t) l.k l.free.items
