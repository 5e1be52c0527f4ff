use Rattle.std.proofs.Common.{◌≡◌, map}
use Rattle.std.specs.List.{range_with_len}
use Rattle.team_days.specs.Obstacles.{obstacle_of}
use Rattle.why_not.proofs.days.Days.row.Given as goal

abbrev pub invariant-loop-k : goal.invariant-loop-k
invariant-loop-k l = l.row.items ≡ map (λ k. obstacle_of l.self.instance l.self.plan k l.j l.t) (range_with_len 0 l.k)
