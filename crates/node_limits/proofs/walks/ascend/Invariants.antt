use Rattle.std.proofs.Common.{◌≡◌, ◌+◌, ◌-◌, List, length, take}
use Rattle.node_limits.specs.Trail.{Trail}
use Rattle.node_limits.specs.declared.walks.Branch.{Branch}
use Rattle.node_limits.specs.Walks.{IsBack, walked}
use Rattle.node_limits.proofs.walks.ascend.Given as goal

abbrev pub invariant-loop : goal.invariant-loop
invariant-loop l = (length l.limits.past + l.counter ≡ length l.fn.limits.past)
    × ((from : Trail) (path : List Branch) → length path ≡ l.branches → IsBack l.fn.limits (walked from path)
    → IsBack l.limits (walked from (take (l.branches - l.counter) path)))
