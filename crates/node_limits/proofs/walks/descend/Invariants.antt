use Rattle.std.proofs.Common.{◌≡◌, ◌≤◌, ◌+◌, drop, length}
use Rattle.node_limits.specs.Walks.{CanBranch, walked}
use Rattle.node_limits.proofs.walks.descend.Given as goal

abbrev pub invariant-loop-branch : goal.invariant-loop-branch
invariant-loop-branch l = (walked l.limits (drop l.branch-index l.branches) ≡ walked l.fn.limits l.branches)
    × CanBranch l.limits.limits (drop l.branch-index l.branches)
    × (length l.branches ≤ l.limits.spare + l.branch-index)
