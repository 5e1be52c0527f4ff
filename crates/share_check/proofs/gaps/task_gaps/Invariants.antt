use Rattle.std.proofs.Common.{◌≡◌, ◌*◌, pos}
use Rattle.crew_num.specs.Mixed.{IsMixed, value}
use Rattle.crew_terms.specs.Total.{total}
use Rattle.share_terms.specs.Shares.{FractionalChoice, task_gap, weighed_visits}
use Rattle.share_check.specs.CellSums.{AreSums}
use Rattle.share_check.proofs.gaps.task_gaps.Given as goal

abbrev pub invariant-loop-j : goal.invariant-loop-j
invariant-loop-j l = IsMixed l.gaps l.fn.whole (pos (1002 * l.j))
    × ((c : FractionalChoice) → c.whole ≡ l.fn.whole → c.unassigned ≡ l.fn.spare → AreSums l.fn.whole l.fn.sums (weighed_visits c.shares) → value l.gaps l.fn.whole ≡ total l.j (task_gap l.fn.limits.limits c))
