use Rattle.std.proofs.Common.{◌≡◌, ◌*◌, pos}
use Rattle.crew_num.specs.Mixed.{IsMixed, value}
use Rattle.crew_terms.specs.Total.{total}
use Rattle.share_terms.specs.Shares.{FractionalChoice, pair_gap, shares_of, weighed_visits}
use Rattle.share_check.specs.CellSums.{AreSums}
use Rattle.share_check.proofs.pairs.team_gaps.Given as goal

abbrev pub invariant-loop-j : goal.invariant-loop-j
invariant-loop-j l = IsMixed l.gaps l.fn.whole (pos (1002 * l.j))
    × ((c : FractionalChoice) → c.whole ≡ l.fn.whole → AreSums l.fn.whole l.fn.sums (weighed_visits (shares_of c.shares l.fn.k)) → value l.gaps l.fn.whole ≡ total l.j (pair_gap l.fn.limits.limits c l.fn.k))
