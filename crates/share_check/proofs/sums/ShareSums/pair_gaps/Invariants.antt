use Rattle.std.proofs.Common.{◌≡◌, ◌*◌, pos}
use Rattle.crew_num.specs.Mixed.{IsMixed, value}
use Rattle.crew_terms.specs.Limits.{tasks_in}
use Rattle.crew_terms.specs.Total.{total}
use Rattle.share_terms.specs.Shares.{FractionalChoice, pair_gap}
use Rattle.share_check.specs.Summed.{IsSharesOf}
use Rattle.share_check.proofs.sums.ShareSums.pair_gaps.Given as goal

abbrev pub invariant-loop-k : goal.invariant-loop-k
invariant-loop-k l = IsMixed l.gaps l.fn.whole (pos (1000001 * l.k))
    × ((c : FractionalChoice) → c.whole ≡ l.fn.whole → IsSharesOf l.fn.limits.limits l.fn.whole c.shares l.fn.self → value l.gaps l.fn.whole ≡ total l.k (λ k. total (tasks_in l.fn.limits.limits) (pair_gap l.fn.limits.limits c k)))
