use Rattle.std.proofs.Common.{◌≤◌, ◌<◌, ℕ, List}
use Rattle.crew_terms.specs.Limits.{Limits}
use Rattle.share_terms.specs.Shares.{Share, parts_of, shares_of}
use Rattle.share_check.specs.Summed.{IsSharesOf}
use Rattle.share_check.proofs.sums.ShareSums.teams_fit.Given as goal

abbrev pub invariant-loop-k : goal.invariant-loop-k
invariant-loop-k l = (n : Limits) (shares : List Share) → IsSharesOf n l.fn.whole shares l.fn.self → (k : ℕ) → k < l.k → parts_of (shares_of shares k) ≤ l.fn.whole
