-- short names for what the definitions say at length
use Rattle.std.proofs.Common.{ℕ, Bool, List}
use Rattle.std.specs.Prelude.{◌==◌}
use Rattle.std.specs.List.{range_with_len}
use Rattle.share_terms.specs.Shares.{Share}

-- the numbers below n
abbrev pub below : ℕ → List ℕ
below n = range_with_len 0 n

-- the share is of a route of team k
abbrev pub is_of : ℕ → Share → Bool
is_of k s = k == s.route.team
