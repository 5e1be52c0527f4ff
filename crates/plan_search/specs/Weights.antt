-- weights of tasks from their prices
use Rattle.std.specs.Prelude.{ℕ, ℤ, pos, negsuc, ◌+◌, ◌-◌, ◌*◌, ◌/◌}
use Rattle.crew_terms.specs.declared.TheConstants.{D}
use Rattle.plan_search.specs.declared.weights.TheConstants.{WEIGHT_OF_PRICES}

-- what one task is worth to each of so many teams, in 1/D of a task
abbrev pub share_of : ℕ → ℕ
share_of teams = D / teams

-- the weight of a task of so many teams: 1 at the price of the share, and more the lower the price, as at 0 below it
abbrev pub weight_at : ℕ → ℤ → ℕ
weight_at teams (pos price) = 1 + WEIGHT_OF_PRICES * (share_of teams - price) / share_of teams
weight_at teams (negsuc _) = 1 + WEIGHT_OF_PRICES * share_of teams / share_of teams
