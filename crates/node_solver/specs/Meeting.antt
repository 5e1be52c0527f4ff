-- when the columns of a team earn what it can earn
use Rattle.std.specs.Prelude.{◌≡◌, ◌<◌, ℕ, ℤ, pos, ◌≤ℤ◌, List, Contains}
use Rattle.crew_terms.specs.Limits.{Limits, Route}
use Rattle.crew_terms.specs.Leaf.{earned, Prices, rewards, worth_of}
use Rattle.share_terms.specs.Shares.{IsRouteIn}

-- the team can earn nothing, or a column of it that is a route in the node earns so much
pub data IsMet (n : Limits) (columns : List Route) (k : ℕ) (prices : Prices) (worth : ℤ) : Type 0 where
  Idle : (none : worth ≤ℤ pos 0) → IsMet n columns k prices worth
  Earned : (r : Route) (held : Contains columns r) (legal : IsRouteIn n r) (team : r.team ≡ k)
      (enough : worth ≤ℤ rewards (earned prices k) r.visits) → IsMet n columns k prices worth

-- so do those of the first m teams
abbrev pub AreMet : Limits → List Route → Prices → List ℤ → ℕ → Type 0
AreMet n columns prices worths m = (k : ℕ) → k < m → IsMet n columns k prices (worth_of worths k)
