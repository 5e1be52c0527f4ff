-- columns that a search may add to
use Rattle.std.specs.Prelude.{◌≡◌, ◌++◌, List}
use Rattle.crew_terms.specs.Limits.{Route}

-- the columns are as before, and those that were added stand behind them
pub record IsGrown (old new : List Route) : Type 0 where
  pub added : List Route
  pub all : new ≡ old ++ added
