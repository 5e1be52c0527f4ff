-- what is told of a route that is to be added to a pool, and the pool after it
use Rattle.std.specs.Prelude.{◌≡◌, List, [], ◌∷◌, ◌++◌, Contains}
use Rattle.crew_terms.specs.Limits.{Limits, IsRoute, Route}
use Rattle.route_terms.specs.Routes.{IsNew}
use Rattle.route_pool.specs.declared.pool.PoolVerdict.{PoolVerdict}
use Rattle.route_pool.specs.declared.pool.PoolVerdict.TheVariants.{Added, NotRoute, Repeated}

-- added where it is a route of its team and new, or else the first of the two that fails
abbrev pub IsPoolVerdict : Limits → List Route → Route → PoolVerdict → Type 0
IsPoolVerdict n pool r Added = IsRoute n r.team r.visits × IsNew pool r
IsPoolVerdict n pool r NotRoute = IsRoute n r.team r.visits → ⊥
IsPoolVerdict n pool r Repeated = IsRoute n r.team r.visits × Contains pool r

-- the pool has the route last where it was added, and else is as before
abbrev pub pool_after : List Route → Route → List Route → PoolVerdict → Type 0
pool_after old r new Added = new ≡ old ++ r ∷ []
pool_after old r new NotRoute = new ≡ old
pool_after old r new Repeated = new ≡ old
