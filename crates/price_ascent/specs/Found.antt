-- routes that an ascent has found, and how they use teams
use Rattle.std.specs.Prelude.{◌<◌}
use Rattle.crew_terms.specs.Limits.{Limits, IsRoute, teams_in}
use Rattle.price_ascent.specs.declared.trail.FoundRoute.{FoundRoute}

-- a route of its team in the node
pub record IsFound (n : Limits) (route : FoundRoute) : Type 0 where
  pub team_known : route.team < teams_in n
  pub is_route : IsRoute n route.team route.visits.items
