-- routes that may be added to the columns held
use Rattle.std.specs.Prelude.{◌≢◌, List, All, AllPairs}
use Rattle.crew_terms.specs.Limits.{Limits, Route}
use Rattle.route_terms.specs.Routes.{IsNew}
use Rattle.search_terms.specs.Search.{IsColumn}

-- routes of the node with some visit, none of them held, and none twice
pub record AreFresh (n : Limits) (held routes : List Route) : Type 0 where
  pub columns : All (IsColumn n) routes
  pub fresh : All (IsNew held) routes
  pub apart : AllPairs (λ (a b : Route). a ≢ b) routes
