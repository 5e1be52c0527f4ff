-- routes, and lists of them
use Rattle.std.specs.Prelude.{◌≢◌, ℕ, List, All}
use Rattle.crew_terms.specs.Limits.{Route}
use Rattle.crew_terms.specs.declared.Visit.{Visit}

-- the route of team k with these visits
abbrev pub route_of : ℕ → List Visit → Route
route_of k visits = record { team = k; visits = visits }

-- no route of the list equals this one
abbrev pub IsNew : List Route → Route → Type 0
IsNew routes r = All (λ (o : Route). o ≢ r) routes
