-- the numbers of a route in the opening rows, and in the rows that it enters
use Rattle.std.specs.Prelude.{◌≡◌, ℕ, ℤ, List, [], ◌∷◌, ◌++◌, map}
use Rattle.crew_terms.specs.declared.Visit.{Visit}
use Rattle.search_terms.specs.declared.Place.{Place}
use Rattle.search_terms.specs.Opening.{basics, cost_sum, opening_basis, visit_number}
use Rattle.crew_terms.specs.Limits.{Route}

abbrev pub route_of : ℕ → List Visit → Route
route_of team visits = record { team = team; visits = visits }

-- the places of the opening rows' basic variables, and the route's numbers in these rows, in their order
pub record IsColumn (ps : List Place) (r : Route) (at : List ℕ) (numbers : List ℤ) : Type 0 where
  pub basis : at ≡ opening_basis ps
  pub each : numbers ≡ map (visit_number r) (basics ps) ++ cost_sum ps (visit_number r) ∷ []
