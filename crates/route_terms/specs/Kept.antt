-- which routes of a pool are kept in the limits of another instance
use Rattle.std.specs.Prelude.{◌≡◌, List, [], ◌∷◌, map}
use Rattle.crew_terms.specs.Instance.{Instance}
use Rattle.crew_terms.specs.Limits.{Limits, Route, IsRoute, root_limits}
use Rattle.route_terms.specs.Named.{NamedRoute, IsOfInstance, by_names}

-- the route with these names, whose team and tasks exist and whose visits are a route in the limits
pub record IsKeptAs (n : Limits) (named : NamedRoute) (r : Route) : Type 0 where
  pub exists : IsOfInstance n.instance r
  pub names : by_names n.instance r ≡ named
  pub route : IsRoute n r.team r.visits

-- of routes by names those that are routes in the limits, in order and by the numbers there
pub data AreKeptIn (n : Limits) : List NamedRoute → List Route → Type 0 where
  None : AreKeptIn n [] []
  Kept : {carried : List NamedRoute} {kept : List Route} (named : NamedRoute) (r : Route) (is : IsKeptAs n named r)
      (rest : AreKeptIn n carried kept) → AreKeptIn n (named ∷ carried) (r ∷ kept)
  Left : {carried : List NamedRoute} {kept : List Route} (named : NamedRoute) (none : (r : Route) → IsKeptAs n named r → ⊥)
      (rest : AreKeptIn n carried kept) → AreKeptIn n (named ∷ carried) kept

-- the routes of a pool of the instance i that a round with the instance j keeps: those whose names exist in j and which are
-- routes at its root
abbrev pub AreKeptRoutes : Instance → List Route → Instance → List Route → Type 0
AreKeptRoutes i pool j kept = AreKeptIn (root_limits j) (map (by_names i) pool) kept
