-- columns that are carried by names from one instance to another
use Rattle.std.specs.Prelude.{◌≡◌, ◌≢◌, ◌<◌, ℕ, List, length, map, All, AllPairs}
use Rattle.crew_terms.specs.Limits.{Route}
use Rattle.crew_terms.specs.declared.Visit.{Visit}
use Rattle.route_terms.specs.Named.{name_of, route_named, visit_named}

-- the names of one kind in an instance, and in another
pub record TwoNames : Type 0 where
  pub old : List (List ℕ)
  pub new : List (List ℕ)

-- the new number j has the name of the old number k
pub record IsRenumbered (names : TwoNames) (k j : ℕ) : Type 0 where
  pub known : j < length names.new
  pub name : name_of names.new j ≡ name_of names.old k

-- the visits are to tasks of the new names
abbrev pub AreKnown : TwoNames → List Visit → Type 0
AreKnown names vs = All (λ (v : Visit). v.task < length names.new) vs

-- visits by the new numbers to the tasks that had these names, at the same minutes
pub record AreRenumbered (names : TwoNames) (visits vs : List Visit) : Type 0 where
  pub known : AreKnown names vs
  pub named : map (visit_named names.new) vs ≡ map (visit_named names.old) visits

-- a route of teams and tasks with these names
pub record IsNamedBy (teams tasks : List (List ℕ)) (r : Route) : Type 0 where
  pub team : r.team < length teams
  pub some : 0 < length r.visits
  pub tasks_known : All (λ (v : Visit). v.task < length tasks) r.visits

-- routes of teams and tasks with these names, which differ by them
pub record AreCarried (teams tasks : List (List ℕ)) (routes : List Route) : Type 0 where
  pub each : All (IsNamedBy teams tasks) routes
  pub apart : AllPairs (λ a b. a ≢ b) (map (route_named teams tasks) routes)
