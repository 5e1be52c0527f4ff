-- lists of columns: routes that were found, each of them once
use Rattle.std.specs.Prelude.{◌≡◌, ◌≢◌, ◌<◌, ◌↔◌, ℕ, List, [], ◌∷◌, ◌++◌, length, slice_index_or, All, AllPairs, Any, Contains}
use Rattle.std.specs.List.Sorted.{IsStrictlyIncreasing}
use Rattle.crew_terms.specs.declared.TheConstants.{MOST_TEAMS, MOST_TASKS}
use Rattle.crew_terms.specs.declared.Visit.{Visit}
use Rattle.crew_terms.specs.Limits.{Route}
use Rattle.route_terms.specs.Routes.{IsNew, route_of}

-- a blank column, where there is none
abbrev pub no_column : Route
no_column = route_of 0 []

-- the column with the number id
abbrev pub column_of : List Route → ℕ → Route
column_of cs id = slice_index_or cs id no_column

-- what may be a column: it has some visit, and its numbers are those of teams and tasks
pub record FitsColumns (c : Route) : Type 0 where
  pub team : c.team < MOST_TEAMS
  pub some : 0 < length c.visits
  pub tasks : All (λ (v : Visit). v.task < MOST_TASKS) c.visits

-- columns, none of them twice
pub record AreColumns (cs : List Route) : Type 0 where
  pub each : All FitsColumns cs
  pub apart : AllPairs (λ a b. a ≢ b) cs

-- the number of a column that is to be added, and the columns after it: an equal one stands there, or it stands last
pub data IsAdded (old : List Route) (c : Route) (id : ℕ) (new : List Route) : Type 0 where
  Stood : (known : id < length old) (equal : column_of old id ≡ c) (same : new ≡ old) → IsAdded old c id new
  Last : (fresh : IsNew old c) (number : id ≡ length old) (last : new ≡ old ++ c ∷ []) → IsAdded old c id new

-- the column with this number is of team k, and visits task j
pub record IsUsing (cs : List Route) (k j id : ℕ) : Type 0 where
  pub known : id < length cs
  pub team : (column_of cs id).team ≡ k
  pub visits : Any (λ (v : Visit). v.task ≡ j) (column_of cs id).visits

-- exactly the numbers that have the property, rising
pub record AreNumbersWith (Has : ℕ → Type 0) (ids : List ℕ) : Type 0 where
  pub rising : IsStrictlyIncreasing ids
  pub each : (id : ℕ) → Contains ids id ↔ Has id
