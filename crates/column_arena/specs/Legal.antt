-- columns that are routes in the limits of a node
use Rattle.std.specs.Prelude.{◌≡◌, ◌<◌, ℕ, Bool, true, false, List, length, slice_index_or}
use Rattle.crew_terms.specs.Limits.{Limits, Route}
use Rattle.share_terms.specs.Shares.{IsRouteIn}
use Rattle.column_arena.specs.Columns.{column_of}

-- the column with this number is a route in the node
pub record IsLegalColumn (n : Limits) (cs : List Route) (id : ℕ) : Type 0 where
  pub known : id < length cs
  pub route : IsRouteIn n (column_of cs id)

-- a mark for each column, true of none that is a route in the node
pub record AreRuledOut (n : Limits) (cs : List Route) (marks : List Bool) : Type 0 where
  pub each : length marks ≡ length cs
  pub out : (id : ℕ) → slice_index_or marks id false ≡ true → IsLegalColumn n cs id → ⊥
