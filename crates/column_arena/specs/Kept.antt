-- what the fields of kept columns stand for
use Rattle.std.specs.Prelude.{◌<◌, ℕ, List}
use Rattle.crew_terms.specs.declared.TheConstants.{MOST_TEAMS, MOST_TASKS}
use Rattle.crew_terms.specs.Limits.{Route}
use Rattle.column_arena.specs.Columns.{AreColumns, AreNumbersWith, IsUsing}
use Rattle.column_arena.specs.Uses.{Held, held_at, place}

-- columns, and a table with the numbers of those of each team that visit each task
pub record AreKept (cs : List Route) (table : List Held) : Type 0 where
  pub columns : AreColumns cs
  pub uses : (k j : ℕ) → k < MOST_TEAMS → j < MOST_TASKS → AreNumbersWith (IsUsing cs k j) (held_at table (place k j)).ids
