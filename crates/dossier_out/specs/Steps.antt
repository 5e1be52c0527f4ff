-- runs of potentials, as they are written minute by minute
use Rattle.std.specs.Prelude.{ℕ, ℤ, List, [], ◌∷◌, map, Option, None, Some, if◌then◌else◌}
use Rattle.std.specs.List.{range_with_len}
use Rattle.std.specs.Ordering.{int_eq}
use Rattle.crew_terms.specs.Limits.{Limits}
use Rattle.crew_terms.specs.Minutes.{first_minute, minute_count, open_tasks}
use Rattle.dossier_terms.specs.Dossier.{Potentials}
use Rattle.dossier_terms.specs.Runs.{Run}
use Rattle.potentials.specs.Table.{PotentialRow, phi}

-- the run that begins at minute t, behind a last number, if there is one
abbrev pub run_at : Option ℤ → ℕ → ℤ → List Run
run_at None t v = record { from = t; value = v } ∷ []
run_at (Some last) t v = if int_eq v last then [] else record { from = t; value = v } ∷ []

-- the last of these numbers, behind a last one
abbrev pub last_behind : Option ℤ → List ℤ → Option ℤ
last_behind last [] = last
last_behind last (v ∷ vs) = last_behind (Some v) vs

-- the table's potentials of task j at so many minutes from the first one on
abbrev pub row_of : List PotentialRow → ℕ → ℕ → ℕ → List ℤ
row_of table j first count = map (phi table j) (range_with_len first count)

-- those of task j at the minutes at which team k may begin it
abbrev pub row_in : Limits → ℕ → List PotentialRow → ℕ → List ℤ
row_in n k table j = row_of table j (first_minute n k j) (minute_count n k j)

-- a worth, and the table's potentials of the tasks that team k may begin
abbrev pub table_in : Limits → ℕ → ℤ → List PotentialRow → Potentials
table_in n k worth table = record { worth = worth; phi = map (row_in n k table) (open_tasks n k) }
