-- the potentials of one team, as they are read task by task
use Rattle.std.specs.Prelude.{◌≡◌, ◌≤◌, ◌<◌, ◌+◌, ℕ, suc, ℤ, Bool, true, List, [], ◌∷◌, length, slice_index_or, Option, None, Some, if◌then◌else◌}
use Rattle.crew_terms.specs.Limits.{Limits, tasks_in}
use Rattle.crew_terms.specs.Minutes.{minute_count}
use Rattle.leaf_check.specs.Keys.{has_minutes, keys_from}

-- the rows of the keys among the numbers from i on, which have a row each
abbrev pub rows_at_keys : (ℕ → Bool) → ℕ → List (List ℤ) → List (List ℤ)
rows_at_keys test i [] = []
rows_at_keys test i (row ∷ rows) = if test i then row ∷ rows_at_keys test (suc i) rows else rows_at_keys test (suc i) rows

-- the first tasks have a row each, with a number for each minute at which team k may begin the task; those of the tasks that it
-- may begin are the rows of potentials that are read
pub record HasRowsBefore (n : Limits) (k : ℕ) (rows phi : List (List ℤ)) : Type 0 where
  pub few : length rows ≤ tasks_in n
  pub minutes : (j : ℕ) → j < length rows → length (slice_index_or rows j []) ≡ minute_count n k j
  pub read : rows_at_keys (has_minutes n k) 0 rows ≡ phi

-- the tasks from a number on that team k may begin
abbrev pub open_from : Limits → ℕ → ℕ → List ℕ
open_from n k from = keys_from (has_minutes n k) (tasks_in n) from

-- the rows go on to the next task that team k may begin, if there is one, and else to the last task
abbrev pub IsRowNext : Limits → ℕ → (old new phi : List (List ℤ)) → Option ℕ → Type 0
IsRowNext n k old new phi None = HasRowsBefore n k new phi × (length new ≡ tasks_in n) × (open_from n k (length old) ≡ [])
IsRowNext n k old new phi (Some j) = HasRowsBefore n k new phi × (length new ≡ j) × (j < tasks_in n) × (has_minutes n k j ≡ true)
    × (open_from n k (length old) ≡ j ∷ open_from n k (suc j))
