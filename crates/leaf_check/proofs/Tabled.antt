-- potentials that are set one by one
use Rattle.std.proofs.Common.{◌≡◌, ◌<◌, ◌≤◌, ◌+◌, ◌-◌, ℕ, ℤ, List, length, get_or, arith}
use Rattle.std.specs.Prelude.{◌≢◌, pos}
use Rattle.crew_terms.specs.Instance.{Instance, task_of}
use Rattle.std.specs.List.{flat_map}
use Rattle.potentials.specs.Table.{PotentialRow, IsTableOf, CoversMinute, phi}
use Rattle.dossier_terms.specs.Runs.{Run, AreRuns, values_of}
use Rattle.line_in.specs.Fields.{run_numbers}
use Rattle.leaf_check.specs.Runs.{begin_of_run}

pub record RowGiven (old new : List PotentialRow) (j first m : ℕ) (given : List ℤ) : Type 0 where
  pub set : (i : ℕ) → i < m → phi new j (first + i) ≡ get_or given i (pos 0)
  pub others : (h t : ℕ) → h ≢ j → phi new h t ≡ phi old h t
  pub table : (i : Instance) → IsTableOf i old → IsTableOf i new

-- the first n runs are set
pub record RunsGiven (old new : List PotentialRow) (j past n : ℕ) (pairs : List ℤ) : Type 0 where
  pub set : (runs : List Run) (first : ℕ) → pairs ≡ flat_map run_numbers runs → AreRuns first past runs → first < past
      → (t : ℕ) → first ≤ t → t < begin_of_run past runs n → phi new j t ≡ get_or (values_of past runs) (t - first) (pos 0)
  pub others : (h t : ℕ) → h ≢ j → phi new h t ≡ phi old h t
  pub table : (i : Instance) → IsTableOf i old → IsTableOf i new

-- each minute of the room has a potential
pub covers : (i : Instance) (kept : List PotentialRow) (j first count t : ℕ) → IsTableOf i kept → j < length i.tasks → (task_of i j).earliest ≤ first → first + count ≤ (task_of i j).latest + 1
    → first ≤ t → t < first + count → CoversMinute kept j t
covers i kept j first count t table known early late from until =
    let a = table.first j known in
    let b = table.minutes j known in
    record { early = omega arith; late = omega arith }
