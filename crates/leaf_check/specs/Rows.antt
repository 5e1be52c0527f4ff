-- the potentials that a reader keeps
use Rattle.std.specs.Prelude.{◌≤◌, ◌<◌, ◌+◌, ℕ, List, length}
use Rattle.crew_terms.specs.Instance.{Instance, task_of}
use Rattle.potentials.specs.Table.{PotentialRow, IsTableOf}

-- the table has a potential of task j at each of so many minutes from the first on
pub record HasRoomAt (kept : List PotentialRow) (j first count : ℕ) : Type 0 where
  pub instance : Instance
  pub table : IsTableOf instance kept
  pub known : j < length instance.tasks
  pub early : (task_of instance j).earliest ≤ first
  pub late : first + count ≤ (task_of instance j).latest + 1

-- it is still a table of each instance that it was one of
abbrev pub KeepsTable : List PotentialRow → List PotentialRow → Type 0
KeepsTable old new = (instance : Instance) → IsTableOf instance old → IsTableOf instance new
