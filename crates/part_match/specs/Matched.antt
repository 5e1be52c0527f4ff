-- the tasks of a part among those of the whole
use Rattle.std.specs.Prelude.{◌≡◌, ◌<◌, ℕ, List, length, map, All}
use Rattle.std.specs.List.Sorted.{IsStrictlyIncreasing}
use Rattle.crew_terms.specs.Instance.{Instance, task_of}

-- the tasks of j are those that have these numbers in i, in order
pub record AreNumbers (i j : Instance) (tasks : List ℕ) : Type 0 where
  pub known : All (λ t. t < length i.tasks) tasks
  pub rising : IsStrictlyIncreasing tasks
  pub kept : j.tasks ≡ map (task_of i) tasks
