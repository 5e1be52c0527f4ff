-- a division of tasks into lists
use Rattle.std.specs.Prelude.{◌≡◌, ◌≢◌, ◌≤◌, ◌<◌, ℕ, List, [], length, slice_index, slice_index_or, All, AllPairs, Contains, flat_map}
use Rattle.std.specs.List.Sorted.{IsStrictlyIncreasing}
use Rattle.crew_terms.specs.Minutes.{IsListOf}

-- the tasks of all lists
abbrev pub all_tasks : List (List ℕ) → List ℕ
all_tasks parts = flat_map (λ part. part) parts

-- each of so many tasks stands in one of the lists, once, and each list rises
pub record IsDivision (tasks : ℕ) (parts : List (List ℕ)) : Type 0 where
  pub rising : All IsStrictlyIncreasing parts
  pub once : AllPairs (λ a b. a ≢ b) (all_tasks parts)
  pub known : (t : ℕ) → Contains (all_tasks parts) t → t < tasks
  pub whole : (t : ℕ) → t < tasks → Contains (all_tasks parts) t

-- the part of each of so many tasks, up to the last
pub record AreNumbers (tasks last : ℕ) (numbers : List ℕ) : Type 0 where
  pub count : length numbers ≡ tasks
  pub known : All (λ k. k ≤ last) numbers

-- task t is one of part k
abbrev pub HasNumber : List ℕ → ℕ → ℕ → Type 0
HasNumber numbers k t = (t < length numbers) × (slice_index numbers t ≡ k)

-- the tasks of each of so many parts
pub record AreLists (numbers : List ℕ) (parts : ℕ) (lists : List (List ℕ)) : Type 0 where
  pub count : length lists ≡ parts
  pub each : (k : ℕ) → k < parts → IsListOf (HasNumber numbers k) (slice_index_or lists k [])
