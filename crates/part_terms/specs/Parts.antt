-- parts of an instance: instances that each have some of its tasks
use Rattle.std.specs.Prelude.{◌≡◌, ◌≢◌, ◌≤◌, ◌<◌, ◌+◌, ℕ, List, length, map, All, AllPairs, flat_map}
use Rattle.std.specs.List.Sorted.{IsStrictlyIncreasing}
use Rattle.crew_terms.specs.Instance.{Instance, task_of, minutes_between}
use Rattle.crew_terms.specs.Plan.{Plan, job_of}

-- a plan, cut down to some of its tasks
abbrev pub cut_down : Plan → List ℕ → Plan
cut_down p tasks = map (job_of p) tasks

-- travel times that are nowhere longer than those of i, and meet the triangle inequality: no way by another place is shorter
pub record AreShorterTimes (i j : Instance) : Type 0 where
  pub shorter : (a b : ℕ) → minutes_between j a b ≤ minutes_between i a b
  pub triangle : (a b c : ℕ) → b < length j.places → minutes_between j a c ≤ minutes_between j a b + minutes_between j b c

-- j has the places and teams of i, of its tasks these, in order and with their frozen jobs, and shorter travel times
pub record Restricts (i j : Instance) (tasks : List ℕ) : Type 0 where
  pub known : All (λ t. t < length i.tasks) tasks
  pub rising : IsStrictlyIncreasing tasks
  pub places : j.places ≡ i.places
  pub teams : j.teams ≡ i.teams
  pub kept : j.tasks ≡ map (task_of i) tasks
  pub frozen : j.frozen ≡ cut_down i.frozen tasks
  pub times : AreShorterTimes i j

-- an instance, with the numbers that its tasks have in the whole
pub record Part : Type 0 where
  pub instance : Instance
  pub tasks : List ℕ

-- each part restricts the instance, and no task is in two of them
pub record AreDisjointParts (i : Instance) (parts : List Part) : Type 0 where
  pub each : All (λ (part : Part). Restricts i part.instance part.tasks) parts
  pub once : AllPairs (λ a b. a ≢ b) (flat_map (λ (part : Part). part.tasks) parts)
