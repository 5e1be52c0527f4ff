-- the local rules of a team, place by place
use Rattle.std.specs.Prelude.{◌≡◌, ◌≤◌, ◌<◌, ◌+◌, ◌≤ℤ◌, ℕ, ℤ, List, slice_get, Some, All, Contains}
use Rattle.crew_terms.specs.Instance.{Instance, task_of, minutes_between}
use Rattle.crew_terms.specs.Limits.{Limits, IsPermittedVisit}
use Rattle.potentials.specs.Ahead.{AllowsFall, AreRising, IsBounded}
use Rattle.potentials.specs.declared.ahead.Ahead.{Ahead}
use Rattle.potentials.specs.declared.records.Record.{Record}
use Rattle.potentials.specs.declared.records.Records.{Records}

-- for each minute at which team k may begin task j there is a fall that is no later, and no higher than the potential there
abbrev pub AreFallsOf : Limits → ℕ → ℕ → (ℕ → ℕ → ℤ) → List Record → Type 0
AreFallsOf n k j phi falls = (t : ℕ) → IsPermittedVisit n k j t → (f : Record) × Contains falls f × (f.minute ≤ t) × (f.potential ≤ℤ phi j t)

-- for each task those
abbrev pub KeepFalls : Limits → ℕ → (ℕ → ℕ → ℤ) → List Records → Type 0
KeepFalls n k phi rows = (j : ℕ) (row : Records) → slice_get rows j ≡ Some row → AreFallsOf n k j phi row.falls.list.items

-- the list of each place rises
abbrev pub AllRise : List Ahead → Type 0
AllRise ahead = (p : ℕ) (place : Ahead) → slice_get ahead p ≡ Some place → AreRising place.list.items

-- the list of a task's place bounds its records
abbrev pub AreBoundedAt : Instance → List Ahead → ℕ → Records → Type 0
AreBoundedAt i ahead h row = (place : Ahead) × (slice_get ahead (task_of i h).place ≡ Some place) × All (IsBounded place.list.items h) row.list.items

-- for each task below m
abbrev pub AreBoundedBelow : Instance → List Ahead → List Records → ℕ → Type 0
AreBoundedBelow i ahead rows m = (h : ℕ) (row : Records) → h < m → slice_get rows h ≡ Some row → AreBoundedAt i ahead h row

-- the minutes from the begin of task j until its team is at place p
abbrev pub away_for : Instance → ℕ → ℕ → ℕ
away_for i j p = (task_of i j).minutes + minutes_between i (task_of i j).place p

-- the rules of a task, from its falls and records and the lists of the places
pub record HoldsByPlace (i : Instance) (j : ℕ) (reward worth : ℤ) (row : Records) (ahead : List Ahead) : Type 0 where
  pub alone : All (λ (f : Record). reward ≤ℤ f.potential) row.falls.list.items
  pub most : All (λ (r : Record). r.potential ≤ℤ worth) row.list.items
  pub steps : (p : ℕ) (place : Ahead) → slice_get ahead p ≡ Some place → All (AllowsFall place.list.items j reward (away_for i j p)) row.falls.list.items
