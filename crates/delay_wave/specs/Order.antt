-- the assigned tasks of a plan in a list
use Rattle.std.specs.Prelude.{◌≡◌, ◌≢◌, ◌≤◌, ◌<◌, ℕ, List, Option, Some, length, slice_index_or, All, AllPairs, Contains}
use Rattle.std.specs.Option.{option_map}
use Rattle.crew_terms.specs.Plan.{Plan, Job, job_of}
use Rattle.crew_instance.specs.declared.turns.Turn.{Turn}

-- when task j is to begin, if it is assigned
abbrev pub planned_start : Plan → ℕ → Option ℕ
planned_start p j = option_map (λ job. job.start) (job_of p j)

-- the task is to begin then
abbrev pub IsPlanned : Plan → Turn → Type 0
IsPlanned p v = planned_start p v.task ≡ Some v.start

-- the assigned tasks below n, by number
pub record AreAssigned (p : Plan) (n : ℕ) (turns : List Turn) : Type 0 where
  pub few : length turns ≤ n
  pub planned : All (IsPlanned p) turns
  pub below : All (λ v. v.task < n) turns
  pub all : (j t : ℕ) → j < n → planned_start p j ≡ Some t → Contains turns (record { start = t; task = j })
  pub apart : AllPairs (λ (v w : Turn). v.task ≢ w.task) turns

-- a blank turn, where there is none
abbrev pub no_turn : Turn
no_turn = record { start = 0; task = 0 }

-- the turn at place a
abbrev pub turn_at : List Turn → ℕ → Turn
turn_at turns a = slice_index_or turns a no_turn

-- the assigned tasks, each once, by planned start
pub record AreInOrder (p : Plan) (turns : List Turn) : Type 0 where
  pub few : length turns ≤ length p
  pub planned : (a : ℕ) → a < length turns → IsPlanned p (turn_at turns a)
  pub all : (j t : ℕ) → planned_start p j ≡ Some t → (a : ℕ) × (a < length turns) × (turn_at turns a ≡ record { start = t; task = j })
  pub rising : (a b : ℕ) → a ≤ b → b < length turns → (turn_at turns a).start ≤ (turn_at turns b).start
  pub apart : (a b : ℕ) → a < b → b < length turns → (turn_at turns a).task ≢ (turn_at turns b).task
