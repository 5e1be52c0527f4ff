-- a team's tasks in order, and their first clash
use Rattle.std.specs.Prelude.{◌≡◌, ◌≤◌, ◌<◌, ℕ, List, length, slice_index, slice_index_or, Contains}
use Rattle.std.specs.Int.{bit_at}
use Rattle.crew_terms.specs.Instance.{Instance}
use Rattle.crew_terms.specs.Plan.{Plan, Does}
use Rattle.crew_terms.specs.Verdict.{IsBefore, IsFirstClash}
use Rattle.crew_terms.specs.declared.PlanVerdict.{PlanVerdict}
use Rattle.crew_terms.specs.declared.PlanVerdict.TheVariants.{Clash}
use Rattle.crew_instance.specs.declared.turns.Turn.{Turn}

-- by start, and then by number
abbrev pub IsInOrder : List Turn → Type 0
IsInOrder turns = (a b : ℕ) (d : Turn) → a < b → b < length turns
    → IsBefore (slice_index_or turns a d).start (slice_index_or turns a d).task (slice_index_or turns b d).start (slice_index_or turns b d).task

-- what team k does of the tasks below n, in order
pub record AreTurns (p : Plan) (k n : ℕ) (turns : List Turn) : Type 0 where
  pub few : length turns ≤ n
  pub order : IsInOrder turns
  pub done : (v : Turn) → Contains turns v → Does p k v.task v.start × (v.task < n)
  pub all : (j t : ℕ) → j < n → Does p k j t → Contains turns (record { start = t; task = j })

-- sets of the teams of the first tasks: who does one of these is in its set
abbrev pub AreTeamSets : Plan → List ℕ → Type 0
AreTeamSets p sets = (k j t : ℕ) → j < length sets → Does p k j t → bit_at (slice_index sets j) k ≡ 1

-- a clash of team k is told, the first
pub record IsClash (i : Instance) (p : Plan) (k : ℕ) (told : PlanVerdict) : Type 0 where
  pub before : ℕ
  pub after : ℕ
  pub first : IsFirstClash i p k before after
  pub is : told ≡ Clash k before after
