-- the local rules of a team by minute prices, from the potentials at its visits
use Rattle.std.specs.Prelude.{◌≡◌, ◌≢◌, ◌≤◌, ◌<◌, ◌+◌, ◌-◌, ◌+ℤ◌, ◌≤ℤ◌, ℕ, ℤ, pos, List, [], length, slice_index_or, slice_get, Some, min}
use Rattle.crew_terms.specs.Instance.{Instance, task_of}
use Rattle.crew_terms.specs.Limits.{Limits, tasks_in}
use Rattle.crew_terms.specs.declared.Task.{Task}
use Rattle.crew_terms.specs.declared.TheConstants.{LAST_MINUTE}
use Rattle.crew_terms.specs.Minutes.{first_minute, minute_count}
use Rattle.potentials.specs.Rules.{AreVisits, ready_at}
use Rattle.squeeze_terms.specs.MinutePrices.{price_place}
use Rattle.minute_rules.specs.Ahead.{AreMostFrom}
use Rattle.minute_rules.specs.declared.ahead.Ahead.{Ahead}
use Rattle.minute_rules.specs.declared.rules.RuleRoom.{RuleRoom}

-- there is room for each task
abbrev pub HasRuleRoom : Instance → RuleRoom → Type 0
HasRuleRoom i room = length room.ahead.items ≡ length i.tasks

-- a row for each task, with a potential for each minute at which team k may begin it
pub record AreTeamRows (n : Limits) (k : ℕ) (rows : List (List ℤ)) : Type 0 where
  pub count : length rows ≡ tasks_in n
  pub minutes : (j : ℕ) → j < tasks_in n → length (slice_index_or rows j []) ≡ minute_count n k j

-- the potential of task j at minute t by the rows of team k
abbrev pub phi_by : Limits → ℕ → List (List ℤ) → ℕ → ℕ → ℤ
phi_by n k rows j t = slice_index_or (slice_index_or rows j []) (t - first_minute n k j) (pos 0)

-- what the team can still earn from task j at each minute or later
abbrev pub IsAheadOf : Limits → ℕ → (ℕ → ℕ → ℤ) → ℕ → Ahead → Type 0
IsAheadOf n k phi j ahead = (first : ℕ) × (potentials : List ℤ) × AreVisits n k j phi first potentials
    × (first + length potentials ≤ LAST_MINUTE + 1) × AreMostFrom first potentials ahead.most.items

-- for each task below m
abbrev pub AreAheadBelow : Limits → ℕ → (ℕ → ℕ → ℤ) → List Ahead → ℕ → Type 0
AreAheadBelow n k phi rows m = (j : ℕ) (row : Ahead) → j < m → slice_get rows j ≡ Some row → IsAheadOf n k phi j row

-- what a visit to a task at place a of its potentials earns, where the first is that of minute `first`
abbrev pub reward_at : Task → List ℤ → ℕ → ℕ → ℤ
reward_at task prices first a = slice_index_or prices (price_place task (first + a)) (pos 0)

-- each potential is at least the reward of its visit
abbrev pub CoversRewards : Task → List ℤ → ℕ → List ℤ → Type 0
CoversRewards task prices first potentials = (a : ℕ) → a < length potentials → reward_at task prices first a ≤ℤ slice_index_or potentials a (pos 0)

-- the most that can be earned from task h on, after a visit to task j at minute t
abbrev pub most_after : Instance → ℕ → ℕ → List ℤ → ℕ → ℤ
most_after i j h most t = slice_index_or most (min (ready_at i j t h) (LAST_MINUTE + 1)) (pos 0)

-- the potential at place a is at least the reward and what can be earned from task h on
abbrev pub CoversAfter : Instance → ℕ → List ℤ → ℕ → List ℤ → ℕ → List ℤ → ℕ → Type 0
CoversAfter i j prices first potentials h most a = (reward_at (task_of i j) prices first a +ℤ most_after i j h most (first + a)) ≤ℤ slice_index_or potentials a (pos 0)

-- so is each, where h is another task
abbrev pub CoversNext : Instance → ℕ → List ℤ → ℕ → List ℤ → ℕ → List ℤ → Type 0
CoversNext i j prices first potentials h most = h ≢ j → (a : ℕ) → a < length potentials → CoversAfter i j prices first potentials h most a
