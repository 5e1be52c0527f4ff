-- the tasks that a team may begin about a minute
use Rattle.std.specs.Prelude.{◌≤◌, ◌<◌, ℕ, List, length, slice_index_or}
use Rattle.label_pricing.specs.Turns.{turn_of}
use Rattle.label_pricing.specs.declared.turns.Turn.{Turn}

-- the team may not begin the task at minute t
abbrev pub IsIdle : Turn → ℕ → Type 0
IsIdle turn t = turn.first ≤ t → t < turn.end → ⊥

abbrev pub near_at : List ℕ → ℕ → ℕ
near_at near i = slice_index_or near i 0

-- task j stands between the first i of the list and the others
pub record IsBetween (near : List ℕ) (i j : ℕ) : Type 0 where
  pub above : (h : ℕ) → h < i → near_at near h < j
  pub below : i < length near → j < near_at near i

-- tasks, rising, with all that the team may begin at minute t
pub record AreNear (turns : List Turn) (t : ℕ) (near : List ℕ) : Type 0 where
  pub known : (i : ℕ) → i < length near → near_at near i < length turns
  pub rising : (h i : ℕ) → h < i → i < length near → near_at near h < near_at near i
  pub all : (i j : ℕ) → i ≤ length near → j < length turns → IsBetween near i j → IsIdle (turn_of turns j) t
