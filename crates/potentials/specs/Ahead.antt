-- what a team can earn at a place from a minute on
use Rattle.std.specs.Prelude.{◌≡◌, ◌≢◌, ◌≤◌, ◌<◌, ◌+◌, ◌+ℤ◌, ◌≤ℤ◌, ℕ, ℤ, List, slice_get, Some}
use Rattle.potentials.specs.declared.ahead.Best.{Best}
use Rattle.potentials.specs.declared.records.Record.{Record}

-- a visit of task h with this potential is none of a better one: it is at most the best one, where that is of task h itself, and
-- at most the best one of another task, where it is not
pub record Bounds (best : Best) (h : ℕ) (potential : ℤ) : Type 0 where
  pub own : h ≡ best.task → potential ≤ℤ best.potential
  pub other : h ≢ best.task → potential ≤ℤ best.second

-- an entry of an earlier minute, which bounds all that the later one bounds
pub record Rises (later earlier : Best) : Type 0 where
  pub minute : earlier.minute < later.minute
  pub keeps : (h : ℕ) (potential : ℤ) → Bounds later h potential → Bounds earlier h potential

-- each entry is of an earlier minute than the one before it, and bounds all that it bounds
abbrev pub AreRising : List Best → Type 0
AreRising list = (i : ℕ) (later earlier : Best) → slice_get list i ≡ Some later → slice_get list (i + 1) ≡ Some earlier → Rises later earlier

-- an entry of no earlier minute bounds the record of task h
abbrev pub IsBounded : List Best → ℕ → Record → Type 0
IsBounded list h r = (i : ℕ) × (best : Best) × (slice_get list i ≡ Some best) × (r.minute ≤ best.minute) × Bounds best h r.potential

-- a potential of task j is at least the reward and that of each record of another task from minute `ready` on
abbrev pub AllowsFrom : List Best → ℕ → ℤ → ℕ → ℤ → Type 0
AllowsFrom list j reward ready potential = (h : ℕ) (r : Record) → h ≢ j → IsBounded list h r → ready ≤ r.minute → (reward +ℤ r.potential) ≤ℤ potential

-- so is that of this fall, after which the team is at the place `away` minutes later
abbrev pub AllowsFall : List Best → ℕ → ℤ → ℕ → Record → Type 0
AllowsFall list j reward away f = AllowsFrom list j reward (f.minute + away) f.potential
