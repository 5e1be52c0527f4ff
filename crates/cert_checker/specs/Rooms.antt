-- the room of a tree, and instances for whose trees it is alike
use Rattle.std.specs.Prelude.{◌≡◌, ◌<◌, ℕ, None, length}
use Rattle.crew_terms.specs.Instance.{Instance, task_of}
use Rattle.crew_terms.specs.Limits.{Limits as NodeLimits, root_limits}
use Rattle.crew_terms.specs.Plan.{job_of}
use Rattle.leaf_check.specs.Reader.{IsReady}
use Rattle.leaf_check.specs.declared.reader.LeafReader.{LeafReader}
use Rattle.share_check.specs.Summed.{HasRoom}
use Rattle.share_check.specs.declared.sums.ShareSums.{ShareSums}
use Rattle.cert_checker.specs.declared.rooms.Room.{Room}
use Rattle.cert_checker.specs.declared.rooms.Room.TheVariants.{Kept, New}

-- the reader has room for the leaves of the instance
abbrev pub IsReaderFor : Instance → LeafReader → Type 0
IsReaderFor i reader = (n : NodeLimits) × (n.instance ≡ i) × IsReady n reader

-- there is room for the leaves of the instance, and for the shares of a cause
pub record IsRoomFor (i : Instance) (reader : LeafReader) (sums : ShareSums) : Type 0 where
  pub leaves : IsReaderFor i reader
  pub shares : HasRoom (root_limits i) sums

-- as many tasks, each with the same window
pub record HaveSameWindows (a b : Instance) : Type 0 where
  pub tasks : length a.tasks ≡ length b.tasks
  pub earliest : (j : ℕ) → j < length a.tasks → (task_of a j).earliest ≡ (task_of b j).earliest
  pub latest : (j : ℕ) → j < length a.tasks → (task_of a j).latest ≡ (task_of b j).latest

-- as many teams, and the same windows
pub record IsAlike (a b : Instance) : Type 0 where
  pub teams : length a.teams ≡ length b.teams
  pub windows : HaveSameWindows a b

-- no job is frozen
abbrev pub IsUnfrozen : Instance → Type 0
IsUnfrozen i = (j : ℕ) → j < length i.tasks → job_of i.frozen j ≡ None

-- they are alike, and neither has a frozen job
pub record HaveSameRoots (a b : Instance) : Type 0 where
  pub alike : IsAlike a b
  pub free : IsUnfrozen a
  pub free_too : IsUnfrozen b

-- it is room for the tree of the instance
abbrev pub IsFor : Instance → Room → Type 0
IsFor i (Kept over) = IsAlike over i
IsFor i (New room) = IsRoomFor i room.value.reader room.value.sums
