-- the rules by which a node is split
use Rattle.std.specs.Prelude.{◌≡◌, ◌≤◌, ◌<◌, ◌+◌, ◌/◌, ◌⊎◌, ℕ, List}
use Rattle.crew_terms.specs.Limits.{Limits, tasks_in, window_of}
use Rattle.crew_terms.specs.Tree.{IsFreePair}
use Rattle.crew_terms.specs.declared.Choice.{Choice}
use Rattle.crew_terms.specs.declared.Choice.TheVariants.{Window, Pair}
use Rattle.crew_terms.specs.Decided.{MayBegin}
use Rattle.branch_choice.specs.Uses.{AreEnds, HasTwoStarts, HasUse}
use Rattle.branch_choice.specs.declared.uses.Use.{Use}

-- j is the lowest number of which the fact holds
pub record IsLowest (Holds : ℕ → Type 0) (j : ℕ) : Type 0 where
  pub holds : Holds j
  pub lowest : (h : ℕ) → Holds h → j ≤ h

-- the pair of team k and task j is lower than that of team g and task h, by task and then by team
abbrev pub IsPairBelow : ℕ → ℕ → ℕ → ℕ → Type 0
IsPairBelow k j g h = (j < h) ⊎ ((j ≡ h) × (k < g))

-- of the pairs of a team and a task of which the fact holds, this one has the lowest task, and then the lowest team
pub record IsLowestPair (Holds : ℕ → ℕ → Type 0) (k j : ℕ) : Type 0 where
  pub holds : Holds k j
  pub task : (g h : ℕ) → Holds g h → j ≤ h
  pub team : (g : ℕ) → Holds g j → k ≤ g

-- the window of task j is wider than one minute
pub record IsWideWindow (n : Limits) (j : ℕ) : Type 0 where
  pub task : j < tasks_in n
  pub wide : (window_of n j).0 < (window_of n j).1

-- the pair of team k and task j is free, and has a use
pub record IsUsedPair (n : Limits) (uses : List Use) (k j : ℕ) : Type 0 where
  pub free : IsFreePair n k j
  pub used : HasUse uses k j

-- the pair of team k and task j is free, and the team may begin the task
pub record IsOpenPair (n : Limits) (k j : ℕ) : Type 0 where
  pub free : IsFreePair n k j
  pub minute : MayBegin n k j

-- task j is the lowest with uses at two minutes, and the cut is half the sum of the least and the greatest of them
pub record IsUsesCut (uses : List Use) (j cut : ℕ) : Type 0 where
  pub task : IsLowest (HasTwoStarts uses) j
  pub least : ℕ
  pub greatest : ℕ
  pub ends : AreEnds uses j least greatest
  pub half : cut ≡ (least + greatest) / 2

-- task j is the lowest with a window wider than one minute, and the cut is half the sum of its ends
pub record IsWindowCut (n : Limits) (j cut : ℕ) : Type 0 where
  pub task : IsLowest (IsWideWindow n) j
  pub half : cut ≡ ((window_of n j).0 + (window_of n j).1) / 2

-- no task has uses at two minutes
abbrev pub HaveOneStart : List Use → Type 0
HaveOneStart uses = (j : ℕ) → HasTwoStarts uses j → ⊥

-- no free pair has a use
abbrev pub NoneIsUsed : Limits → List Use → Type 0
NoneIsUsed n uses = (k j : ℕ) → IsUsedPair n uses k j → ⊥

-- each window is one minute
abbrev pub AreOneMinute : Limits → Type 0
AreOneMinute n = (j : ℕ) → j < tasks_in n → (window_of n j).0 ≡ (window_of n j).1

-- no team of a free pair may begin the task
abbrev pub NoneIsOpen : Limits → Type 0
NoneIsOpen n = (k j : ℕ) → IsOpenPair n k j → ⊥

-- the choice of the first rule that fits: the lowest task with uses at two minutes is cut between them, the lowest free
-- pair with a use is taken, the lowest wide window is cut, the lowest free pair whose team may begin the task is taken
pub data IsFirstChoice (n : Limits) (uses : List Use) (choice : Choice) : Type 0 where
  BetweenUses : (j cut : ℕ) (cuts : IsUsesCut uses j cut) (is : choice ≡ Window j cut) → IsFirstChoice n uses choice
  UsedPair : (one_start : HaveOneStart uses) (k j : ℕ) (pair : IsLowestPair (IsUsedPair n uses) k j)
      (is : choice ≡ Pair k j) → IsFirstChoice n uses choice
  WideWindow : (one_start : HaveOneStart uses) (unused : NoneIsUsed n uses) (j cut : ℕ) (cuts : IsWindowCut n j cut)
      (is : choice ≡ Window j cut) → IsFirstChoice n uses choice
  OpenPair : (one_start : HaveOneStart uses) (unused : NoneIsUsed n uses) (narrow : AreOneMinute n)
      (k j : ℕ) (pair : IsLowestPair (IsOpenPair n) k j) (is : choice ≡ Pair k j) → IsFirstChoice n uses choice
