-- the cases of a decided node
use Rattle.std.specs.Prelude.{◌<◌, ℕ}
use Rattle.crew_terms.specs.Leaf.{Prices}
use Rattle.crew_terms.specs.Limits.{Limits, teams_in}
use Rattle.search_terms.specs.Closing.{IsStuck, IsCrowded, IsShort, NoneIsStuck, AreStaffed, StuckPrices, CrowdedPrices, ShortPrices, OpenPrices}

-- team k is the lowest that can't do all that is required of it
pub record IsFirstStuck (n : Limits) (k : ℕ) : Type 0 where
  pub team : k < teams_in n
  pub stuck : IsStuck n k
  pub earlier : (h : ℕ) → h < k → IsStuck n h → ⊥

-- task j is the lowest that has more required teams than it needs
pub record IsFirstCrowded (n : Limits) (j : ℕ) : Type 0 where
  pub crowded : IsCrowded n j
  pub earlier : (h : ℕ) → h < j → IsCrowded n h → ⊥

-- task j is the lowest that has required teams, but fewer than it needs
pub record IsFirstShort (n : Limits) (j : ℕ) : Type 0 where
  pub short : IsShort n j
  pub earlier : (h : ℕ) → h < j → IsShort n h → ⊥

-- no task has more required teams than it needs
abbrev pub NoneIsCrowded : Limits → Type 0
NoneIsCrowded n = (j : ℕ) → IsCrowded n j → ⊥

-- no task has required teams, but fewer than it needs
abbrev pub NoneIsShort : Limits → Type 0
NoneIsShort n = (j : ℕ) → IsShort n j → ⊥

-- a team can't do all that is required of it, or a task has more required teams than it needs, or some but fewer
pub data HasFault (n : Limits) : Type 0 where
  StuckTeam : (k : ℕ) (team : k < teams_in n) (stuck : IsStuck n k) → HasFault n
  CrowdedTask : (j : ℕ) (crowded : IsCrowded n j) → HasFault n
  ShortTask : (j : ℕ) (short : IsShort n j) → HasFault n

-- each team can do all that is required of it, and each task has as many required teams as it needs, or none
pub record HasNoFault (n : Limits) : Type 0 where
  pub teams : NoneIsStuck n
  pub tasks : AreStaffed n

-- the prices of the first case that holds: of the lowest team that is stuck, else of the lowest task with too many
-- required teams, else of the lowest with too few, else of all tasks that are left unassigned
pub data AreClosingPrices (n : Limits) (p : Prices) : Type 0 where
  OfStuck : (k : ℕ) (first : IsFirstStuck n k) (prices : StuckPrices n k p) → AreClosingPrices n p
  OfCrowded : (teams : NoneIsStuck n) (j : ℕ) (first : IsFirstCrowded n j) (prices : CrowdedPrices n j p) → AreClosingPrices n p
  OfShort : (teams : NoneIsStuck n) (tasks : NoneIsCrowded n) (j : ℕ) (first : IsFirstShort n j)
      (prices : ShortPrices n j p) → AreClosingPrices n p
  OfNone : (none : HasNoFault n) (prices : OpenPrices n p) → AreClosingPrices n p
