-- decided nodes: their prices, and what these prove
use Rattle.std.specs.Prelude.{◌≡◌, ◌≢◌, ◌≤◌, ◌<◌, ◌*◌, ◌/◌, ◌==◌, ◌⊎◌, ◌↔◌, ℕ, ℤ, pos, neg_ℤ, List, length, map, Contains, AllPairs, Option, Some, None, true, if◌then◌else◌}
use Rattle.std.specs.List.{range_with_len}
use Rattle.crew_terms.specs.Instance.{task_of, CanFollow}
use Rattle.crew_terms.specs.Plan.{Plan, Job, unassigned_count}
use Rattle.crew_terms.specs.Legal.{IsLegal}
use Rattle.crew_terms.specs.Limits.{Limits, IsWithin, tasks_in, teams_in, window_of, pair_of, is_required, has_required}
use Rattle.crew_terms.specs.Minutes.{required_teams}
use Rattle.crew_terms.specs.Leaf.{Prices, pi_of, rho_of}
use Rattle.crew_terms.specs.declared.Pair.TheVariants.{Required}
use Rattle.crew_terms.specs.declared.Visit.{Visit}
use Rattle.crew_terms.specs.declared.TheConstants.{D}
use Rattle.crew_terms.specs.Decided.{MayBegin}
use Rattle.search_terms.specs.Proven.{PricesProve}

-- the one minute of a task in a decided node
abbrev pub minute_of : Limits → ℕ → ℕ
minute_of n j = (window_of n j).0

-- the visits to the tasks that are required of team k, by start
pub record AreRequiredVisits (n : Limits) (k : ℕ) (visits : List Visit) : Type 0 where
  pub each : (j t : ℕ) → Contains visits (record { task = j; start = t }) ↔ ((pair_of n k j ≡ Required) × (t ≡ minute_of n j))
  pub rising : AllPairs (λ (v w : Visit). v.start < w.start) visits

-- team k can't do all that is required of it: a task at no minute, or not the later of two neighbours in order of start
pub data IsStuck (n : Limits) (k : ℕ) : Type 0 where
  NoMinute : (j : ℕ) (required : pair_of n k j ≡ Required) (none : MayBegin n k j → ⊥) → IsStuck n k
  NoTime : (j h : ℕ) (first : pair_of n k j ≡ Required) (second : pair_of n k h ≡ Required) (other : j ≢ h)
      (order : minute_of n j ≤ minute_of n h)
      (neighbours : (g : ℕ) → pair_of n k g ≡ Required → (minute_of n g ≤ minute_of n j) ⊎ (minute_of n h ≤ minute_of n g))
      (late : CanFollow n.instance j (minute_of n j) h (minute_of n h) → ⊥) → IsStuck n k

-- each team can do all that is required of it
abbrev pub NoneIsStuck : Limits → Type 0
NoneIsStuck n = (k : ℕ) → k < teams_in n → IsStuck n k → ⊥

-- task j has required pairs, more than it needs
pub record IsCrowded (n : Limits) (j : ℕ) : Type 0 where
  pub known : j < tasks_in n
  pub some : has_required n j ≡ true
  pub many : (task_of n.instance j).teams < length (required_teams n j)

-- task j has required pairs, fewer than it needs
pub record IsShort (n : Limits) (j : ℕ) : Type 0 where
  pub known : j < tasks_in n
  pub some : has_required n j ≡ true
  pub few : length (required_teams n j) < (task_of n.instance j).teams

-- each task with required pairs has as many as it needs
abbrev pub AreStaffed : Limits → Type 0
AreStaffed n = (j : ℕ) → j < tasks_in n → has_required n j ≡ true → length (required_teams n j) ≡ (task_of n.instance j).teams

-- as much as all tasks cost
abbrev pub all_cost : Limits → ℕ
all_cost n = tasks_in n * D

-- the prices of tasks and of required pairs are these
pub record ArePricedBy (n : Limits) (p : Prices) (task : ℕ → ℤ) (pair : ℕ → ℕ → ℤ) : Type 0 where
  pub tasks : (j : ℕ) → j < tasks_in n → pi_of p j ≡ task j
  pub pairs : (k j : ℕ) → rho_of p k j ≡ (if is_required (pair_of n k j) then pair k j else pos 0)

-- all tasks' cost on each required pair of team k
abbrev pub StuckPrices : Limits → ℕ → Prices → Type 0
StuckPrices n k p = ArePricedBy n p (λ j. pos 0) (λ h j. if h == k then pos (all_cost n) else pos 0)

-- that cost off task i, and on its required pairs
abbrev pub CrowdedPrices : Limits → ℕ → Prices → Type 0
CrowdedPrices n i p = ArePricedBy n p (λ j. if j == i then neg_ℤ (pos (all_cost n)) else pos 0)
    (λ k j. if j == i then pos (all_cost n) else pos 0)

-- that cost on task i
abbrev pub ShortPrices : Limits → ℕ → Prices → Type 0
ShortPrices n i p = ArePricedBy n p (λ j. if j == i then pos (all_cost n) else pos 0) (λ k j. pos 0)

-- on each task without a required pair, what makes the cost of one task for all its teams
abbrev pub OpenPrices : Limits → Prices → Type 0
OpenPrices n p = ArePricedBy n p (λ j. if has_required n j then pos 0 else pos (D / (task_of n.instance j).teams)) (λ k j. pos 0)

-- a task with required pairs is begun at its minute by their teams, any other task is not
abbrev pub required_job : Limits → ℕ → Option Job
required_job n j = if has_required n j then Some (record { start = minute_of n j; teams = required_teams n j }) else None

-- the plan of the required pairs
abbrev pub required_plan : Limits → Plan
required_plan n = map (required_job n) (range_with_len 0 (tasks_in n))

-- no legal plan is in the node, and the prices prove every number of tasks
pub record HasNoPlan (n : Limits) (p : Prices) : Type 0 where
  pub none : (q : Plan) → IsLegal n.instance q → IsWithin n q → ⊥
  pub proved : (l : ℕ) → l ≤ tasks_in n → PricesProve n p l

-- one legal plan is in the node, and the prices prove what it leaves unassigned
pub record HasOnePlan (n : Limits) (p : Prices) (q : Plan) : Type 0 where
  pub legal : IsLegal n.instance q
  pub within : IsWithin n q
  pub only : (r : Plan) → IsLegal n.instance r → IsWithin n r → r ≡ q
  pub proved : PricesProve n p (unassigned_count q)
