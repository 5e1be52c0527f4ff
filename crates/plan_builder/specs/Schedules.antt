-- a legal plan while tasks are added to it
use Rattle.std.specs.Prelude.{◌≡◌, ◌≤◌, ◌<◌, ℕ, List, length, slice_index_or, Contains}
use Rattle.std.specs.List.Sorted.{IsStrictlyIncreasing}
use Rattle.crew_terms.specs.Instance.{Instance, task_of}
use Rattle.crew_terms.specs.Legal.{IsPacked}
use Rattle.crew_terms.specs.Minutes.{IsListOf}
use Rattle.crew_terms.specs.Plan.{Plan, Job, unassigned_count}
use Rattle.crew_instance.specs.Turns.{AreTurns}
use Rattle.crew_instance.specs.declared.turns.Turn.{Turn}
use Rattle.arrayvec.specs.ArrayVec.{ArrayVec}
use Rattle.team_days.specs.Adding.{FitsNowhere, Keeps, with_job}
use Rattle.team_days.specs.Free.{IsFreeFor}

-- a plan of an instance
pub record Schedule : Type 0 where
  pub instance : Instance
  pub plan : Plan

-- the schedule with this job of task j
abbrev pub with : Schedule → ℕ → Job → Schedule
with s j job = record s { plan = with_job s.plan j job }

-- what team k does in the plan, in order, stands at k, if the list is so long
abbrev pub IsDayAt : Plan → List (ArrayVec Turn) → ℕ → Type 0
IsDayAt p days k = (d : ArrayVec Turn) → k < length days → AreTurns p k (length p) (slice_index_or days k d).items

-- what each of the teams does in the plan, in order
abbrev pub AreDays : Plan → List (ArrayVec Turn) → Type 0
AreDays p days = (k : ℕ) → IsDayAt p days k

-- the first list rises, and each of its numbers is in the second
pub record IsChoiceOf (chosen from : List ℕ) : Type 0 where
  pub rising : IsStrictlyIncreasing chosen
  pub each : (k : ℕ) → Contains chosen k → Contains from k

-- the second schedule is of the same instance, keeps the jobs of the first, and leaves no more tasks unassigned
pub record Extends (old new : Schedule) : Type 0 where
  pub instance : new.instance ≡ old.instance
  pub keeps : Keeps old.plan new.plan
  pub fewer : unassigned_count new.plan ≤ unassigned_count old.plan

-- tasks were added, or nothing changed, and then these tasks fit nowhere
pub record IsFilled (old new : Schedule) (Tried : ℕ → Type 0) : Type 0 where
  pub extends : Extends old new
  pub same : unassigned_count new.plan ≡ unassigned_count old.plan → new ≡ old
  pub nowhere : unassigned_count new.plan ≡ unassigned_count old.plan → (j : ℕ) → Tried j → FitsNowhere new.instance new.plan j

-- task j is added
pub record Begins (old new : Schedule) (j : ℕ) : Type 0 where
  pub job : Job
  pub is : new ≡ with old j job

-- at minute t of the window of task j these teams can take it into their days, and they are enough
pub record HasRoomAt (s : Schedule) (j t : ℕ) (teams : List ℕ) : Type 0 where
  pub early : (task_of s.instance j).earliest ≤ t
  pub late : t ≤ (task_of s.instance j).latest
  pub free : IsListOf (λ k. IsFreeFor s.instance s.plan k j t) teams
  pub enough : (task_of s.instance j).teams ≤ length teams

-- the schedule is of this instance, keeps the jobs of the plan, leaves no more tasks unassigned, and is packed
pub record IsPackedFrom (i : Instance) (p : Plan) (s : Schedule) : Type 0 where
  pub instance : s.instance ≡ i
  pub keeps : Keeps p s.plan
  pub fewer : unassigned_count s.plan ≤ unassigned_count p
  pub packed : IsPacked i s.plan
