-- when a plan is feasible, and when it is legal
use Rattle.std.specs.Prelude.{◌≡◌, ◌≢◌, ◌≤◌, ◌<◌, ◌⊎◌, ℕ, length, None, Some, slice_set, Contains}
use Rattle.std.specs.List.Sorted.{IsStrictlyIncreasing}
use Rattle.crew_terms.specs.Plan.{Plan, Job, job_of, Does}
use Rattle.crew_terms.specs.Instance.{Instance, task_of, IsQualified, IsInShift, CanFollow}

-- the start lies in the task's window
pub record IsInWindow (i : Instance) (j : ℕ) (job : Job) : Type 0 where
  pub early : (task_of i j).earliest ≤ job.start
  pub late : job.start ≤ (task_of i j).latest

-- as many teams as the task needs, each once, in order
pub record IsTeamList (i : Instance) (j : ℕ) (job : Job) : Type 0 where
  pub rising : IsStrictlyIncreasing job.teams
  pub count : length job.teams ≡ (task_of i j).teams

-- team k can begin task j at minute t
pub record IsFit (i : Instance) (j t k : ℕ) : Type 0 where
  pub qualified : IsQualified i k j
  pub in_shift : IsInShift i k j t

-- what a job of task j has to be
pub record IsJob (i : Instance) (j : ℕ) (job : Job) : Type 0 where
  pub window : IsInWindow i j job
  pub list : IsTeamList i j job
  pub known : (k : ℕ) → Contains job.teams k → k < length i.teams
  pub fit : (k : ℕ) → Contains job.teams k → IsFit i j job.start k

-- the teams can do all jobs of the plan, stated on pairs of tasks
pub record IsFeasible (i : Instance) (p : Plan) : Type 0 where
  pub whole : length p ≡ length i.tasks
  pub jobs : (j : ℕ) (job : Job) → job_of p j ≡ Some job → IsJob i j job
  -- two tasks of one team don't begin together
  pub apart : (k j h t u : ℕ) → Does p k j t → Does p k h u → j ≢ h → t ≢ u
  -- where no task of the team begins between, the later one can follow
  pub follow : (k j h t u : ℕ) → Does p k j t → Does p k h u → t < u
      → ((g s : ℕ) → Does p k g s → (s ≤ t) ⊎ (u ≤ s)) → CanFollow i j t h u

-- if task j has a frozen job, it is the plan's
abbrev pub KeepsFrozen : Instance → Plan → ℕ → Type 0
KeepsFrozen i p j = (job : Job) → job_of i.frozen j ≡ Some job → job_of p j ≡ Some job

-- the plan is feasible, and has each frozen job
pub record IsLegal (i : Instance) (p : Plan) : Type 0 where
  pub feasible : IsFeasible i p
  pub frozen : (j : ℕ) → KeepsFrozen i p j

-- no unassigned task can be added alone
abbrev pub IsPacked : Instance → Plan → Type 0
IsPacked i p = (j : ℕ) (job : Job) → j < length i.tasks → job_of p j ≡ None → IsLegal i (slice_set p j (Some job)) → ⊥
