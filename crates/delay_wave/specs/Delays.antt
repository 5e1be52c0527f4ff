-- when tasks begin if some end late, teams keep the order of their tasks, and joint teams wait for the last
use Rattle.std.specs.Prelude.{◌≡◌, ◌≤◌, ◌+◌, ℕ, List, Some}
use Rattle.crew_terms.specs.Instance.{Instance}
use Rattle.crew_terms.specs.Plan.{Plan, Job, job_of}
use Rattle.crew_terms.specs.Verdict.{IsNext}
use Rattle.delay_wave.specs.declared.lates.Late.{Late}
use Rattle.delay_wave.specs.Ends.{end_of, minutes_to}

-- when a team can begin task h after task j, if that begins at minute t
abbrev pub ready_at : Instance → List Late → ℕ → ℕ → ℕ → ℕ
ready_at i lates j t h = end_of i lates j t + minutes_to i j h

-- no task begins before its planned start, nor before each of its teams can come from the task before
pub record FitsDelays (i : Instance) (p : Plan) (lates : List Late) (x : ℕ → ℕ) : Type 0 where
  pub planned : (j : ℕ) (job : Job) → job_of p j ≡ Some job → job.start ≤ x j
  pub follow : (k j t h u : ℕ) → IsNext p k j t h u → ready_at i lates j (x j) h ≤ x h

-- the starts fit, and all that fit are at least as late at each assigned task
pub record AreEarliest (i : Instance) (p : Plan) (lates : List Late) (x : ℕ → ℕ) : Type 0 where
  pub fit : FitsDelays i p lates x
  pub least : (y : ℕ → ℕ) → FitsDelays i p lates y → (j : ℕ) (job : Job) → job_of p j ≡ Some job → x j ≤ y j

-- task j is the one before task h in team k, and task h begins as soon as the team can come from it
pub record IsTight (i : Instance) (p : Plan) (lates : List Late) (x : ℕ → ℕ) (k j h : ℕ) : Type 0 where
  pub planned : ℕ
  pub next_planned : ℕ
  pub next : IsNext p k j planned h next_planned
  pub meets : x h ≡ ready_at i lates j (x j) h

-- task j holds task h up: the link between them is tight, in the lowest team in which there is a tight one to task h
pub record HoldsUp (i : Instance) (p : Plan) (lates : List Late) (x : ℕ → ℕ) (j h : ℕ) : Type 0 where
  pub team : ℕ
  pub tight : IsTight i p lates x team j h
  pub lowest : (k g : ℕ) → IsTight i p lates x k g h → team ≤ k
