-- a round by names: what is kept of it when the next one is read, since numbers may differ between rounds
use Rattle.std.specs.Prelude.{◌≤◌, ℕ, List, [], ◌∷◌, length, map}
use Rattle.std.specs.List.{flat_map, range_with_len}
use Rattle.std.specs.Option.{option_map_or}
use Rattle.crew_terms.specs.Instance.{Instance, team_of, task_of}
use Rattle.crew_terms.specs.Plan.{Plan, Job, job_of}
use Rattle.crew_terms.specs.declared.TheConstants.{LAST_MINUTE, MOST_TEAMS_PER_TASK}

-- a job: its task's name, when it begins, and the names of its teams
pub record JobByNames : Type 0 where
  pub task : List ℕ
  pub start : ℕ
  pub teams : List (List ℕ)

-- it begins within the day, and has no more teams than a task may need
pub record IsKept (job : JobByNames) : Type 0 where
  pub day : job.start ≤ LAST_MINUTE
  pub few : length job.teams ≤ MOST_TEAMS_PER_TASK

-- the names of all tasks, and the jobs
pub record RoundByNames : Type 0 where
  pub tasks : List (List ℕ)
  pub jobs : List JobByNames

-- the name of team k
abbrev pub team_name : Instance → ℕ → List ℕ
team_name i k = (team_of i k).name

-- the job of task j
abbrev pub named_job : Instance → ℕ → Job → JobByNames
named_job i j job = record { task = (task_of i j).name; start = job.start; teams = map (team_name i) job.teams }

-- the job of task j, if it has one
abbrev pub jobs_at : Instance → Plan → ℕ → List JobByNames
jobs_at i p j = option_map_or (λ job. named_job i j job ∷ []) (job_of p j) []

-- the name of task j
abbrev pub task_name : Instance → ℕ → List ℕ
task_name i j = (task_of i j).name

-- what is kept of an instance and its plan
unfoldable pub round_of : Instance → Plan → RoundByNames
round_of i p = record {
  tasks = map (task_name i) (range_with_len 0 (length i.tasks));
  jobs = flat_map (jobs_at i p) (range_with_len 0 (length i.tasks));
}
