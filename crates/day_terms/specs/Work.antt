-- the last plan by names, and jobs that are frozen
use Rattle.std.specs.Prelude.{◌+◌, ◌++◌, ◌||◌, ℕ, Bool, List, [], ◌∷◌, Option, None, Some, bytes_eq, flat_map, fold, is_some, length, map, nat_eq, nat_lt, option_map, if◌then◌else◌}
use Rattle.std.specs.List.{list_any}
use Rattle.crew_terms.specs.declared.TheConstants.{LAST_MINUTE}
use Rattle.crew_terms.specs.Instance.{Instance, task_of, team_of}
use Rattle.crew_terms.specs.Plan.{Plan, Job, job_of}
use Rattle.day_terms.specs.State.{DayState, NamedJob}
use Rattle.day_terms.specs.Instances.{day_instance, plan_of_jobs, task_number}
use Rattle.day_terms.specs.Faulty.{below, faulty_task}

-- ---- the last plan

-- the job of task j by names
abbrev pub job_by_names : Instance → ℕ → Job → NamedJob
job_by_names i j job = record { task = (task_of i j).name; start = job.start; teams = map (λ k. (team_of i k).name) job.teams }

-- and none if it isn't begun at minute t
abbrev pub named_at : Instance → ℕ → ℕ → Option Job → List NamedJob
named_at i t j None = []
named_at i t j (Some job) = if nat_eq job.start t then job_by_names i j job ∷ [] else []

-- the jobs of a plan by names, in the order of starts and then of tasks
abbrev pub jobs_by_names : Instance → Plan → List NamedJob
jobs_by_names i p = flat_map (λ t. flat_map (λ j. named_at i t j (job_of p j)) (below (length p))) (below (LAST_MINUTE + 1))

-- the state after a round with this plan
abbrev pub after_plan : DayState → Plan → DayState
after_plan s p = record s { last_plan = jobs_by_names (day_instance s) p }

-- ---- frozen jobs

-- it is the job of the task
abbrev pub is_job_of : List ℕ → NamedJob → Bool
is_job_of task job = bytes_eq task job.task

-- the team is one of its teams
abbrev pub needs_team : List ℕ → NamedJob → Bool
needs_team team job = list_any (bytes_eq team) job.teams

-- the first task of which the teams can't do the job, if these jobs are to be done
abbrev pub faulty_job : DayState → List NamedJob → Option (List ℕ)
faulty_job s jobs = option_map (λ j. (task_of (day_instance s) j).name) (faulty_task (day_instance s) (plan_of_jobs s jobs))

-- with one more, if its task has none and the teams can do it with these
abbrev pub with_frozen : DayState → List NamedJob → NamedJob → List NamedJob
with_frozen s frozen job = if list_any (is_job_of job.task) frozen || is_some (faulty_job s (frozen ++ job ∷ [])) then frozen else frozen ++ job ∷ []

-- of the job that was found and this one, the one whose task has the lesser number
abbrev pub lesser_by_task : DayState → Option NamedJob → NamedJob → Option NamedJob
lesser_by_task s None job = Some job
lesser_by_task s (Some found) job = Some (if nat_lt (task_number s job.task) (task_number s found.task) then job else found)

-- of these jobs, the one whose task has the least number
abbrev pub first_by_task : DayState → List NamedJob → Option NamedJob
first_by_task s jobs = fold (lesser_by_task s) None jobs
