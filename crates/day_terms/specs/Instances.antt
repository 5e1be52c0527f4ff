-- the instance of a state
use Rattle.std.specs.Prelude.{ℕ, List, Option, bytes_eq, find, length, map, option_map, position, unwrap_or, if◌then◌else◌}
use Rattle.crew_terms.specs.Instance.{Instance}
use Rattle.crew_terms.specs.Plan.{Plan, Job}
use Rattle.day_terms.specs.State.{DayState, NamedJob, is_task, is_team, is_way}

-- the time that was given from the one place to the other
abbrev pub minutes_given : DayState → List ℕ → List ℕ → Option ℕ
minutes_given s from to = option_map (λ g. g.minutes) (find (is_way from to) s.times)

-- the time that was given, else none for the same place, else the default
abbrev pub minutes_by_name : DayState → List ℕ → List ℕ → ℕ
minutes_by_name s from to = unwrap_or (minutes_given s from to) (if bytes_eq from to then 0 else unwrap_or s.default_minutes 0)

-- the number of the team that has the name; as many as there are teams, where none has it
abbrev pub team_number : DayState → List ℕ → ℕ
team_number s name = unwrap_or (position (is_team name) s.teams) (length s.teams)

-- the number of the task that has the name; as many as there are tasks, where none has it
abbrev pub task_number : DayState → List ℕ → ℕ
task_number s name = unwrap_or (position (is_task name) s.tasks) (length s.tasks)

-- the job with its teams' numbers
abbrev pub job_by_number : DayState → NamedJob → Job
job_by_number s job = record { start = job.start; teams = map (team_number s) job.teams }

-- for each task the job of its name, if there is one
abbrev pub plan_of_jobs : DayState → List NamedJob → Plan
plan_of_jobs s jobs = map (λ t. option_map (job_by_number s) (find (λ job. bytes_eq t.name job.task) jobs)) s.tasks

-- the instance of a state that lacks no time
abbrev pub day_instance : DayState → Instance
day_instance s = record {
  places = s.places;
  teams = s.teams;
  tasks = s.tasks;
  travel = map (λ from. map (minutes_by_name s from) s.places) s.places;
  frozen = plan_of_jobs s s.frozen;
}
