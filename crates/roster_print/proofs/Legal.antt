-- what a team does in a legal plan is within the limits
use Rattle.std.proofs.Common.{◌≤◌, ◌<◌, ◌+◌, ℕ, length, subst, arith}
use Rattle.std.specs.Prelude.{All, slice_index_or}
use Rattle.std.proofs.lemmas.List.Elements.{Contains-get_or}
use Rattle.crew_terms.specs.Instance.{Instance, task_of, team_of, no_task, no_team}
use Rattle.crew_terms.specs.Plan.{Plan, Does}
use Rattle.crew_terms.specs.Rules.{IsInstance, IsTask, IsTeam}
use Rattle.crew_terms.specs.Legal.{IsLegal, IsJob}
use Rattle.crew_terms.specs.Nodes.{job_known}
use Rattle.crew_terms.specs.declared.TheConstants.{LAST_MINUTE, MOST_TEAMS_PER_TASK}

module _ (i : Instance) (p : Plan) (k j t : ℕ) (limits : IsInstance i) (legal : IsLegal i p) (does : Does p k j t) where
  pub in_plan : j < length p
  in_plan = job_known p j does.0 does.1

  pub in_tasks : j < length i.tasks
  in_tasks = subst (λ n. j < n) legal.feasible.whole in_plan

  is_job : IsJob i j does.0
  is_job = legal.feasible.jobs j does.0 does.1

  is_task : IsTask (length i.places) (task_of i j)
  is_task = limits.parts.tasks j no_task in_tasks

  is_team : IsTeam (length i.places) (team_of i k)
  is_team = limits.parts.teams k no_team (is_job.known k does.3)

  -- it ends within the day
  pub ends_in_day : t + (task_of i j).minutes ≤ LAST_MINUTE
  ends_in_day =
      let back = (is_job.fit k does.3).in_shift.returns in
      let day = is_team.shift.day in
      let start = does.2 in
      omega (arith, back, day, start)

  pub few_teams : length does.0.teams ≤ MOST_TEAMS_PER_TASK
  few_teams = let count = is_job.list.count in let few = is_task.teams.few in omega (arith, count, few)

  pub known_teams : All (λ g. g < length i.teams) does.0.teams
  known_teams = λ n d within. is_job.known (slice_index_or does.0.teams n d) (Contains-get_or does.0.teams n d within)
