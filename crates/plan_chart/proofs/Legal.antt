-- the jobs of a legal plan are within the limits
use Rattle.std.proofs.Common.{◌≡◌, ◌≤◌, ◌<◌, ◌+◌, ℕ, List, Option, None, Some, length, ap, sym, refl, subst, ◌∙◌, arith}
use Rattle.std.specs.Prelude.{All, Contains, option_map, slice_index_or}
use Rattle.std.proofs.lemmas.List.Elements.{Contains-get_or}
use Rattle.crew_terms.specs.Instance.{Instance, task_of, team_of, no_task, no_team}
use Rattle.crew_terms.specs.Plan.{Plan, Job, job_of}
use Rattle.crew_terms.specs.Rules.{IsInstance, IsTask, IsTeam}
use Rattle.crew_terms.specs.Legal.{IsLegal, IsJob}
use Rattle.crew_terms.specs.declared.TheConstants.{LAST_MINUTE}
use Rattle.crew_instance.specs.Teams.{job_teams}

-- a task that begins has a job
has_job : (o : Option Job) (start : ℕ) → option_map (λ (job : Job). job.start) o ≡ Some start → (job : Job) × (o ≡ Some job) × (job.start ≡ start)
has_job None start is = absurd (cc)
has_job (Some job) start is = (job, refl, cc)

module _ (i : Instance) (p : Plan) (j start : ℕ) (limits : IsInstance i) (legal : IsLegal i p) (known : j < length p) (begins : option_map (λ (job : Job). job.start) (job_of p j) ≡ Some start) where
  the_job : (job : Job) × (job_of p j ≡ Some job) × (job.start ≡ start)
  the_job = has_job (job_of p j) start begins

  is_job : IsJob i j the_job.0
  is_job = legal.feasible.jobs j the_job.0 the_job.1

  pub in_tasks : j < length i.tasks
  in_tasks = subst (λ n. j < n) legal.feasible.whole known

  is_task : IsTask (length i.places) (task_of i j)
  is_task = limits.parts.tasks j no_task in_tasks

  -- its first team
  first_is_one : Contains the_job.0.teams (slice_index_or the_job.0.teams 0 0)
  first_is_one = let count = is_job.list.count in let some = is_task.teams.some in Contains-get_or the_job.0.teams 0 0 (omega (arith, count, some))

  is_team : IsTeam (length i.places) (team_of i (slice_index_or the_job.0.teams 0 0))
  is_team = limits.parts.teams (slice_index_or the_job.0.teams 0 0) no_team (is_job.known (slice_index_or the_job.0.teams 0 0) first_is_one)

  -- it ends within the day
  pub ends_in_day : start + (task_of i j).minutes ≤ LAST_MINUTE
  ends_in_day =
      let back = (is_job.fit (slice_index_or the_job.0.teams 0 0) first_is_one).in_shift.returns in
      let day = is_team.shift.day in
      let begin = the_job.2 in
      omega (arith, back, day, begin)

  -- its teams are those of the instance
  pub known_teams : (teams : List ℕ) → teams ≡ job_teams (job_of p j) → All (λ k. k < length i.teams) teams
  known_teams teams are =
      subst (λ (ks : List ℕ). All (λ k. k < length i.teams) ks) (sym (are ∙ ap job_teams the_job.1))
      (λ n d within. is_job.known (slice_index_or the_job.0.teams n d) (Contains-get_or the_job.0.teams n d within))
