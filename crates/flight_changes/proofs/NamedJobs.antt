-- jobs by names whose teams are known, and the plan that has them
use Rattle.std.proofs.Common.{◌≡◌, ◌<◌, ◌+◌, ℕ, Bool, true, false, cond, List, [], ◌∷◌, Option, Some, None, length, map, replicate, get_or, filter, nat_eq, nat_lt, slice_get, arith, refl, sym, ap, subst, ◌∙◌}
use Rattle.std.specs.Prelude.{◌↔◌, All, Contains, bytes_eq, find, flat_map, option_map, unwrap_or}
use Rattle.std.specs.List.{list_any, position_or_len}
use Rattle.std.specs.Option.{option_eq}
use Rattle.std.proofs.lemmas.Bool.{eqb-true}
use Rattle.std.proofs.lemmas.Bool.Decides.{nat_tests}
use Rattle.std.proofs.lemmas.List.{length-map, get_or-map}
use Rattle.std.proofs.lemmas.List.Elements.{All-append, All-cons, All-contains, All-filter, All-head, All-map, All-nil, All-tail, All-weaker, Contains-get_or}
use Rattle.std.proofs.lemmas.List.Folds.{list_any_at}
use Rattle.std.proofs.lemmas.List.FromFn.{get_or-range_with_len, length-range_with_len}
use Rattle.std.proofs.lemmas.Slice.Eq.{bytes_eq-Decides}
use Rattle.crew_instance.specs.Teams.{job_teams}
use Rattle.crew_instance.specs.Draft.{task_named, unfrozen}
use Rattle.crew_terms.specs.Instance.{Instance, no_task, no_team, task_of, team_of}
use Rattle.crew_terms.specs.Legal.{IsFeasible, IsJob}
use Rattle.crew_terms.specs.Nodes.{job_known}
use Rattle.crew_terms.specs.Plan.{Job, Plan, empty_plan, job_of, Does}
use Rattle.crew_terms.specs.Rules.{AreParts}
use Rattle.crew_terms.specs.Verdict.{IsFeasibility, IsPlanOf}
use Rattle.crew_terms.specs.declared.PlanVerdict.{PlanVerdict}
use Rattle.crew_terms.specs.declared.Task.{Task}
use Rattle.crew_terms.specs.declared.Team.{Team}
use Rattle.crew_terms.specs.declared.TheConstants.{LAST_MINUTE}
use Rattle.day_terms.specs.ByTest.{by_test}
use Rattle.day_terms.specs.Faulty.{below, faulty_task, faulty_tasks, is_bad, is_first_clash}
use Rattle.day_terms.specs.Instances.{day_instance, job_by_number, plan_of_jobs, team_number}
use Rattle.day_terms.specs.State.{DayState, NamedJob, has_team, is_team}
use Rattle.day_terms.specs.Work.{faulty_job, job_by_names, jobs_by_names, named_at}
use Rattle.flight_changes.specs.Limits.{AreDoable, AreTeamsKnown, IsState}
use Rattle.flight_changes.specs.Named.{jobs_at}
use Rattle.flight_changes.proofs.Keyed.{Bytes}

blank : (f : NamedJob → Job) (ts : List Task) → map (λ t. option_map f (find (λ job. bytes_eq t.name job.task) [])) ts ≡ replicate (length ts) None
blank f [] = refl
blank f (t ∷ ts) = ap (λ p. None ∷ p) (blank f ts)

-- the plan of no job
pub plan_of_none : (s : DayState) → plan_of_jobs s [] ≡ empty_plan (length s.tasks)
plan_of_none s = blank (job_by_number s) s.tasks

pub plan_length : (s : DayState) (jobs : List NamedJob) → length (plan_of_jobs s jobs) ≡ length s.tasks
plan_length s jobs = length-map s.tasks (λ t. option_map (job_by_number s) (find (λ job. bytes_eq t.name job.task) jobs))

-- the job of a task in the plan
pub plan_at : (s : DayState) (jobs : List NamedJob) (j : ℕ) → j < length s.tasks
    → job_of (plan_of_jobs s jobs) j ≡ option_map (job_by_number s) (find (λ job. bytes_eq (get_or s.tasks j no_task).name job.task) jobs)
plan_at s jobs j l = get_or-map (λ t. option_map (job_by_number s) (find (λ job. bytes_eq t.name job.task) jobs)) s.tasks j no_task None l

place_of : {X : Type 0} (p : X → Bool) (xs : List X) → list_any p xs ≡ true → position_or_len p xs < length xs
place_of p [] any = cc
place_of p (x ∷ xs) any =
    by_test (p x) (λ t. rw t (omega arith)) (λ t. let rest = place_of p xs (rw t at any) in rw t (omega arith))

number_by : (place teams : ℕ) → place < teams → unwrap_or (cond (nat_lt place teams) (Some place) None) teams < teams
number_by place teams less = by_test (nat_lt place teams) (λ t. rw t less) (λ t. grind (arith, nat_tests))

-- the number of a team that is there
pub number_below : (s : DayState) (name : Bytes) → has_team s name ≡ true → team_number s name < length s.teams
number_below s name known = number_by (position_or_len (is_team name) s.teams) (length s.teams) (place_of (is_team name) s.teams known)

pub found_passes : {X : Type 0} (P : X → Type 0) (test : X → Bool) (xs : List X) (x : X) → All P xs → find test xs ≡ Some x → P x
found_passes P test [] x all found = cc
found_passes P test (y ∷ ys) x all found =
    by_test (test y) (λ u. let s : Some y ≡ Some x = rw u at found in let z : y ≡ x = cc in subst P z (All-head P y ys all)) (λ u. found_passes P test ys x (All-tail P y ys all) (rw u at found))

-- what is made of what is found
record IsMade {A B : Type 0} (f : A → B) (found : Option A) (b : B) : Type 0 where
  made_of : A
  is : found ≡ Some made_of
  gives : f made_of ≡ b

made : {A B : Type 0} (f : A → B) (o : Option A) (b : B) → option_map f o ≡ Some b → IsMade f o b
made f None b e = cc
made f (Some a) b e = record { made_of = a; is = refl; gives = cc }

pub none_made : {A B : Type 0} (f : A → B) (o : Option A) → option_map f o ≡ None → o ≡ None
none_made f None e = refl
none_made f (Some a) e = cc

-- the instance of lists, with no frozen job
pub instance_of_lists : (s : DayState) (places : List Bytes) (teams : List Team) (tasks : List Task) (travel : List (List ℕ)) → places ≡ s.places → teams ≡ s.teams → tasks ≡ s.tasks
    → travel ≡ (day_instance s).travel → unfrozen places teams tasks travel ≡ day_instance (record s { frozen = [] })
instance_of_lists s places teams tasks travel p t j m =
    rw (p, t, j, m) (ap (λ (q : Plan). record { places = s.places; teams = s.teams; tasks = s.tasks; travel = (day_instance s).travel; frozen = q }) (sym (plan_of_none s)))

-- ---- the task that is told as faulty is one of the plan's

all_below : (n : ℕ) → All (λ j. j < n) (below n)
all_below n k d l =
    let m = length-range_with_len 0 n in
    let e = get_or-range_with_len 0 n k d (omega arith) in
    omega arith

each_passes : {X A : Type 0} (P : A → Type 0) (f : X → List A) (xs : List X) → ((x : X) → All P (f x)) → All P (flat_map f xs)
each_passes P f [] all = All-nil P
each_passes P f (x ∷ xs) all = All-append P (f x) (flat_map f xs) (all x) (each_passes P f xs all)

first_passes : {X : Type 0} (P : X → Type 0) (xs : List X) (x : X) → All P xs → slice_get xs 0 ≡ Some x → P x
first_passes P [] x all e = cc
first_passes P (y ∷ ys) x all e = let z : y ≡ x = cc in subst P z (All-head P y ys all)

pub faulty_below : (i : Instance) (p : Plan) (j : ℕ) → faulty_task i p ≡ Some j → j < length p
faulty_below i p j =
    let Below : ℕ → Type 0 = λ j. j < length p in
    let of_team = λ (k : ℕ). filter (is_first_clash i p k) (below (length p)) in
    let bad = λ (j : ℕ). is_bad i j (job_of p j) in
    let tasks = below (length p) in
    let all = all_below (length p) in
    let of_teams = each_passes Below of_team (below (length i.teams)) (λ k. All-filter (is_first_clash i p k) Below tasks all) in
    first_passes Below (faulty_tasks i p) j (All-append Below (filter bad tasks) (flat_map of_team (below (length i.teams))) (All-filter bad Below tasks all) of_teams)

-- the law of the first fault
abbrev pub Told : Type 0
Told = (i : Instance) (p : Plan) → AreParts i.places i.teams i.tasks → IsPlanOf i p → (faulty_task i p ≡ None) ↔ IsFeasible i p

module _ (s : DayState) where
  pub numbers_below : (teams : List Bytes) → All (λ name. has_team s name ≡ true) teams → All (λ k. k < length s.teams) (map (team_number s) teams)
  numbers_below teams known =
      All-map (λ k. k < length s.teams) (team_number s) teams (All-weaker (λ name. has_team s name ≡ true) (λ name. team_number s name < length s.teams) (number_below s) teams known)

  abbrev Known : NamedJob → Type 0
  Known = AreTeamsKnown s

  module _ (jobs : List NamedJob) (known : All (AreTeamsKnown s) jobs) where
    team_known : (k j t : ℕ) → Does (plan_of_jobs s jobs) k j t → k < length s.teams
    team_known k j t does = All-contains (λ k. k < length s.teams) does.0.teams k below_all does.3
      where
        job_at : Task → Option Job
        job_at t = option_map (job_by_number s) (find (λ job. bytes_eq t.name job.task) jobs)

        at : get_or (plan_of_jobs s jobs) j None ≡ job_at (get_or s.tasks j no_task)
        at =
            let l = job_known (plan_of_jobs s jobs) j does.0 does.1 in
            let n = length-map s.tasks job_at in
            get_or-map job_at s.tasks j no_task None (omega arith)

        below_all : All (λ k. k < length s.teams) does.0.teams
        below_all =
            let name = (get_or s.tasks j no_task).name in
            let m = made (job_by_number s) (find (λ job. bytes_eq name job.task) jobs) does.0 (sym at ∙ does.1) in
            let teams = found_passes Known (λ job. bytes_eq name job.task) jobs m.made_of known m.is in
            subst (λ (job : Job). All (λ k. k < length s.teams) job.teams) m.gives (numbers_below m.made_of.teams teams)

    -- the plan of jobs whose teams are known is one of the instance
    pub is_plan : IsPlanOf (day_instance (record s { frozen = [] })) (plan_of_jobs s jobs)
    is_plan = record { whole = length-map s.tasks _; known = team_known }

  module _ (is : IsState s) (told : Told) where
    pub doable : (jobs : List NamedJob) → All (AreTeamsKnown s) jobs → faulty_job s jobs ≡ None → AreDoable s jobs
    doable jobs known none = record {
      known = known;
      feasible = (told (day_instance (record s { frozen = [] })) (plan_of_jobs s jobs) is.parts (is_plan jobs known)).0 (none_made _ (faulty_task (day_instance s) (plan_of_jobs s jobs)) none);
    }

    -- no job is faulty where there is none
    pub none_faulty : ((i : Instance) → IsFeasible i (empty_plan (length i.tasks))) → faulty_job s [] ≡ None
    none_faulty empty =
        let i = day_instance (record s { frozen = [] }) in
        let feasible : IsFeasible i (plan_of_jobs s []) = subst (IsFeasible i) (sym (plan_of_none s)) (empty i) in
        ap (option_map _) ((told i (plan_of_jobs s []) is.parts (is_plan [] (All-nil Known))).1 feasible)

  -- the names of a plan's teams are known
  name_known : (k : ℕ) → k < length s.teams → has_team s (team_of (day_instance s) k).name ≡ true
  name_known k l =
      let name = (team_of (day_instance s) k).name in
      list_any_at (is_team name) s.teams k no_team l ((bytes_eq-Decides name name).1 refl)

  module _ (p : Plan) (jobs : (j : ℕ) (job : Job) → job_of p j ≡ Some job → IsJob (day_instance s) j job) where
    teams_known : (j : ℕ) (job : Job) → IsJob (day_instance s) j job → AreTeamsKnown s (job_by_names (day_instance s) j job)
    teams_known j job is =
        All-map (λ name. has_team s name ≡ true) (λ k. (team_of (day_instance s) k).name) job.teams
        (λ n d l. name_known (get_or job.teams n d) (is.known (get_or job.teams n d) (Contains-get_or job.teams n d l)))

    named_known : (t j : ℕ) (o : Option Job) → ((job : Job) → o ≡ Some job → IsJob (day_instance s) j job) → All Known (named_at (day_instance s) t j o)
    named_known t j None are = All-nil Known
    named_known t j (Some job) are =
        by_test (nat_eq job.start t) (λ u. rw u (All-cons Known (job_by_names (day_instance s) j job) [] (teams_known j job (are job refl)) (All-nil Known))) (λ u. rw u (All-nil Known))

    pub plan_known : All (AreTeamsKnown s) (jobs_by_names (day_instance s) p)
    plan_known =
        each_passes Known (jobs_at (day_instance s) p) (below (LAST_MINUTE + 1))
        (λ t. each_passes Known (λ j. named_at (day_instance s) t j (job_of p j)) (below (length p)) (λ j. named_known t j (job_of p j) (jobs j)))

-- ---- the verdict of the plan of jobs

-- the law of the task that is told
abbrev pub Names : Type 0
Names = (i : Instance) (p : Plan) (v : PlanVerdict) → IsPlanOf i p → IsFeasibility i p v → faulty_task i p ≡ task_named v

-- the verdict of a plan of jobs, as it is found
pub record IsVerdictOf (s : DayState) (jobs : List NamedJob) (i : Instance) (p : Plan) (v : PlanVerdict) : Type 0 where
  pub known : All (AreTeamsKnown s) jobs
  pub instance : i ≡ day_instance (record s { frozen = [] })
  pub plan : p ≡ plan_of_jobs s jobs
  pub verdict : IsFeasibility i p v

pub plan_is_of : (s : DayState) (jobs : List NamedJob) (i : Instance) (p : Plan) → All (AreTeamsKnown s) jobs → i ≡ day_instance (record s { frozen = [] }) → p ≡ plan_of_jobs s jobs
    → IsPlanOf i p
plan_is_of s jobs i p known instance plan = rw (instance, plan) (is_plan s jobs known)

module _ {s : DayState} {jobs : List NamedJob} {i : Instance} {p : Plan} {v : PlanVerdict} (is : IsVerdictOf s jobs i p v) (names : Names) where
  named : faulty_task (day_instance s) (plan_of_jobs s jobs) ≡ task_named v
  named =
      let there : IsFeasibility (day_instance (record s { frozen = [] })) (plan_of_jobs s jobs) v =
      subst (λ i. IsFeasibility i (plan_of_jobs s jobs) v) is.instance (subst (λ p. IsFeasibility i p v) is.plan is.verdict) in
      names (day_instance (record s { frozen = [] })) (plan_of_jobs s jobs) v (is_plan s jobs is.known) there

  module _ (j : ℕ) (some : task_named v ≡ Some j) where
    pub task_below : j < length i.tasks
    task_below =
        let l = faulty_below (day_instance s) (plan_of_jobs s jobs) j (named ∙ some) in
        let n = length-map s.tasks (λ t. option_map (job_by_number s) (find (λ job. bytes_eq t.name job.task) jobs)) in
        subst (λ (i : Instance). j < length i.tasks) (sym is.instance) (omega arith)

    pub is_faulty : faulty_job s jobs ≡ Some (task_of i j).name
    is_faulty = ap (option_map (λ j. (task_of (day_instance s) j).name)) (named ∙ some) ∙ ap (λ i. Some (task_of i j).name) (sym is.instance)

  pub none_is_faulty : task_named v ≡ None → faulty_job s jobs ≡ None
  none_is_faulty none = ap (option_map (λ j. (task_of (day_instance s) j).name)) (named ∙ none)

-- ---- a plan's jobs by names

teams_below : (i : Instance) (p : Plan) (j k : ℕ) (o : Option Job) → IsPlanOf i p → job_of p j ≡ o → Contains (job_teams o) k → k < length i.teams
teams_below i p j k None is e has = let l = has.1 in absurd (omega arith)
teams_below i p j k (Some job) is e has = is.known k j job.start (job, e, refl, has)

-- the teams of a task's job are teams
pub teams_are : (i : Instance) (p : Plan) (j k : ℕ) → IsPlanOf i p → Contains (job_teams (job_of p j)) k → k < length i.teams
teams_are i p j k is has = teams_below i p j k (job_of p j) is refl has

pub all_minutes : (i : Instance) (p : Plan) (n : ℕ) (jobs : List NamedJob) → n ≡ LAST_MINUTE + 1 → jobs ≡ flat_map (jobs_at i p) (below n) → jobs ≡ jobs_by_names i p
all_minutes i p n jobs e is = is ∙ ap (λ n. flat_map (jobs_at i p) (below n)) e

module _ (i : Instance) (t j : ℕ) where
  -- a job that is begun at the minute, by names
  pub named_begun : (o : Option Job) (names : List Bytes) → option_eq nat_eq (option_map (λ job. job.start) o) (Some t) ≡ true → names ≡ map (λ k. (team_of i k).name) (job_teams o)
      → named_at i t j o ≡ record { task = (task_of i j).name; start = t; teams = names } ∷ []
  named_begun None names e n = cc
  named_begun (Some job) names e n =
      let s : job.start ≡ t = eqb-true job.start t e in
      rw (e, n) (ap (λ u. record { task = (task_of i j).name; start = u; teams = map (λ k. (team_of i k).name) job.teams } ∷ []) s)

  -- and none that is begun at another
  pub named_other : (o : Option Job) → option_eq nat_eq (option_map (λ job. job.start) o) (Some t) ≡ false → named_at i t j o ≡ []
  named_other None e = refl
  named_other (Some job) e = rw e refl
