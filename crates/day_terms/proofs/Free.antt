-- where no job is frozen, none of a plan's jobs is faulty
use Rattle.std.proofs.Common.{◌≡◌, ◌++◌, ℕ, zero, suc, Bool, false, List, [], ◌∷◌, Option, None, map, filter, not, option_map, refl, ap, ◌∙◌}
use Rattle.std.specs.Prelude.{find, flat_map, length, slice_get}
use Rattle.std.specs.List.{list_any}
use Rattle.std.specs.Option.{option_or}
use Rattle.crew_terms.specs.declared.Task.{Task}
use Rattle.crew_terms.specs.Instance.{Instance, task_of}
use Rattle.crew_terms.specs.Plan.{Plan as Jobs, Job, job_of}
use Rattle.day_terms.specs.declared.Entry.{Entry}
use Rattle.day_terms.specs.declared.Entry.TheVariants.{Place, Travel, RouteTime, DefaultTravel, Team, Task as NewTask, Cancel, Move, Longer, Needs, Sick, Shift, Skill, Unskill, Plan, Now, Thaw}
use Rattle.day_terms.specs.State.{DayState, NamedJob}
use Rattle.day_terms.specs.Instances.{day_instance, plan_of_jobs}
use Rattle.day_terms.specs.Faulty.{below, clashes, faulty_task, is_bad, is_first_clash, is_next, precedes}
use Rattle.day_terms.specs.Work.{first_by_task, is_job_of, needs_team}
use Rattle.day_terms.specs.Entries.{after_entry}
use Rattle.day_terms.specs.Refusal.{faulty_work, gone_work, work_against}

-- ---- tests that fail everywhere

none_left : {X : Type 0} (test : X → Bool) (xs : List X) → ((x : X) → test x ≡ false) → filter test xs ≡ []
none_left test [] fails = refl
none_left test (x ∷ xs) fails = rw (fails x) (none_left test xs fails)

none_found : {X : Type 0} (test : X → Bool) (xs : List X) → ((x : X) → test x ≡ false) → list_any test xs ≡ false
none_found test [] fails = refl
none_found test (x ∷ xs) fails = rw (fails x) (none_found test xs fails)

none_made : {X Y : Type 0} (f : X → List Y) (xs : List X) → ((x : X) → f x ≡ []) → flat_map f xs ≡ []
none_made f [] empty = refl
none_made f (x ∷ xs) empty = rw (empty x) (none_made f xs empty)

-- ---- a plan without jobs

module _ (i : Instance) (p : Jobs) (free : (j : ℕ) → job_of p j ≡ None) where
  none_bad : (j : ℕ) → is_bad i j (job_of p j) ≡ false
  none_bad j = ap (is_bad i j) (free j)

  first_of_none : (k j h : ℕ) → precedes p k j h ≡ false
  first_of_none k j h = rw (free j) refl

  next_to_none : (k j h : ℕ) → is_next p k j h ≡ false
  next_to_none k j h = rw (first_of_none k j h) refl

  no_clash : (k j : ℕ) → clashes i p k j ≡ false
  no_clash k j = none_found _ (below (length p)) (λ h. rw (next_to_none k j h) refl)

  no_first_clash : (k j : ℕ) → is_first_clash i p k j ≡ false
  no_first_clash k j = rw (no_clash k j) refl

  -- the first clash of each team
  abbrev first_clashes : ℕ → List ℕ
  first_clashes k = filter (is_first_clash i p k) (below (length p))

  pub no_fault : faulty_task i p ≡ None
  no_fault =
      let teams = below (length i.teams) in
      ap (λ js. slice_get (js ++ flat_map first_clashes teams) 0) (none_left (λ j. is_bad i j (job_of p j)) (below (length p)) none_bad)
      ∙ ap (λ js. slice_get js 0) (none_made first_clashes teams (λ k. none_left (is_first_clash i p k) (below (length p)) (no_first_clash k)))

-- ---- the state

abbrev nothing : Task → Option Job
nothing t = None

no_job : (tasks : List Task) (j : ℕ) → job_of (map nothing tasks) j ≡ None
no_job [] j = refl
no_job (t ∷ ts) zero = refl
no_job (t ∷ ts) (suc j) = no_job ts j

jobless : (s : DayState) (jobs : List NamedJob) → jobs ≡ [] → (j : ℕ) → job_of (plan_of_jobs s jobs) j ≡ None
jobless s jobs none j = ap (λ js. job_of (plan_of_jobs s js) j) none ∙ no_job s.tasks j

no_faulty_work : (s : DayState) → s.frozen ≡ [] → faulty_work s ≡ None
no_faulty_work s none = ap (option_map (λ j. (task_of (day_instance s) j).name)) (no_fault (day_instance s) (plan_of_jobs s s.frozen) (jobless s s.frozen none))

none_gone : (s : DayState) (test : NamedJob → Bool) → s.frozen ≡ [] → option_map (λ (job : NamedJob). job.task) (find test s.frozen) ≡ None
none_gone s test none = ap (λ jobs. option_map (λ (job : NamedJob). job.task) (find test jobs)) none

none_first : (s : DayState) (test : NamedJob → Bool) → s.frozen ≡ [] → option_map (λ (job : NamedJob). job.task) (first_by_task s (filter test s.frozen)) ≡ None
none_first s test none = ap (λ jobs. option_map (λ (job : NamedJob). job.task) (first_by_task s (filter test jobs))) none

neither : (first second : Option (List ℕ)) → first ≡ None → second ≡ None → option_or first second ≡ None
neither first second e f = rw (e, f) refl

pub nothing_forbidden : (s : DayState) (entry : Entry) → s.frozen ≡ [] → work_against s entry ≡ None
nothing_forbidden s (Place name) none = no_faulty_work (after_entry s (Place name)) none
nothing_forbidden s (Travel from to minutes) none = no_faulty_work (after_entry s (Travel from to minutes)) none
nothing_forbidden s (RouteTime from to minutes) none = no_faulty_work (after_entry s (RouteTime from to minutes)) none
nothing_forbidden s (DefaultTravel minutes) none = no_faulty_work (after_entry s (DefaultTravel minutes)) none
nothing_forbidden s (Team name home from until skills) none = no_faulty_work (after_entry s (Team name home from until skills)) none
nothing_forbidden s (NewTask name place earliest latest minutes teams skills) none =
    no_faulty_work (after_entry s (NewTask name place earliest latest minutes teams skills)) none
nothing_forbidden s (Cancel task) none = neither (gone_work s (Cancel task)) _ (none_gone s (is_job_of task) none) (no_faulty_work (after_entry s (Cancel task)) none)
nothing_forbidden s (Move task earliest latest) none = no_faulty_work (after_entry s (Move task earliest latest)) none
nothing_forbidden s (Longer task minutes) none = no_faulty_work (after_entry s (Longer task minutes)) none
nothing_forbidden s (Needs task teams) none = no_faulty_work (after_entry s (Needs task teams)) none
nothing_forbidden s (Sick team) none = neither (gone_work s (Sick team)) _ (none_first s (needs_team team) none) (no_faulty_work (after_entry s (Sick team)) none)
nothing_forbidden s (Shift team from until) none = no_faulty_work (after_entry s (Shift team from until)) none
nothing_forbidden s (Skill team skill) none = no_faulty_work (after_entry s (Skill team skill)) none
nothing_forbidden s (Unskill team skill) none = no_faulty_work (after_entry s (Unskill team skill)) none
nothing_forbidden s (Plan nodes) none = refl
nothing_forbidden s (Now time) none = refl
nothing_forbidden s (Thaw task) none = no_faulty_work (after_entry s (Thaw task)) (ap (filter (λ job. not (is_job_of task job))) none)
