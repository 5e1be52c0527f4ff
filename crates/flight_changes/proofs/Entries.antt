-- what an entry that changes the lists makes of jobs, and what frozen jobs say to it
use Rattle.std.proofs.Common.{◌≡◌, ◌++◌, ◌||◌, Bool, true, false, not, List, [], ◌∷◌, Option, Some, None, length, map, filter, fold, refl, sym, ap, subst, ◌∙◌, if◌then◌else◌}
use Rattle.std.specs.Prelude.{All, bytes_eq, find, nat_lt, option_map}
use Rattle.std.specs.List.{list_any}
use Rattle.std.specs.Option.{option_or}
use Rattle.std.proofs.lemmas.List.Elements.{All-cons, All-filter, All-head, All-nil, All-tail, All-weaker}
use Rattle.std.proofs.lemmas.List.Folds.{list_any-append}
use Rattle.crew_terms.specs.Instance.{Instance}
use Rattle.crew_terms.specs.Legal.{IsFeasible}
use Rattle.crew_terms.specs.Plan.{empty_plan}
use Rattle.crew_terms.specs.declared.Team.{Team}
use Rattle.day_terms.specs.ByTest.{by_test}
use Rattle.day_terms.specs.Entries.{after_entry}
use Rattle.day_terms.specs.Refusal.{faulty_work, gone_work, refusal_by_lists, work_against}
use Rattle.day_terms.specs.Instances.{task_number}
use Rattle.day_terms.specs.State.{DayState, NamedJob, is_team}
use Rattle.day_terms.specs.Work.{faulty_job, first_by_task, is_job_of, lesser_by_task, needs_team}
use Rattle.day_terms.specs.declared.Entry.{Entry}
use Rattle.day_terms.specs.declared.Entry.TheVariants.{Place, Travel, RouteTime, DefaultTravel, Team as NewTeam, Task as NewTask, Cancel, Move, Longer, Needs, Sick, Shift, Skill, Unskill, Plan, Now, Thaw}
use Rattle.flight_changes.specs.Limits.{AreDoable, AreTeamsKnown, IsListEntry, IsState, IsWork}
use Rattle.flight_changes.specs.Named.{left_jobs}
use Rattle.flight_changes.proofs.NamedJobs.{Told, doable, none_faulty}
use Rattle.flight_changes.proofs.Keyed.{Bytes, same_bytes}

-- the lists with these jobs
abbrev pub with_jobs : DayState → List NamedJob → List NamedJob → DayState
with_jobs s last frozen = record s { last_plan = last; frozen = frozen; plans = [] }

module _ (s : DayState) (last frozen : List NamedJob) where
  -- the lists refuse it, whatever jobs there are
  pub same_refusal : (e : Entry) → refusal_by_lists (with_jobs s last frozen) e ≡ refusal_by_lists s e
  same_refusal (Place name) = refl
  same_refusal (Travel from to minutes) = refl
  same_refusal (RouteTime from to minutes) = refl
  same_refusal (DefaultTravel minutes) = refl
  same_refusal (NewTeam name home from until skills) = refl
  same_refusal (NewTask name place earliest latest minutes teams skills) = refl
  same_refusal (Cancel task) = refl
  same_refusal (Move task earliest latest) = refl
  same_refusal (Longer task minutes) = refl
  same_refusal (Needs task teams) = refl
  same_refusal (Sick team) = refl
  same_refusal (Shift team from until) = refl
  same_refusal (Skill team skill) = refl
  same_refusal (Unskill team skill) = refl
  same_refusal (Plan nodes) = refl
  same_refusal (Now time) = refl
  same_refusal (Thaw task) = refl

  -- the jobs of a state after an entry that changes the lists
  pub jobs_after : (e : Entry) → IsListEntry e → after_entry (with_jobs s last frozen) e ≡ with_jobs (after_entry s e) (left_jobs e last) frozen
  jobs_after (Place name) is = refl
  jobs_after (Travel from to minutes) is = refl
  jobs_after (RouteTime from to minutes) is = refl
  jobs_after (DefaultTravel minutes) is = refl
  jobs_after (NewTeam name home from until skills) is = refl
  jobs_after (NewTask name place earliest latest minutes teams skills) is = refl
  jobs_after (Cancel task) is = refl
  jobs_after (Move task earliest latest) is = refl
  jobs_after (Longer task minutes) is = refl
  jobs_after (Needs task teams) is = refl
  jobs_after (Sick team) is = refl
  jobs_after (Shift team from until) is = refl
  jobs_after (Skill team skill) is = refl
  jobs_after (Unskill team skill) is = refl
  jobs_after (Plan nodes) is = absurd is
  jobs_after (Now time) is = absurd is
  jobs_after (Thaw task) is = absurd is

-- the job whose task has the least number is the same, whatever jobs there are
module _ (s : DayState) (last frozen : List NamedJob) where
  same_lesser : (found : Option NamedJob) (job : NamedJob) → lesser_by_task (with_jobs s last frozen) found job ≡ lesser_by_task s found job
  same_lesser None job = refl
  same_lesser (Some found) job = refl

  first_after : (jobs : List NamedJob) (found : Option NamedJob) → fold (lesser_by_task (with_jobs s last frozen)) found jobs ≡ fold (lesser_by_task s) found jobs
  first_after [] found = refl
  first_after (job ∷ jobs) found = ap (λ a. fold (lesser_by_task (with_jobs s last frozen)) a jobs) (same_lesser found job) ∙ first_after jobs (lesser_by_task s found job)

  pub same_first : (jobs : List NamedJob) → first_by_task (with_jobs s last frozen) jobs ≡ first_by_task s jobs
  same_first jobs = first_after jobs None

-- what frozen work says to an entry that changes the lists
pub work_is : (s : DayState) (e : Entry) → IsListEntry e → work_against s e ≡ option_or (gone_work s e) (faulty_work (after_entry s e))
work_is s (Place name) is = refl
work_is s (Travel from to minutes) is = refl
work_is s (RouteTime from to minutes) is = refl
work_is s (DefaultTravel minutes) is = refl
work_is s (NewTeam name home from until skills) is = refl
work_is s (NewTask name place earliest latest minutes teams skills) is = refl
work_is s (Cancel task) is = refl
work_is s (Move task earliest latest) is = refl
work_is s (Longer task minutes) is = refl
work_is s (Needs task teams) is = refl
work_is s (Sick team) is = refl
work_is s (Shift team from until) is = refl
work_is s (Skill team skill) is = refl
work_is s (Unskill team skill) is = refl
work_is s (Plan nodes) is = absurd is
work_is s (Now time) is = absurd is
work_is s (Thaw task) is = absurd is

-- where no job is frozen, none would be gone
pub none_gone : (s : DayState) (last : List NamedJob) (e : Entry) → gone_work (with_jobs s last []) e ≡ None
none_gone s last (Place name) = refl
none_gone s last (Travel from to minutes) = refl
none_gone s last (RouteTime from to minutes) = refl
none_gone s last (DefaultTravel minutes) = refl
none_gone s last (NewTeam name home from until skills) = refl
none_gone s last (NewTask name place earliest latest minutes teams skills) = refl
none_gone s last (Cancel task) = refl
none_gone s last (Move task earliest latest) = refl
none_gone s last (Longer task minutes) = refl
none_gone s last (Needs task teams) = refl
none_gone s last (Sick team) = refl
none_gone s last (Shift team from until) = refl
none_gone s last (Skill team skill) = refl
none_gone s last (Unskill team skill) = refl
none_gone s last (Plan nodes) = refl
none_gone s last (Now time) = refl
none_gone s last (Thaw task) = refl

-- and nothing stands against the entry
pub none_against : (s : DayState) (last : List NamedJob) (e : Entry) → IsListEntry e → IsState (after_entry s e) → Told
    → ((i : Instance) → IsFeasible i (empty_plan (length i.tasks))) → work_against (with_jobs s last []) e ≡ None
none_against s last e is limits told empty =
    work_is (with_jobs s last []) e is
    ∙ ap (λ o. option_or o (faulty_work (after_entry (with_jobs s last []) e))) (none_gone s last e)
    ∙ ap faulty_work (jobs_after s last [] e is)
    ∙ none_faulty (after_entry s e) limits told empty

-- ---- teams that stay

-- a team has the name
abbrev has : List Team → Bytes → Bool
has teams name = list_any (is_team name) teams

abbrev Known : List Team → NamedJob → Type 0
Known teams job = All (λ name. has teams name ≡ true) job.teams

still_known : (old new : List Team) → ((name : Bytes) → has old name ≡ true → has new name ≡ true) → (jobs : List NamedJob) → All (Known old) jobs → All (Known new) jobs
still_known old new still jobs known =
    All-weaker (Known old) (Known new) (λ job. All-weaker (λ name. has old name ≡ true) (λ name. has new name ≡ true) still job.teams) jobs known

or_true : (a b : Bool) → a ≡ true → a || b ≡ true
or_true true b e = refl
or_true false b e = cc

one_more : (teams : List Team) (team : Team) (name : Bytes) → has teams name ≡ true → has (teams ++ team ∷ []) name ≡ true
one_more teams team name h = list_any-append (is_team name) teams (team ∷ []) ∙ or_true (has teams name) _ h

module _ (team : Bytes) (change : Team → Team) (keeps : (t : Team) → (change t).name ≡ t.name) where
  abbrev changed : Team → Team
  changed t = if is_team team t then change t else t

  keeps_name : (t : Team) → (changed t).name ≡ t.name
  keeps_name t = by_test (is_team team t) (λ u. rw u (keeps t)) (λ u. rw u refl)

  same_names : (teams : List Team) (name : Bytes) → has (map changed teams) name ≡ has teams name
  same_names [] name = refl
  same_names (t ∷ teams) name = ap (λ n. bytes_eq name n || has (map changed teams) name) (keeps_name t) ∙ ap (λ b. is_team name t || b) (same_names teams name)

  stays_known : (teams : List Team) (jobs : List NamedJob) → All (Known teams) jobs → All (Known (map changed teams)) jobs
  stays_known teams = still_known teams (map changed teams) (λ name h. same_names teams name ∙ h)

module _ (team : Bytes) where
  abbrev without : List Team → List Team
  without teams = filter (λ t. not (is_team team t)) teams

  -- another team than the one that is gone
  other_stays : (teams : List Team) (name : Bytes) → bytes_eq team name ≡ false → has teams name ≡ true → has (without teams) name ≡ true
  other_stays [] name other h = h
  other_stays (t ∷ teams) name other h =
      by_test (is_team name t)
      (λ u. let gone : is_team team t ≡ false = ap (bytes_eq team) (sym (same_bytes name t.name u)) ∙ other in rw (gone, u) refl)
      (λ u. let rest = other_stays teams name other (rw u at h) in
      by_test (is_team team t) (λ v. rw v rest) (λ v. rw (v, u) rest))

  others : (names : List Bytes) → list_any (bytes_eq team) names ≡ false → All (λ name. bytes_eq team name ≡ false) names
  others [] none = All-nil (λ name. bytes_eq team name ≡ false)
  others (name ∷ names) none =
      by_test (bytes_eq team name) (λ u. let e : true ≡ false = rw u at none in cc) (λ u. All-cons (λ name. bytes_eq team name ≡ false) name names u (others names (rw u at none)))

  job_stays : (teams : List Team) (job : NamedJob) → needs_team team job ≡ false → Known teams job → Known (without teams) job
  job_stays teams job free known k d l = other_stays teams _ (others job.teams free k d l) (known k d l)

  jobs_stay : (teams : List Team) (jobs : List NamedJob) → All (Known teams) jobs → All (Known (without teams)) (filter (λ job. not (needs_team team job)) jobs)
  jobs_stay teams [] known = All-nil (Known (without teams))
  jobs_stay teams (job ∷ jobs) known =
      let rest = jobs_stay teams jobs (All-tail (Known teams) job jobs known) in
      by_test (needs_team team job) (λ u. rw u rest)
      (λ u. rw u (All-cons (Known (without teams)) job _ (job_stays teams job u (All-head (Known teams) job jobs known)) rest))

-- the teams of the jobs that are left are there after the entry
pub left_known : (s : DayState) (e : Entry) → IsListEntry e → (jobs : List NamedJob) → All (AreTeamsKnown s) jobs → All (AreTeamsKnown (after_entry s e)) (left_jobs e jobs)
left_known s (Place name) is jobs known = known
left_known s (Travel from to minutes) is jobs known = known
left_known s (RouteTime from to minutes) is jobs known = known
left_known s (DefaultTravel minutes) is jobs known = known
left_known s (NewTeam name home from until skills) is jobs known = still_known s.teams _ (one_more s.teams _) jobs known
left_known s (NewTask name place earliest latest minutes teams skills) is jobs known = known
left_known s (Cancel task) is jobs known = All-filter (λ job. not (is_job_of task job)) (AreTeamsKnown s) jobs known
left_known s (Move task earliest latest) is jobs known = known
left_known s (Longer task minutes) is jobs known = known
left_known s (Needs task teams) is jobs known = known
left_known s (Sick team) is jobs known = jobs_stay team s.teams jobs known
left_known s (Shift team from until) is jobs known = stays_known team (λ t. record t { from = from; until = until }) (λ t. refl) s.teams jobs known
left_known s (Skill team skill) is jobs known = stays_known team _ (λ t. refl) s.teams jobs known
left_known s (Unskill team skill) is jobs known = stays_known team _ (λ t. refl) s.teams jobs known
left_known s (Plan nodes) is jobs known = absurd is
left_known s (Now time) is jobs known = absurd is
left_known s (Thaw task) is jobs known = absurd is

none_left_out : (test : NamedJob → Bool) (jobs : List NamedJob) → option_map (λ job. job.task) (find test jobs) ≡ None → filter (λ job. not (test job)) jobs ≡ jobs
none_left_out test [] none = refl
none_left_out test (job ∷ jobs) none =
    by_test (test job) (λ u. let e : Some job.task ≡ None = rw u at none in cc) (λ u. rw u (ap (λ rest. job ∷ rest) (none_left_out test jobs (rw u at none))))

none_mapped : (o : Option NamedJob) → option_map (λ (job : NamedJob). job.task) o ≡ None → o ≡ None
none_mapped None none = refl
none_mapped (Some job) none = cc

-- what is found stays found
found_stays : (s : DayState) (jobs : List NamedJob) (found : NamedJob) → fold (lesser_by_task s) (Some found) jobs ≡ None → ⊥
found_stays s [] found none = cc
found_stays s (job ∷ jobs) found none = found_stays s jobs (if nat_lt (task_number s job.task) (task_number s found.task) then job else found) none

none_first_left_out : (s : DayState) (test : NamedJob → Bool) (jobs : List NamedJob) → option_map (λ job. job.task) (first_by_task s (filter test jobs)) ≡ None
    → filter (λ job. not (test job)) jobs ≡ jobs
none_first_left_out s test [] none = refl
none_first_left_out s test (job ∷ jobs) none =
    by_test (test job)
    (λ u. absurd (found_stays s (filter test jobs) job (none_mapped (fold (lesser_by_task s) (Some job) (filter test jobs)) (rw u at none))))
    (λ u. rw u (ap (λ rest. job ∷ rest) (none_first_left_out s test jobs (rw u at none))))

-- all frozen jobs are left where none is gone
pub all_left : (s : DayState) (e : Entry) → gone_work s e ≡ None → left_jobs e s.frozen ≡ s.frozen
all_left s (Place name) none = refl
all_left s (Travel from to minutes) none = refl
all_left s (RouteTime from to minutes) none = refl
all_left s (DefaultTravel minutes) none = refl
all_left s (NewTeam name home from until skills) none = refl
all_left s (NewTask name place earliest latest minutes teams skills) none = refl
all_left s (Cancel task) none = none_left_out (is_job_of task) s.frozen none
all_left s (Move task earliest latest) none = refl
all_left s (Longer task minutes) none = refl
all_left s (Needs task teams) none = refl
all_left s (Sick team) none = none_first_left_out s (needs_team team) s.frozen none
all_left s (Shift team from until) none = refl
all_left s (Skill team skill) none = refl
all_left s (Unskill team skill) none = refl
all_left s (Plan nodes) none = refl
all_left s (Now time) none = refl
all_left s (Thaw task) none = refl

-- ---- the work of a state

-- the teams can do jobs whatever other jobs there are
pub doable_beside : (s : DayState) (last frozen jobs : List NamedJob) → AreDoable s jobs → AreDoable (with_jobs s last frozen) jobs
doable_beside s last frozen jobs d = record { known = d.known; feasible = d.feasible }

pub doable_alone : (s : DayState) (last frozen jobs : List NamedJob) → AreDoable (with_jobs s last frozen) jobs → AreDoable s jobs
doable_alone s last frozen jobs d = record { known = d.known; feasible = d.feasible }

-- the work after an entry that changes the lists, where the teams can do the frozen jobs
pub work_after : (s : DayState) (last frozen : List NamedJob) (e : Entry) → IsListEntry e → All (AreTeamsKnown s) last → AreDoable (after_entry s e) frozen
    → IsWork (with_jobs (after_entry s e) (left_jobs e last) frozen)
work_after s last frozen e is known d = record {
  last_plan = left_known s e is last known;
  frozen = doable_beside (after_entry s e) (left_jobs e last) frozen frozen d;
}

-- the teams can do no jobs
pub none_doable : (s : DayState) → IsState s → Told → ((i : Instance) → IsFeasible i (empty_plan (length i.tasks))) → AreDoable s []
none_doable s limits told empty = doable s limits told [] (All-nil (AreTeamsKnown s)) (none_faulty s limits told empty)

-- the teams of the frozen jobs are there after an entry that ends none of them
pub frozen_known : (s : DayState) (last frozen : List NamedJob) (e : Entry) → IsListEntry e → gone_work (with_jobs s last frozen) e ≡ None
    → All (AreTeamsKnown s) frozen → All (AreTeamsKnown (after_entry s e)) frozen
frozen_known s last frozen e is none known =
    subst (All (AreTeamsKnown (after_entry s e))) (all_left (with_jobs s last frozen) e none) (left_known s e is frozen known)

-- what stands against an entry that ends no frozen work
pub work_found : (s : DayState) (last frozen : List NamedJob) (e : Entry) → IsListEntry e → gone_work (with_jobs s last frozen) e ≡ None
    → work_against (with_jobs s last frozen) e ≡ faulty_job (after_entry s e) frozen
work_found s last frozen e is none =
    work_is (with_jobs s last frozen) e is
    ∙ ap (λ o. option_or o (faulty_work (after_entry (with_jobs s last frozen) e))) none
    ∙ ap faulty_work (jobs_after s last frozen e is)
