-- the frozen jobs of a draft that changes
use Rattle.std.proofs.Common.{◌≡◌, ◌≤◌, ◌<◌, ◌-◌, ◌++◌, ◌∷◌, ◌⊎◌, inl, inr, ℕ, List, [], None, Some, length, get_or, set, arith, sym, ap, subst, ◌∙◌}
use Rattle.std.proofs.lemmas.Bool.{cases_eq, cases_lt}
use Rattle.std.proofs.lemmas.List.{get_or_append_left, get_or_past, get_or-append_right, get_or-set_other, get_or-set_same, length_push, length-replicate, length-set}
use Rattle.std.specs.List.{All}
use Rattle.std.proofs.lemmas.List.Elements.{All-contains, Contains-get_or}
use Rattle.crew_terms.specs.Instance.{Instance, no_task}
use Rattle.crew_terms.specs.Legal.{IsTeamList}
use Rattle.crew_terms.specs.Verdict.{IsPlanOf}
use Rattle.crew_terms.specs.Plan.{Plan, Job, job_of, empty_plan}
use Rattle.crew_terms.specs.declared.Task.{Task}
use Rattle.crew_terms.specs.declared.Team.{Team}
use Rattle.crew_terms.specs.EmptyPlan.{none_begun}
use Rattle.crew_instance.specs.Draft.{AreFrozen, AreTeamsFor, Draft, MayFreeze, filled, instance_of, task_at, unfrozen, with_task}

-- a job may still be frozen where its task stands as it did, and no team is gone
pub may_still : (d e : Draft) (j : ℕ) (job : Job) → task_at d j ≡ task_at e j → length d.teams ≤ length e.teams → MayFreeze d j job → MayFreeze e j job
may_still d e j job same more may = record {
  window = record {
    early = subst (λ (t : Task). t.earliest ≤ job.start) same may.window.early;
    late = subst (λ (t : Task). job.start ≤ t.latest) same may.window.late;
  };
  teams = record {
    list = record { rising = may.teams.list.rising; count = may.teams.list.count ∙ ap (λ (t : Task). t.teams) same };
    known = λ k c. let l = may.teams.known k c in omega arith;
  };
}

pub still_frozen : (d e : Draft) → d.tasks ≡ e.tasks → d.frozen ≡ e.frozen → length d.teams ≤ length e.teams → AreFrozen d → AreFrozen e
still_frozen d e tasks frozen more are = record {
  whole = ap length (sym frozen) ∙ are.whole ∙ ap length tasks;
  jobs = λ j job at. may_still d e j job (ap (λ (ts : List Task). get_or ts j no_task) tasks) more (are.jobs j job (ap (λ p. job_of p j) frozen ∙ at));
}

-- the teams of a job, one by one
pub teams_for : (d : Draft) (j : ℕ) (job : Job) → IsTeamList (instance_of d) j job → All (λ k. k < length d.teams) job.teams → AreTeamsFor d j job
teams_for d j job list known = record { list = list; known = λ k c. All-contains (λ h. h < length d.teams) job.teams k known c }

pub all_known : (d : Draft) (j : ℕ) (job : Job) → AreTeamsFor d j job → All (λ k. k < length d.teams) job.teams
all_known d j job are k x l = are.known (get_or job.teams k x) (Contains-get_or job.teams k x l)

-- nothing is frozen
pub no_job_frozen : (d : Draft) → d.frozen ≡ empty_plan (length d.tasks) → AreFrozen d
no_job_frozen d none = record {
  whole = ap length none ∙ length-replicate (length d.tasks) None;
  jobs = λ j job at. absurd (none_begun (length d.tasks) j job (ap (λ p. job_of p j) (sym none) ∙ at));
}

-- a task more
job_before : (p : Plan) (j : ℕ) (job : Job) → job_of (p ++ None ∷ []) j ≡ Some job → j < length p
job_before p j job at = here (cases_lt j (length p))
  where
    past : length p ≤ j → job_of (None ∷ []) (j - length p) ≡ None
    past m = elim (cases_eq (j - length p) 0) [
      | inl e ↦ ap (job_of (None ∷ [])) e
      | inr ne ↦ get_or_past (None ∷ []) (j - length p) None (omega arith)
    ]

    here : (j < length p) ⊎ (length p ≤ j) → j < length p
    here (inl l) = l
    here (inr m) = let none : None ≡ Some job = sym (past m) ∙ sym (get_or-append_right p (None ∷ []) (length p) j None (λ k. length p) m) ∙ at in cc

pub frozen_with_task : (d : Draft) (t : Task) → AreFrozen d → AreFrozen (with_task d t)
frozen_with_task d t are = record {
  whole = let a = length_push d.frozen None in let b = length_push d.tasks t in let c = are.whole in omega arith;
  jobs = λ j job at.
      let l = job_before d.frozen j job at in
      let below : j < length d.tasks = let w = are.whole in omega arith in
      let same : task_at d j ≡ task_at (with_task d t) j = sym (get_or_append_left d.tasks (t ∷ []) no_task j below) in
      may_still d (with_task d t) j job same (omega arith) (are.jobs j job (sym (get_or_append_left d.frozen (None ∷ []) None j l) ∙ at));
}

-- a job that is frozen
pub frozen_with_job : (d : Draft) (j : ℕ) (job : Job) → j < length d.tasks → MayFreeze d j job → AreFrozen d → AreFrozen (record d { frozen = set d.frozen j (Some job) })
frozen_with_job d j job below may are = record {
  whole = length-set d.frozen j (Some job) ∙ are.whole;
  jobs = λ h other at. may_still d (record d { frozen = set d.frozen j (Some job) }) h other (λ k. task_at d h) (omega arith) (pick h other at (cases_eq h j));
}
  where
    pick : (h : ℕ) (other : Job) → job_of (set d.frozen j (Some job)) h ≡ Some other → (h ≡ j) ⊎ (h ≡ j → ⊥) → MayFreeze d h other
    pick h other at (inl e) =
        let w = are.whole in
        let l : j < length d.frozen = omega arith in
        let f : Some job ≡ Some other = sym (get_or-set_same d.frozen j (Some job) None l) ∙ ap (job_of (set d.frozen j (Some job))) (sym e) ∙ at in
        let g : job ≡ other = cc in
        subst (λ n. MayFreeze d n other) (sym e) (subst (MayFreeze d j) g may)
    pick h other at (inr ne) = are.jobs h other (sym (get_or-set_other d.frozen j h (Some job) None ne) ∙ at)

-- an instance with the parts of a draft is that of the draft but for the frozen jobs
pub parts_of : (d : Draft) (i : Instance) (places : List (List ℕ)) (teams : List Team) (tasks : List Task) (travel : List (List ℕ))
    → i ≡ unfrozen places teams tasks travel → places ≡ d.places → teams ≡ d.teams → tasks ≡ d.tasks → travel ≡ (instance_of d).travel
    → i ≡ record (instance_of d) { frozen = empty_plan (length d.tasks) }
parts_of d i places teams tasks travel is a b c e = is ∙ (λ x. unfrozen (a x) (b x) (c x) (e x))

-- the frozen jobs as they are kept, filled up to its tasks
pub kept_frozen : (d : Draft) (i : Instance) (n : ℕ) (kept p : Plan) → i ≡ record (instance_of d) { frozen = empty_plan (length d.tasks) } → p ≡ kept
    → n ≡ length d.tasks → filled n kept ≡ d.frozen → filled (length i.tasks) p ≡ d.frozen
kept_frozen d i n kept p same is count frozen =
    let e : length i.tasks ≡ n = ap (λ x. length x.tasks) same ∙ sym count in
    (λ x. filled (e x) (is x)) ∙ frozen

-- they are a plan of the instance
pub are_plan_of : (d : Draft) (i : Instance) (p : Plan) → AreFrozen d → i ≡ record (instance_of d) { frozen = empty_plan (length d.tasks) } → p ≡ d.frozen → IsPlanOf i p
are_plan_of d i p are same frozen = record {
  whole = ap length frozen ∙ are.whole ∙ ap (λ x. length x.tasks) (sym same);
  known = λ k j t (job, at, s, m). let l = (are.jobs j job (ap (λ q. job_of q j) (sym frozen) ∙ at)).teams.known k m in let e = ap (λ x. length x.teams) same in omega arith;
}
