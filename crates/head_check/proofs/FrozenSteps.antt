-- the steps of the frozen jobs
use Rattle.std.proofs.Common.{◌≡◌, ◌≤◌, ◌<◌, ◌+◌, ◌-◌, ℕ, zero, suc, length, get_or, ap, subst, sym, refl, ◌∙◌, arith, inl, inr, Some, None, Result, Err}
use Rattle.std.specs.Prelude.{Contains, slice_set}
use Rattle.std.specs.Global.{Box}
use Rattle.std.proofs.lemmas.Bool.{cases_eq}
use Rattle.crew_terms.specs.Instance.{Instance, task_of}
use Rattle.crew_terms.specs.Plan.{Plan, Job}
use Rattle.crew_terms.specs.Legal.{IsInWindow, IsTeamList, IsFeasible}
use Rattle.crew_terms.specs.Verdict.{IsFeasibility, Feasible}
use Rattle.crew_terms.specs.declared.PlanVerdict.{PlanVerdict}
use Rattle.crew_terms.specs.declared.PlanVerdict.TheVariants.{Legal}
use Rattle.crew_instance.specs.Draft.{Draft as Parts, AreTeamsFor, FirstFaultNames, IsBadFrozen, instance_of, known_times, task_named, with_frozen}
use Rattle.crew_instance.specs.Times.{IsFirstMissing}
use Rattle.crew_instance.specs.Rules.{IsFinishFault, IsFreezeFault}
use Rattle.crew_instance.specs.declared.faults.BuildFault.{BuildFault}
use Rattle.crew_instance.specs.declared.faults.BuildFault.TheVariants.{OutOfMemory, BadWindow, BadTeams, MissingTravel, BadFrozen}
use Rattle.dossier_terms.specs.declared.Reason.TheVariants.{Instance as BadInstance}
use Rattle.dossier_terms.specs.Reading.{Answer, Opening, More as Goes, Keeps, Pools, keeps_due}
use Rattle.dossier_terms.specs.Rules.{Must, Holds as Met, Fails, Goes as Due, On}
use Rattle.dossier_terms.specs.HeadTable.{CanFreeze, after_keep}
use Rattle.head_check.specs.Head.{IsFull, GoesOn, HeadTells, instance_so_far, opening_of, read_of, refusal_for}
use Rattle.head_check.specs.declared.due.Head.{Head}
use Rattle.head_check.specs.declared.due.HeadDue.{HeadDue}
use Rattle.head_check.specs.declared.due.HeadDue.TheVariants.{Keep}
use Rattle.line_in.specs.declared.refusals.Refusal.{Refusal}
use Rattle.head_check.proofs.HeadSteps.{at_most}

-- ---- what is due behind a frozen job

pub keep_due : (head : Box Head) (more from : ℕ) → IsFull head.value → 0 < more
    → GoesOn (after_keep (opening_of head.value) more from (read_of head.value)) (Keep head (more - 1) from)
keep_due head zero from full l = absurd (omega arith)
keep_due head (suc k) from full l = record {
  says = On (ap (λ m. Goes (Keeps (opening_of head.value) m from (read_of head.value))) (let e : suc k - 1 ≡ k = omega arith in e));
  holds = full;
}

-- what is said where all frozen jobs are read
abbrev pub AfterLast : Opening → Instance → Answer → Type 0
AfterLast o i = Must (IsFeasible i i.frozen) BadInstance (Due (Pools o.form i o.size.nodes))

pub last_keep : (o : Opening) (i : Instance) (more from : ℕ) (step : Result HeadDue Refusal) → more ≤ 0
    → HeadTells (AfterLast o i) step → HeadTells (after_keep o more from i) step
last_keep o i zero from step l t = t
last_keep o i (suc k) from step l t = absurd (omega arith)

-- where the frozen jobs are feasible, this is what is due
pub keeps_say : (o : Opening) (k from : ℕ) (i : Instance) (said : Answer) → IsFeasible i i.frozen → after_keep o k from i said → Due (keeps_due o k from i) said
keeps_say o zero from i said feasible (Met fact rest) = rest
keeps_say o zero from i said feasible (Fails broken told) = absurd (broken feasible)
keeps_say o (suc k) from i said feasible t = t

-- the instance that a builder gives is the one that is read
pub instance_is : (b : Head) (i : Instance) → IsFull b → i ≡ instance_of b.builder → i ≡ read_of b
instance_is b i full e = e ∙ ap (instance_so_far b.builder) full.places

-- a plan has one first fault
abbrev pub HaveOneFeasibility : Type 0
HaveOneFeasibility = (i : Instance) (p : Plan) (v w : PlanVerdict) → IsFeasibility i p v → IsFeasibility i p w → v ≡ w

pub not_feasible : HaveOneFeasibility → (i : Instance) (p : Plan) (j : ℕ) → FirstFaultNames i p j → IsFeasible i p → ⊥
not_feasible one i p j fault feasible =
    let e : fault.told ≡ Legal = one i p fault.told Legal fault.first (Feasible feasible refl) in
    let n : None ≡ Some j = sym (ap task_named e) ∙ fault.named in
    absurd cc

-- where the builder gives no instance
pub keeps_fault : (b : Head) (fault : BuildFault) → IsFull b → HaveOneFeasibility → IsFinishFault fault
    → ((x y : ℕ) → fault ≡ MissingTravel x y → IsFirstMissing (known_times b.builder) x y) → ((j : ℕ) → fault ≡ BadFrozen j → IsBadFrozen b.builder j)
    → HeadTells (AfterLast (opening_of b) (read_of b)) (Err (refusal_for fault))
keeps_fault b OutOfMemory full one is missing bad = tt
keeps_fault b (MissingTravel x y) full one is missing bad =
    let m = (missing x y refl).missing in
    let l = m.from in
    let places = full.places in
    absurd (full.given x y (omega arith) m.to m.time)
keeps_fault b (BadFrozen j) full one is missing bad =
    let e : instance_of b.builder ≡ read_of b = instance_is b (instance_of b.builder) full refl in
    Fails (λ f. not_feasible one (instance_of b.builder) b.builder.frozen j (bad j refl).fault (subst (λ (i : Instance). IsFeasible i i.frozen) (sym e) f)) refl
keeps_fault b _ full one is missing bad = absurd is

-- ---- jobs that may be frozen

same_window : (i h : Instance) (j : ℕ) (job : Job) → i ≡ h → IsInWindow i j job → IsInWindow h j job
same_window i h j job e w = subst (λ i. IsInWindow i j job) e w

-- facts on numbers that are not broken
window_held : (i : Instance) (j : ℕ) (job : Job) → ((IsInWindow i j job → ⊥) → ⊥) → IsInWindow i j job
window_held i j job h = record {
  early = at_most (task_of i j).earliest job.start (λ no. h (λ w. no w.early));
  late = at_most job.start (task_of i j).latest (λ no. h (λ w. no w.late));
}

equal_held : (a b : ℕ) → ((a ≡ b → ⊥) → ⊥) → a ≡ b
equal_held a b h = elim (cases_eq a b) [
  | inl e ↦ e
  | inr n ↦ absurd (h n)
]

list_held : (i : Instance) (j : ℕ) (job : Job) → ((IsTeamList i j job → ⊥) → ⊥) → IsTeamList i j job
list_held i j job h = record {
  rising = λ k l. at_most (suc (get_or job.teams k 0)) (get_or job.teams (k + 1) 0) (λ no. h (λ t. no (t.rising k l)));
  count = equal_held (length job.teams) (task_of i j).teams (λ no. h (λ t. no t.count));
}

-- a job that is frozen
pub may_freeze : (d : Parts) (p j : ℕ) (job : Job) → length d.places ≡ p → ((IsInWindow (instance_of d) j job → ⊥) → ⊥)
    → (IsInWindow (instance_of d) j job × (AreTeamsFor d j job → ⊥) → ⊥) → CanFreeze (instance_so_far d p) (j, job)
may_freeze d p j job places window teams =
    let w = window_held (instance_of d) j job window in
    let l = list_held (instance_of d) j job (λ no. teams (w, λ t. no t.list)) in
    subst (λ p. CanFreeze (instance_so_far d p) (j, job)) places (record { window = w; list = l })

-- a start outside the window
pub off_window : (d : Parts) (p j : ℕ) (job : Job) → length d.places ≡ p → (IsInWindow (instance_of d) j job → ⊥) → CanFreeze (instance_so_far d p) (j, job) → ⊥
off_window d p j job places broken can = broken (subst (λ p. CanFreeze (instance_so_far d p) (j, job)) (sym places) can).window

-- other teams than the task needs
pub off_teams : (d : Parts) (p j : ℕ) (job : Job) → length d.places ≡ p → ((k : ℕ) → Contains job.teams k → k < length d.teams) → (AreTeamsFor d j job → ⊥) → CanFreeze (instance_so_far d p) (j, job) → ⊥
off_teams d p j job places known broken can = broken (record { list = (subst (λ p. CanFreeze (instance_so_far d p) (j, job)) (sym places) can).list; known = known })

-- where the builder does not freeze the job
pub freeze_fault : (d : Parts) (p j : ℕ) (job : Job) (Rest : Answer → Type 0) (fault : BuildFault) → length d.places ≡ p
    → ((k : ℕ) → Contains job.teams k → k < length d.teams) → IsFreezeFault fault
    → (fault ≡ BadWindow → IsInWindow (instance_of d) j job → ⊥) → (fault ≡ BadTeams → AreTeamsFor d j job → ⊥)
    → HeadTells (Must (CanFreeze (instance_so_far d p) (j, job)) BadInstance Rest) (Err (refusal_for fault))
freeze_fault d p j job Rest OutOfMemory places known is window teams = tt
freeze_fault d p j job Rest BadWindow places known is window teams = Fails (off_window d p j job places (window refl)) refl
freeze_fault d p j job Rest BadTeams places known is window teams = Fails (off_teams d p j job places known (teams refl)) refl
freeze_fault d p j job Rest _ places known is window teams = absurd is

-- behind a job that is frozen
pub keep_rules : (d new : Parts) (o : Opening) (more p j : ℕ) (job : Job) (said : Answer) → CanFreeze (instance_so_far d p) (j, job) → new ≡ with_frozen d j job
    → after_keep o more (j + 1) (instance_so_far new p) said
    → Must (CanFreeze (instance_so_far d p) (j, job)) BadInstance
    (after_keep o more (suc j) (record (instance_so_far d p) { frozen = slice_set d.frozen j (Some job) })) said
keep_rules d new o more p j job said can is rest =
    let n : j + 1 ≡ suc j = omega arith in
    Met can (subst (λ n. after_keep o more n (instance_so_far (with_frozen d j job) p) said) n
    (subst (λ x. after_keep o more (j + 1) (instance_so_far x p) said) is rest))
