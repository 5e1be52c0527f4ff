-- the loop of the wave over the turns
use Rattle.std.proofs.Common.{◌≡◌, ◌<◌, ◌≤◌, ◌+◌, ◌*◌, ◌++◌, ◌⊎◌, inl, inr, ℕ, List, Option, Some, None, length, get_or, replicate, take, drop, arith, refl, sym, ap, subst, ◌∙◌}
use Rattle.std.specs.Prelude.{Contains}
use Rattle.std.specs.Option.{option_map}
use Rattle.std.proofs.lemmas.Bool.{cases_lt}
use Rattle.std.proofs.lemmas.List.{get_or_past, get_or-replicate, length-replicate, take-append-le, take_all}
use Rattle.std.proofs.lemmas.List.Elements.{Contains-get_or}
use Rattle.crew_terms.specs.Instance.{Instance, task_of, no_task}
use Rattle.crew_terms.specs.Plan.{Plan, Job, job_of, Does}
use Rattle.crew_terms.specs.Legal.{IsFeasible}
use Rattle.crew_terms.specs.Rules.{IsInstance, IsTask}
use Rattle.crew_terms.specs.declared.TheConstants.{LAST_MINUTE}
use Rattle.crew_instance.specs.Teams.{job_teams}
use Rattle.crew_instance.specs.declared.turns.Turn.{Turn}
use Rattle.delay_wave.specs.declared.lates.Late.{Late}
use Rattle.delay_wave.specs.declared.steps.Ended.{Ended}
use Rattle.delay_wave.specs.declared.waits.Wait.{Wait}
use Rattle.delay_wave.specs.Ends.{told_end}
use Rattle.delay_wave.specs.Order.{AreInOrder, IsPlanned, planned_start, turn_at}
use Rattle.delay_wave.specs.Steps.{EndBy, IsStep, last_of}
use Rattle.delay_wave.specs.Waits.{wait_of}
use Rattle.delay_wave.proofs.Turns.{planned_known, turn}
use Rattle.delay_wave.proofs.SoFar.{IsSoFar, one_more}

nothing_at : {A : Type 0} (n j : ℕ) → get_or {A = Option A} (replicate n None) j None ≡ None
nothing_at {A} n j = at (cases_lt j n)
  where
    at : (j < n) ⊎ (n ≤ j) → get_or {A = Option A} (replicate n None) j None ≡ None
    at (inl l) = get_or-replicate n j None None l
    at (inr m) = get_or_past (replicate n None) j None (let l = length-replicate {A = Option A} n None in omega arith)

none_last : (last : List (Option Ended)) (teams : ℕ) → last ≡ replicate teams None → (k : ℕ) → last_of last k ≡ None
none_last last teams idle k = ap (λ l. last_of l k) idle ∙ nothing_at teams k

-- nothing has begun
pub none_begun : (i : Instance) (p : Plan) (lates : List Late) (turns : List Turn) (teams : ℕ) (last : List (Option Ended)) (w : List (Option Wait))
    → last ≡ replicate teams None → w ≡ replicate (length p) None → IsSoFar i p lates turns 0 last w
none_begun i p lates turns teams last w idle empty = record {
  whole = ap length empty ∙ length-replicate (length p) None;
  placed = λ a l. absurd (omega arith);
  rest = λ j none. ap (λ l. wait_of l j) empty ∙ nothing_at (length p) j;
  idle = λ k none a s l d. absurd (omega arith);
  busy = λ k e did. absurd (let x : None ≡ Some e = sym (none_last last teams idle k) ∙ did in cc);
}

-- so nothing ended
pub none_ended : (i : Instance) (teams : ℕ) (last : List (Option Ended)) (b : ℕ) → last ≡ replicate teams None → EndBy i last b
none_ended i teams last b idle = record {
  task = λ k e did. absurd (let x : None ≡ Some e = sym (none_last last teams idle k) ∙ did in cc);
  end = λ k e did. absurd (let x : None ≡ Some e = sym (none_last last teams idle k) ∙ did in cc);
}

-- the job of a planned task
pub record JobOf (p : Plan) (v : Turn) : Type 0 where
  pub job : Job
  pub at : job_of p v.task ≡ Some job
  pub starts : job.start ≡ v.start

pub job_planned : (p : Plan) (v : Turn) → IsPlanned p v → JobOf p v
job_planned p v is = by (job_of p v.task) refl is
  where
    by : (o : Option Job) → job_of p v.task ≡ o → option_map (λ (job : Job). job.start) o ≡ Some v.start → JobOf p v
    by None e f = absurd (let x : None ≡ Some v.start = f in cc)
    by (Some job) e f = record { job = job; at = e; starts = (let x : Some job.start ≡ Some v.start = f in cc) }

module _ (i : Instance) (p : Plan) (feasible : IsFeasible i p) (v : Turn) (is : IsPlanned p v) where
  pub turn_known : v.task < length i.tasks
  turn_known = let l = planned_known p v.task v.start is in let w = feasible.whole in omega arith

  pub turn_in_day : IsInstance i → v.start ≤ LAST_MINUTE
  turn_in_day instance =
      let j = job_planned p v is in
      let fits = (feasible.jobs v.task j.job j.at).window in
      let task : IsTask (length i.places) (task_of i v.task) = instance.parts.tasks v.task no_task turn_known in
      let e = j.starts in omega (arith, fits.late, task.window.day)

  pub turn_teams : (teams : List ℕ) → teams ≡ job_teams (job_of p v.task) → (b d : ℕ) → b < length teams → get_or teams b d < length i.teams
  turn_teams teams e b d l =
      let j = job_planned p v is in
      let same : teams ≡ j.job.teams = e ∙ ap job_teams j.at in
      let m : b < length j.job.teams = subst (λ (ts : List ℕ). b < length ts) same l in
      subst (λ (ts : List ℕ). get_or ts b d < length i.teams) (sym same)
      ((feasible.jobs v.task j.job j.at).known (get_or j.job.teams b d) (Contains-get_or j.job.teams b d m))

-- one turn more
pub turn_more : (i : Instance) (p : Plan) (lates : List Late) (turns : List Turn) → IsFeasible i p → AreInOrder p turns
    → (n : ℕ) → n < length turns → (last : List (Option Ended)) (w : List (Option Wait)) → IsSoFar i p lates turns n last w
    → (told : ℕ) → told ≡ told_end lates (turn_at turns n).task → (teams : List ℕ) → teams ≡ job_teams (job_of p (turn_at turns n).task)
    → (new_last : List (Option Ended)) (new : List (Option Wait)) → IsStep i told (turn_at turns n) teams last w new_last new
    → IsSoFar i p lates turns (n + 1) new_last new
turn_more i p lates turns feasible ord n inside last w far told is teams are new_last new step =
    let v = turn_at turns n in
    let planned = ord.planned n inside in
    let j = job_planned p (turn_at turns n) planned in
    let s = subst (λ m. IsStep i m (turn_at turns n) teams last w new_last new) is step in
    let t = subst (λ ts. IsStep i (told_end lates (turn_at turns n).task) (turn_at turns n) ts last w new_last new) (are ∙ ap job_teams j.at) s in
    let known = planned_known p (turn_at turns n).task (turn_at turns n).start planned in
    one_more i p lates turns feasible ord n inside last w far (turn_at turns n).task (turn_at turns n).start refl j.job j.at j.starts new_last new t
    (let l = far.whole in omega arith)

-- a slice of all elements, put back
pub put_back : {A : Type 0} (xs ys : List A) (n : ℕ) → length xs ≡ n → take n (xs ++ drop (length xs) ys) ≡ xs
put_back xs ys n e = take-append-le n xs (drop (length xs) ys) (omega arith) ∙ take_all n xs (omega arith)
