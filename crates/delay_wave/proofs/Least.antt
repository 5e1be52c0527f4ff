-- where all assigned tasks have begun, the starts are the earliest
use Rattle.std.proofs.Common.{◌≡◌, ◌≢◌, ◌<◌, ◌≤◌, ◌+◌, ◌⊎◌, inl, inr, ℕ, zero, suc, List, Option, Some, None, MatchOption, is_some, length, max, arith, refl, sym, ap, subst, ◌∙◌}
use Rattle.std.specs.Prelude.{option_and_then}
use Rattle.std.specs.Option.{option_map}
use Rattle.std.proofs.lemmas.Bool.{cases_lt}
use Rattle.crew_terms.specs.Instance.{Instance, task_of}
use Rattle.crew_terms.specs.Plan.{Plan, Job, job_of, Does}
use Rattle.crew_terms.specs.Legal.{IsFeasible}
use Rattle.crew_terms.specs.Verdict.{IsNext}
use Rattle.crew_instance.specs.declared.turns.Turn.{Turn}
use Rattle.delay_wave.specs.declared.lates.Late.{Late}
use Rattle.delay_wave.specs.declared.steps.Ended.{Ended}
use Rattle.delay_wave.specs.declared.waits.Wait.{Wait}
use Rattle.delay_wave.specs.Ends.{end_of, minutes_to, told_end}
use Rattle.delay_wave.specs.Delays.{AreEarliest, FitsDelays, HoldsUp, IsTight, ready_at}
use Rattle.delay_wave.specs.Order.{AreInOrder, planned_start, turn_at}
use Rattle.delay_wave.specs.Waits.{AreWaits, holder_of, starts_in, wait_of}
use Rattle.delay_wave.proofs.Turns.{turn}
use Rattle.delay_wave.proofs.Neighbours.{next_is_later, one_start, planned_of}
use Rattle.delay_wave.proofs.SoFar.{IsPlaced, IsSoFar, start_is}

-- a later start is followed by a later one
sooner_ready : (i : Instance) (lates : List Late) (j h s t : ℕ) → s ≤ t → ready_at i lates j s h ≤ ready_at i lates j t h
sooner_ready i lates j h s t l = omega arith

module _ (i : Instance) (p : Plan) (lates : List Late) (turns : List Turn) (feasible : IsFeasible i p) (ord : AreInOrder p turns)
    (last : List (Option Ended)) (w : List (Option Wait)) (far : IsSoFar i p lates turns (length turns) last w) where
  placed : (j t : ℕ) → planned_start p j ≡ Some t → IsPlaced i p lates w (turn j t)
  placed j t e = let a = ord.all j t e in subst (IsPlaced i p lates w) a.2 (far.placed a.0 a.1)

  placed_job : (j : ℕ) (job : Job) → job_of p j ≡ Some job → IsPlaced i p lates w (turn j job.start)
  placed_job j job e = placed j job.start (ap (option_map (λ (job : Job). job.start)) e)

  placed_visit : (k j t : ℕ) → Does p k j t → IsPlaced i p lates w (turn j t)
  placed_visit k j t d = placed j t (planned_of p k j t d)

  fit : FitsDelays i p lates (starts_in w)
  fit = record {
    planned = λ j job e. let q = placed_job j job e in let s = start_is w j q.wait q.is in let l = q.planned in omega arith;
    follow = λ k j t h u next. let q = placed_visit k h u next.second in let s = start_is w h q.wait q.is in let l = q.follow k j t next in omega arith;
  }

  module _ (y : ℕ → ℕ) (fits : FitsDelays i p lates y) where
    -- the task begins as planned, or after one that is no later either
    by_held : (j : ℕ) (job : Job) → job_of p j ≡ Some job → (start : ℕ) → starts_in w j ≡ start → (o : Option ℕ)
        → MatchOption o (start ≡ job.start) (λ g. (job.start < start) × HoldsUp i p lates (starts_in w) g j)
        → ((g : ℕ) (other : Job) → job_of p g ≡ Some other → other.start < job.start → starts_in w g ≤ y g) → starts_in w j ≤ y j
    by_held j job e start is None h ih = let l = fits.planned j job e in omega arith
    by_held j job e start is (Some g) (later, up) ih =
        let t = up.tight in
        let d = t.next.first in
        let sooner = next_is_later i p feasible up.team g t.planned j t.next_planned t.next in
        let x : t.next_planned ≡ job.start = same_start t.next.second in
        let f = d.2 in
        let l = ih g d.0 d.1 (omega arith) in
        let r = sooner_ready i lates g j (starts_in w g) (y g) l in
        let a = fits.follow up.team g t.planned j t.next_planned t.next in
        let m = t.meets in omega arith
      where
        same_start : {k s : ℕ} → Does p k j s → s ≡ job.start
        same_start (other, f, t, m) = let x : Some other ≡ Some job = sym f ∙ e in let z : other ≡ job = cc in sym t ∙ ap (λ (o : Job). o.start) z

    least_within : (n j : ℕ) (job : Job) → job_of p j ≡ Some job → job.start < n → starts_in w j ≤ y j
    least_within zero j job e l = absurd (omega arith)
    least_within (suc n) j job e l =
        let q = placed_job j job e in
        by_held j job e q.wait.start (start_is w j q.wait q.is) q.wait.held_by q.held (λ g other f m. least_within n g other f (omega arith))

  assigned : (j : ℕ) (o : Option Job) → job_of p j ≡ o → is_some (wait_of w j) ≡ is_some o
  assigned j (Some job) e = let q = placed_job j job e in ap is_some q.is
  assigned j None e = ap is_some (far.rest j none)
    where
      none : (a : ℕ) → a < length turns → (turn_at turns a).task ≢ j
      none a l same =
          let x : planned_start p j ≡ Some (turn_at turns a).start = subst (λ h. planned_start p h ≡ Some (turn_at turns a).start) same (ord.planned a l) in
          let y : None ≡ Some (turn_at turns a).start = sym (ap (option_map (λ (job : Job). job.start)) e) ∙ x in cc

  held : (j : ℕ) (job : Job) → job_of p j ≡ Some job
      → MatchOption (holder_of w j) (starts_in w j ≡ job.start) (λ h. (job.start < starts_in w j) × HoldsUp i p lates (starts_in w) h j)
  held j job e =
      let q = placed_job j job e in
      let x : holder_of w j ≡ q.wait.held_by = ap (option_and_then (λ (v : Wait). v.held_by)) q.is in
      let s = start_is w j q.wait q.is in
      subst (λ o. MatchOption o (starts_in w j ≡ job.start) (λ h. (job.start < starts_in w j) × HoldsUp i p lates (starts_in w) h j)) (sym x)
      (subst (λ s. MatchOption q.wait.held_by (s ≡ job.start) (λ h. (job.start < s) × HoldsUp i p lates (starts_in w) h j)) (sym s) q.held)

  pub are_waits : AreWaits i p lates w
  are_waits = record {
    whole = far.whole;
    assigned = λ j. assigned j (job_of p j) refl;
    earliest = record { fit = fit; least = λ y fits j job e. least_within y fits (job.start + 1) j job e (omega arith) };
    held = held;
  }
