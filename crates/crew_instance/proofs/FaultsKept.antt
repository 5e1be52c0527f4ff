-- the first fault of a plan does not depend on the frozen jobs
use Rattle.std.proofs.Common.{◌≡◌, ℕ, length, sym, subst}
use Rattle.std.specs.Prelude.{◌↔◌}
use Rattle.std.proofs.lemmas.List.Elements.{All-weaker}
use Rattle.crew_terms.specs.Instance.{Instance, IsInShift}
use Rattle.crew_terms.specs.Plan.{Plan, Job, empty_plan}
use Rattle.crew_terms.specs.Legal.{IsFeasible, IsFit, IsInWindow, IsJob, IsTeamList}
use Rattle.crew_terms.specs.Verdict.{BadJob, BadTeam, Feasible, IsFeasibility, IsFirstClash, IsJobFault, IsVisitFault, Miscounted, OffShift, OfTeam, Outside, Unskilled}
use Rattle.crew_terms.specs.declared.PlanVerdict.{PlanVerdict}
use Rattle.crew_instance.specs.Draft.{Draft, FirstFaultNames, IsBadFrozen, instance_of, known_times}
use Rattle.crew_instance.specs.Times.{IsMissing}

-- the instance with these frozen jobs
abbrev freezing : Instance → Plan → Instance
freezing i frozen = record i { frozen = frozen }

module _ (i : Instance) (a b : Plan) where
  shift : (k j t : ℕ) → IsInShift (freezing i a) k j t → IsInShift (freezing i b) k j t
  shift k j t in_shift = record { comes = in_shift.comes; returns = in_shift.returns }

  fit : (j t k : ℕ) → IsFit (freezing i a) j t k → IsFit (freezing i b) j t k
  fit j t k is = record { qualified = is.qualified; in_shift = shift k j t is.in_shift }

  window : (j : ℕ) (job : Job) → IsInWindow (freezing i a) j job → IsInWindow (freezing i b) j job
  window j job is = record { early = is.early; late = is.late }

  list : (j : ℕ) (job : Job) → IsTeamList (freezing i a) j job → IsTeamList (freezing i b) j job
  list j job is = record { rising = is.rising; count = is.count }

  good : (j : ℕ) (job : Job) → IsJob (freezing i a) j job → IsJob (freezing i b) j job
  good j job is = record { window = window j job is.window; list = list j job is.list; known = is.known; fit = λ k c. fit j job.start k (is.fit k c) }

  feasible : (p : Plan) → IsFeasible (freezing i a) p → IsFeasible (freezing i b) p
  feasible p is = record { whole = is.whole; jobs = λ j job at. good j job (is.jobs j job at); apart = is.apart; follow = is.follow }

  clash : (p : Plan) (k j h : ℕ) → IsFirstClash (freezing i a) p k j h → IsFirstClash (freezing i b) p k j h
  clash p k j h is = record { start = is.start; next_start = is.next_start; next = is.next; broken = is.broken; earlier = is.earlier }

module _ (i : Instance) (a b : Plan) where
  team_fault : (j t k : ℕ) (told : PlanVerdict) → IsVisitFault (freezing i a) j t k told → IsVisitFault (freezing i b) j t k told
  team_fault j t k told (Unskilled broken is) = Unskilled broken is
  team_fault j t k told (OffShift qualified broken is) = OffShift qualified (λ s. broken (shift i b a k j t s)) is

  job_fault : (j : ℕ) (job : Job) (told : PlanVerdict) → IsJobFault (freezing i a) j job told → IsJobFault (freezing i b) j job told
  job_fault j job told (Outside broken is) = Outside (λ w. broken (window i b a j job w)) is
  job_fault j job told (Miscounted in_window broken is) = Miscounted (window i a b j job in_window) (λ l. broken (list i b a j job l)) is
  job_fault j job told (OfTeam in_window is_list front k back teams earlier how) =
      OfTeam (window i a b j job in_window) (list i a b j job is_list) front k back teams
      (All-weaker (IsFit (freezing i a) j job.start) (IsFit (freezing i b) j job.start) (fit i a b j job.start) front earlier) (team_fault j job.start k told how)

  same_faults : (p : Plan) (told : PlanVerdict) → IsFeasibility (freezing i a) p told → IsFeasibility (freezing i b) p told
  same_faults p told (Feasible is_feasible is) = Feasible (feasible i a b p is_feasible) is
  same_faults p told (BadJob j job at earlier how) = BadJob j job at (λ h other l e. good i a b h other (earlier h other l e)) (job_fault j job told how)
  same_faults p told (BadTeam jobs k j h known earlier first is) =
      BadTeam (λ g other l e. good i a b g other (jobs g other l e)) k j h known earlier (clash i a b p k j h first) is

  names_still : (p : Plan) (j : ℕ) → FirstFaultNames (freezing i a) p j → FirstFaultNames (freezing i b) p j
  names_still p j is = record { told = is.told; first = same_faults p is.told is.first; named = is.named }

-- an instance that is that of the draft but for the frozen jobs, and a plan of the draft's frozen jobs
module _ (d : Draft) (i : Instance) (p : Plan) (same : i ≡ record (instance_of d) { frozen = empty_plan (length d.tasks) }) (frozen : p ≡ d.frozen) where
  names_in_draft : (j : ℕ) → FirstFaultNames i p j → FirstFaultNames (instance_of d) d.frozen j
  names_in_draft j is =
      names_still (instance_of d) (empty_plan (length d.tasks)) d.frozen d.frozen j
      (subst (λ q. FirstFaultNames (freezing (instance_of d) (empty_plan (length d.tasks))) q j) frozen (subst (λ x. FirstFaultNames x p j) same is))

  names_of_draft : (j : ℕ) → FirstFaultNames (instance_of d) d.frozen j → FirstFaultNames i p j
  names_of_draft j is =
      subst (λ x. FirstFaultNames x p j) (sym same)
      (subst (λ q. FirstFaultNames (freezing (instance_of d) (empty_plan (length d.tasks))) q j) (sym frozen)
      (names_still (instance_of d) d.frozen (empty_plan (length d.tasks)) d.frozen j is))

  -- what is told of the plan is told of the draft
  pub told_of_draft : (j : ℕ) (Told Other : Type 0) → ((a b : ℕ) → ¬ (IsMissing (known_times d) a b)) → Told ↔ (FirstFaultNames i p j × Other) → Told ↔ (IsBadFrozen d j × Other)
  told_of_draft j Told Other times told = (
    (λ t. let f = told.0 t in (record { times = times; fault = names_in_draft j f.0 }, f.1)),
    (λ (bad, other). told.1 (names_of_draft j bad.fault, other)),
  )
