-- the task that is told as faulty is the one that the first fault names, and none is told of a feasible plan alone
use Rattle.std.proofs.Common.{◌≡◌, ◌<◌, ℕ, Bool, true, List, [], ◌++◌, length, None, Some, arith, ap, sym, ◌∙◌}
use Rattle.std.specs.Prelude.{◌↔◌, filter, flat_map, slice_get}
use Rattle.crew_terms.specs.Instance.{Instance}
use Rattle.crew_terms.specs.Rules.{AreParts}
use Rattle.crew_terms.specs.Plan.{Plan, Job, job_of}
use Rattle.crew_terms.specs.Legal.{IsJob, IsFeasible}
use Rattle.crew_terms.specs.Verdict.{HasNoClash, AreJobsBelow, IsPlanOf, IsFeasibility, Feasible, BadJob, BadTeam, IsJobFault, Outside, Miscounted, OfTeam, Unskilled, OffShift, IsFirstClash}
use Rattle.crew_terms.specs.declared.PlanVerdict.{PlanVerdict}
use Rattle.crew_terms.specs.Nodes.{job_known, task_known}
use Rattle.crew_instance.specs.Draft.{task_named}
use Rattle.day_terms.specs.Faulty.{below, is_good, is_bad, is_first_clash, faulty_task}
use Rattle.flight_changes.proofs.FirstOf.{first_is, begins_with_more, begins_after_none, none_first, none_in_front, none_behind, filter_none, filter_begins, none_passes, lists_none, lists_begin, each_empty}
use Rattle.flight_changes.proofs.GoodJobs.{not_bad, is_bad_job, good_from_test}
use Rattle.flight_changes.proofs.CalmTeams.{calm_fails, others_fail, calm_from}
use Rattle.crew_laws.specs.Faultless.{feasible_from, no_clash, no_fault}

-- a fault of a job names its task
names_task : (i : Instance) (j : ℕ) (job : Job) (told : PlanVerdict) → IsJobFault i j job told → task_named told ≡ Some j
names_task i j job told (Outside broken is) = ap task_named is
names_task i j job told (Miscounted window broken is) = ap task_named is
names_task i j job told (OfTeam window list front k back teams earlier (Unskilled broken is)) = ap task_named is
names_task i j job told (OfTeam window list front k back teams earlier (OffShift qualified broken is)) = ap task_named is

-- the tests of jobs and of the tasks of a team tell what they stand for
module _ (i : Instance) (p : Plan) (jobs_pass : (j : ℕ) (job : Job) → (is_good i j job ≡ true) ↔ IsJob i j job)
    (clash_passes : (k j : ℕ) → (is_first_clash i p k j ≡ true) ↔ ((h : ℕ) × IsFirstClash i p k j h)) where
  abbrev bad : ℕ → Bool
  bad j = is_bad i j (job_of p j)

  abbrev bad_jobs : List ℕ
  bad_jobs = filter bad (below (length p))

  -- the first task of team k that it can't come from in time
  abbrev clashing : ℕ → List ℕ
  clashing k = filter (is_first_clash i p k) (below (length p))

  abbrev all_clashing : List ℕ
  all_clashing = flat_map clashing (below (length i.teams))

  none_bad : AreJobsBelow i p (length p) → bad_jobs ≡ []
  none_bad jobs = filter_none bad 0 (length p) (λ j l m. not_bad i j (jobs_pass j) (job_of p j) (λ job e. jobs j job (job_known p j job e) e))

  none_clashing : (k : ℕ) → HasNoClash i p k → clashing k ≡ []
  none_clashing k calm = filter_none (is_first_clash i p k) 0 (length p) (λ j l m. calm_fails i p k (clash_passes k) calm j)

  none_told : IsFeasible i p → faulty_task i p ≡ None
  none_told feasible =
      ap (λ js. slice_get (js ++ all_clashing) 0) (none_bad (λ j job l e. feasible.jobs j job e))
      ∙ ap (λ js. slice_get js 0) (lists_none clashing 0 (length i.teams) (λ k l m. none_clashing k (no_clash i p k feasible)))

  pub fault : (told : PlanVerdict) → IsFeasibility i p told → faulty_task i p ≡ task_named told
  fault told (Feasible feasible is) = none_told feasible ∙ sym (ap task_named is)
  fault told (BadJob j job at earlier how) =
      first_is (bad_jobs ++ all_clashing) j
      (begins_with_more bad_jobs all_clashing j
      (filter_begins bad 0 (length p) j (omega arith) (let l = job_known p j job at in omega arith)
      (is_bad_job i j (jobs_pass j) (job_of p j) job at (no_fault i j job told how))
      (λ h l m. not_bad i h (jobs_pass h) (job_of p h) (λ other e. earlier h other m e))))
      ∙ sym (names_task i j job told how)
  fault told (BadTeam jobs k j h known earlier first is) =
      first_is (bad_jobs ++ all_clashing) j
      (begins_after_none bad_jobs all_clashing j (none_bad jobs)
      (lists_begin clashing 0 (length i.teams) k j (omega arith) (omega arith)
      (filter_begins (is_first_clash i p k) 0 (length p) j (omega arith) (let l = task_known p k j first.start first.next.first in omega arith)
      ((clash_passes k j).1 (h, first)) (λ g l m. others_fail i p k (clash_passes k) j h first g (λ e. absurd (omega arith))))
      (λ g l m. none_clashing g (earlier g m))))
      ∙ sym (ap task_named is)

  module _ (are : AreParts i.places i.teams i.tasks) (of : IsPlanOf i p) where
    feasible_if_none : faulty_task i p ≡ None → IsFeasible i p
    feasible_if_none none = feasible_from i p are of good calm
      where
        empty : bad_jobs ++ all_clashing ≡ []
        empty = none_first (bad_jobs ++ all_clashing) none

        good : AreJobsBelow i p (length p)
        good j job l e = good_from_test i j (jobs_pass j) (job_of p j) job (none_passes bad (length p) j (none_in_front bad_jobs all_clashing empty) l) e

        calm : (k : ℕ) → k < length i.teams → HasNoClash i p k
        calm k l = calm_from i p k (clash_passes k) (λ j m. none_passes (is_first_clash i p k) (length p) j
            (each_empty clashing 0 (length i.teams) (none_behind bad_jobs all_clashing empty) k (omega arith) (omega arith)) m)

    pub feasible : (faulty_task i p ≡ None) ↔ IsFeasible i p
    feasible = (feasible_if_none, none_told)
