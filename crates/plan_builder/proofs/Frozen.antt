-- the plan of the frozen jobs, task by task
use Rattle.std.proofs.Common.{◌≡◌, ◌≤◌, ◌<◌, ◌+◌, ◌⊎◌, inl, inr, ℕ, length, Option, None, Some, arith, sym, subst, ◌∙◌, get_or-set_same, get_or-set_other}
use Rattle.std.proofs.Math.ListN.{length-set}
use Rattle.std.proofs.lemmas.Bool.{cases_lt, cases_order}
use Rattle.std.proofs.lemmas.List.{ext_get_or, length-replicate, get_or-replicate, get_or_past}
use Rattle.crew_terms.specs.Instance.{Instance}
use Rattle.crew_terms.specs.Legal.{IsFeasible, IsLegal}
use Rattle.crew_terms.specs.Plan.{Plan, Job, job_of, empty_plan}
use Rattle.team_days.specs.Adding.{with_job}

-- the plan has the frozen jobs of the tasks below j, and nothing else
pub record IsFrozenBelow (i : Instance) (p : Plan) (j : ℕ) : Type 0 where
  pub long : length p ≡ length i.tasks
  pub same : (h : ℕ) → h < j → job_of p h ≡ job_of i.frozen h
  pub rest : (h : ℕ) → j ≤ h → job_of p h ≡ None

module _ (i : Instance) where
  pub frozen_none : IsFrozenBelow i (empty_plan (length i.tasks)) 0
  frozen_none = record { long = length-replicate (length i.tasks) None; same = λ h l. absurd (omega arith); rest = λ h _. none h (cases_lt h (length i.tasks)) }
    where
      none : (h : ℕ) → (h < length i.tasks) ⊎ (length i.tasks ≤ h) → job_of (empty_plan (length i.tasks)) h ≡ None
      none h (inl l) = get_or-replicate (length i.tasks) h None None l
      none h (inr l) = get_or_past (empty_plan (length i.tasks)) h None (let n = length-replicate {A = Option Job} (length i.tasks) None in omega arith)

  pub frozen_skip : (p : Plan) (j : ℕ) → IsFrozenBelow i p j → job_of i.frozen j ≡ None → IsFrozenBelow i p (j + 1)
  frozen_skip p j are none = record { long = are.long; same = λ h l. at h l (cases_lt h j); rest = λ h l. are.rest h (omega arith) }
    where
      at : (h : ℕ) → h < j + 1 → (h < j) ⊎ (j ≤ h) → job_of p h ≡ job_of i.frozen h
      at h l (inl m) = are.same h m
      at h l (inr m) = let e : j ≡ h = omega arith in subst (λ g. job_of p g ≡ job_of i.frozen g) e (are.rest j (omega arith) ∙ sym none)

  pub frozen_put : (p : Plan) (j : ℕ) (job : Job) → j < length i.tasks → IsFrozenBelow i p j → job_of i.frozen j ≡ Some job → IsFrozenBelow i (with_job p j job) (j + 1)
  frozen_put p j job k are is = record { long = length-set p j (Some job) ∙ are.long; same = λ h l. at h l (cases_order h j); rest = λ h l. get_or-set_other p j h (Some job) None (λ e. omega arith) ∙ are.rest h (omega arith) }
    where
      at : (h : ℕ) → h < j + 1 → (h ≡ j) ⊎ ((h < j) ⊎ (j < h)) → job_of (with_job p j job) h ≡ job_of i.frozen h
      at h l (inl e) = subst (λ g. job_of (with_job p j job) g ≡ job_of i.frozen g) (sym e) (get_or-set_same p j (Some job) None (let n = are.long in omega arith) ∙ sym is)
      at h l (inr (inl m)) = get_or-set_other p j h (Some job) None (λ e. omega arith) ∙ are.same h m
      at h l (inr (inr m)) = absurd (omega arith)

  pub frozen_legal : IsFeasible i i.frozen → IsLegal i i.frozen
  frozen_legal feasible = record { feasible = feasible; frozen = λ j job e. e }

  pub frozen_all : (p : Plan) (j : ℕ) → length i.tasks ≤ j → IsFeasible i i.frozen → IsFrozenBelow i p j → p ≡ i.frozen
  frozen_all p j past feasible are = ext_get_or None p i.frozen (are.long ∙ sym feasible.whole) (λ h l. are.same h (let n = are.long in omega arith))
