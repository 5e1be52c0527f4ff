-- what a plan keeps of the limits of a node, pair by pair and task by task
use Rattle.std.proofs.Common.{◌≡◌, ◌<◌, ◌+◌, ◌≤◌, ◌⊎◌, inl, inr, ℕ, List, length, get_or, eqb, eqb-true, eq-eqb, Bool, true, false, not, Option, None, Some, arith, refl, sym, subst, ◌∙◌}
use Rattle.std.specs.Prelude.{Contains, IsTrue, ◌↔◌}
use Rattle.std.specs.List.{IsAnyAnswer}
use Rattle.std.proofs.lemmas.Bool.{cases_lt}
use Rattle.crew_terms.specs.Limits.{Limits, pair_of, tasks_in, teams_in, IsWithin}
use Rattle.crew_terms.specs.Plan.{Plan, Job, job_of, Does}
use Rattle.crew_terms.specs.Verdict.{IsPlanOf}
use Rattle.crew_terms.specs.declared.Pair.TheVariants.{Forbidden, Required}
use Rattle.crew_terms.specs.Nodes.{job_known, task_known}
use Rattle.crew_instance.specs.Teams.{job_teams as teams_of}
use Rattle.plan_check.specs.Within.{BeginsWithin, KeepsPair, KeepsTask}

-- what `contains` tells of the numbers of teams
listed_decides : (ks : List ℕ) (k : ℕ) (r : Bool) → IsAnyAnswer (λ y t. eqb y k ≡ t) ks r → IsTrue r ↔ Contains ks k
listed_decides ks k true (i, l, at) = ((λ _. (i, l, eqb-true (get_or ks i k) k (at k))), (λ _. refl))
listed_decides ks k false none = (
  (λ t. cc),
  (λ (i, l, e). let f = none i k (omega arith) l in let t = eq-eqb (get_or ks i k) k e in let x : true ≡ false = sym t ∙ f in cc),
)

-- a team that is listed at a task does it at some minute
does_listed : (p : Plan) (k j : ℕ) (o : Option Job) → job_of p j ≡ o → Contains (teams_of o) k → (t : ℕ) × Does p k j t
does_listed p k j None e (i, l, r) = absurd (omega arith)
does_listed p k j (Some job) e m = (job.start, (job, e, refl, m))

listed_does : (p : Plan) (k j t : ℕ) → Does p k j t → Contains (teams_of (job_of p j)) k
listed_does p k j t (job, e, s, m) = subst (λ o. Contains (teams_of o) k) (sym e) m

pub does_decides : (p : Plan) (k j : ℕ) (ks : List ℕ) (r : Bool) → ks ≡ teams_of (job_of p j) → IsAnyAnswer (λ y t. eqb y k ≡ t) ks r → IsTrue r ↔ ((t : ℕ) × Does p k j t)
does_decides p k j ks r e any =
    let at = listed_decides ks k r any in
    ((λ t. does_listed p k j (job_of p j) refl (subst (λ xs. Contains xs k) e (at.0 t))), (λ d. at.1 (subst (λ xs. Contains xs k) (sym e) (listed_does p k j d.0 d.1))))

-- a forbidden pair is kept where the team doesn't do the task
pub keeps_forbidden : (n : Limits) (p : Plan) (k j : ℕ) (b : Bool) → Forbidden ≡ pair_of n k j → IsTrue b ↔ ((t : ℕ) × Does p k j t) → IsTrue (not b) ↔ KeepsPair n p k j
keeps_forbidden n p k j true e d = ((λ t. cc), (λ h. let x = d.0 refl in absurd (h.forbidden x.0 x.1 (sym e))))
keeps_forbidden n p k j false e d = (
  (λ _. record { forbidden = λ t m. absurd (let x : false ≡ true = d.1 (t, m) in cc); required = λ r. let x : Forbidden ≡ Required = e ∙ r in cc }),
  (λ _. refl),
)

module _ (n : Limits) (p : Plan) where
  -- one more team, and one more task
  pub pairs_more : (j k : ℕ) → ((h : ℕ) → h < k → KeepsPair n p h j) → KeepsPair n p k j → (h : ℕ) → h < k + 1 → KeepsPair n p h j
  pairs_more j k before here h l = at (cases_lt h k)
    where
      at : (h < k) ⊎ (k ≤ h) → KeepsPair n p h j
      at (inl m) = before h m
      at (inr m) = let e : k ≡ h = omega arith in subst (λ g. KeepsPair n p g j) e here

  pub tasks_more : (j : ℕ) → ((h : ℕ) → h < j → KeepsTask n p h) → KeepsTask n p j → (h : ℕ) → h < j + 1 → KeepsTask n p h
  tasks_more j before here h l = at (cases_lt h j)
    where
      at : (h < j) ⊎ (j ≤ h) → KeepsTask n p h
      at (inl m) = before h m
      at (inr m) = let e : j ≡ h = omega arith in subst (KeepsTask n p) e here

  -- a plan is within the limits where it keeps them at each task
  pub within_from : IsPlanOf n.instance p → ((j : ℕ) → j < length p → KeepsTask n p j) → IsWithin n p
  within_from of keeps = record {
    early = λ j job e. (keeps j (job_known p j job e)).window.early job e;
    late = λ j job e. (keeps j (job_known p j job e)).window.late job e;
    forbidden = λ k j t d. ((keeps j (task_known p k j t d)).pairs k (of.known k j t d)).forbidden t d;
    required = λ k j lk lj e. ((keeps j (let w = of.whole in omega arith)).pairs k lk).required e;
  }

  pub within_at : IsWithin n p → (j : ℕ) → j < tasks_in n → KeepsTask n p j
  within_at within j l = record {
    window = record { early = within.early j; late = within.late j };
    pairs = λ k lk. record { forbidden = within.forbidden k j; required = λ e. within.required k j lk l e };
  }

module _ (n : Limits) (p : Plan) (j : ℕ) where
  -- a task is kept where its window and each of its pairs are
  pub task_from : (m : ℕ) → teams_in n ≤ m → ((h : ℕ) → h < m → KeepsPair n p h j) → (r : Bool) → IsTrue r ↔ BeginsWithin n p j → IsTrue r ↔ KeepsTask n p j
  task_from m le pairs r begins = ((λ t. record { window = begins.0 t; pairs = λ k l. pairs k (omega arith) }), (λ keeps. begins.1 keeps.window))
