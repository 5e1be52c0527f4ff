use Rattle.std.proofs.Common.{◌≡◌, ◌≤◌, ◌<◌, ℕ, zero, suc, [], ◌∷◌, length, arith, ap, Option, Some, Bool, true, false, cond}
use Rattle.std.specs.Prelude.{is_none}
use Rattle.std.proofs.lemmas.List.Sums.{sum_by-cons, count_by-le-length}
use Rattle.crew_terms.specs.Plan.{Plan, Job, job_of, unassigned_count}
use Rattle.crew_terms.specs.Legal.{IsLegal}
use Rattle.crew_terms.specs.Limits.{Limits, IsWithin, has_required, tasks_in, teams_in, is_required, pair_of}
use Rattle.crew_terms.specs.Leaf.{Prices}
use Rattle.crew_terms.specs.Nodes.{required_is}
use Rattle.crew_terms.specs.Below.{some_below}
use Rattle.search_terms.specs.Proven.{PricesProve}
use Rattle.search_laws.proofs.no_plan_is_left.Goals as goal

-- a plan with a job leaves fewer than all tasks unassigned
some_job : (q : Plan) (j : ℕ) (job : Job) → job_of q j ≡ Some job → j < length q → unassigned_count q < length q
some_job [] j job e l = absurd (omega arith)
some_job (o ∷ os) zero job e l =
    let a = sum_by-cons (λ (x : Option Job). cond {A = ℕ} (is_none x) 1 0) o os in
    let b : cond {A = ℕ} (is_none o) 1 0 ≡ 0 = ap (λ (x : Option Job). cond {A = ℕ} (is_none x) 1 0) e in
    let d = count_by-le-length is_none os in
    omega arith
some_job (o ∷ os) (suc j) job e l =
    let a = sum_by-cons (λ (x : Option Job). cond {A = ℕ} (is_none x) 1 0) o os in
    let b = one (is_none o) in
    let d = some_job os j job e (omega arith) in
    omega arith
  where
    one : (b : Bool) → cond {A = ℕ} b 1 0 ≤ 1
    one true = omega arith
    one false = omega arith

no_plan : (n : Limits) (p : Prices) (q : Plan) (j : ℕ) → (PricesProve n p (tasks_in n) → IsLegal n.instance q → IsWithin n q → tasks_in n ≤ unassigned_count q)
    → PricesProve n p (tasks_in n) → j < tasks_in n → has_required n j ≡ true → IsLegal n.instance q → IsWithin n q → ⊥
no_plan n p q j law proves below some legal within =
    let x = some_below (teams_in n) (λ k. is_required (pair_of n k j)) some in
    let d = within.required x.0 j x.1 below (required_is (pair_of n x.0 j) x.2) in
    let w = legal.feasible.whole in
    let a = law proves legal within in
    let b = some_job q j d.1.0 d.1.1 (omega arith) in
    omega arith

pub returns : goal.returns
returns c = λ n p q j proves below some legal within.
    no_plan n p q j (λ h legal' within'. c.leaf_proves.ensures n q p h.worths h.phi (tasks_in n) legal' within' h.proved.0 h.proved.1) proves below some legal within
