-- the plans of a step
use Rattle.std.specs.Prelude.{◌≡◌, ◌<◌, ℕ, Option, None, Some, IfSome}
use Rattle.crew_terms.specs.Instance.{Instance}
use Rattle.crew_terms.specs.Plan.{Plan, unassigned_count}
use Rattle.search_terms.specs.Search.{IsKeepable}
use Rattle.node_solver.specs.declared.best_plan.BestPlan.{BestPlan}

-- how many tasks the best plan leaves unassigned, with this one if there is one
abbrev pub now_after : ℕ → Option Plan → ℕ
now_after best None = best
now_after best (Some p) = unassigned_count p

-- a plan that the search keeps in place of one that leaves `best` tasks unassigned
pub record IsBetterPlan (i : Instance) (best : ℕ) (p : Plan) : Type 0 where
  pub keepable : IsKeepable i p
  pub fewer : unassigned_count p < best

-- a plan is kept only if it is better, and then its unassigned tasks count
pub record IsBestOf (i : Instance) (best : ℕ) (b : BestPlan) : Type 0 where
  pub plan : IfSome b.plan (IsBetterPlan i best)
  pub count : b.unassigned ≡ now_after best b.plan
