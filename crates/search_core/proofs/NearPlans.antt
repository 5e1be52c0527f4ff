-- plans that are brought near to the one with which a search began, and what stays of that one
use Rattle.std.proofs.Common.{◌≡◌, ℕ, Option, None, Some, sym, subst, arith}
use Rattle.std.specs.Prelude.{IfSome}
use Rattle.crew_terms.specs.Instance.{Instance}
use Rattle.crew_terms.specs.Plan.{Plan}
use Rattle.node_solver.specs.Plans.{IsBetterPlan}
use Rattle.plan_again.specs.Stays.{IsNoWorse, StaysOrBetters}
use Rattle.search_terms.specs.Search.{Betters, Improves, IsKeepable, Stays}

-- the plan of a finding may be kept
pub found_keepable : (i j : Instance) (best : ℕ) (found : Option Plan) → i ≡ j → IfSome found (IsBetterPlan i best) → IfSome found (IsKeepable j)
found_keepable i j best None same better = tt
found_keepable i j best (Some p) same better = subst (λ k. IsKeepable k p) same better.keepable

-- a step keeps what stays of the plan that was there before
pub step_stays : (i : Instance) (old p q : Plan) → Improves i p q → IsNoWorse old p → IsNoWorse old q
step_stays i old p q (Stays same) is = subst (IsNoWorse old) (sym same) is
step_stays i old p q (Betters plan fewer) is = record {
  fewer = (let a = is.fewer in omega arith);
  keeps = λ e. absurd (let a = is.fewer in omega arith);
}

-- and so where there was one
pub step_begun : (i : Instance) (begin : Option Plan) (p q : Plan) → Improves i p q → StaysOrBetters begin p → StaysOrBetters begin q
step_begun i None p q step is = tt
step_begun i (Some old) p q step is = step_stays i old p q step is
