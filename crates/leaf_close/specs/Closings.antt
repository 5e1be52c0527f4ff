-- what closes a decided node
use Rattle.std.specs.Prelude.{◌<◌, ℕ, Option, None, Some}
use Rattle.crew_terms.specs.Leaf.{Prices}
use Rattle.crew_terms.specs.Legal.{IsLegal}
use Rattle.crew_terms.specs.Limits.{Limits, IsWithin}
use Rattle.crew_terms.specs.Plan.{Plan, unassigned_count}
use Rattle.search_terms.specs.Closing.{required_plan}
use Rattle.search_terms.specs.Proven.{PricesProve}
use Rattle.leaf_close.specs.Cases.{HasNoFault}
use Rattle.leaf_close.specs.declared.closings.Closing.{Closing}
use Rattle.leaf_close.specs.declared.closings.Closing.TheVariants as closings

-- the prices that close the node
abbrev pub closing_prices : Closing → Prices
closing_prices (closings.Prices p) = p
closing_prices (closings.Plan q p) = p

-- the plan that closes it, if one does
abbrev pub plan_of : Closing → Option Plan
plan_of (closings.Prices p) = None
plan_of (closings.Plan q p) = Some q

-- the plan of the required pairs is the one legal plan of the node, and leaves fewer tasks unassigned than `best`
pub record IsBetter (n : Limits) (best : ℕ) : Type 0 where
  pub none : HasNoFault n
  pub fewer : unassigned_count (required_plan n) < best

-- a legal plan of the node leaves fewer tasks unassigned than `best`, and the prices prove that no other leaves fewer
pub record IsBestPlan (n : Limits) (best : ℕ) (q : Plan) (p : Prices) : Type 0 where
  pub legal : IsLegal n.instance q
  pub within : IsWithin n q
  pub fewer : unassigned_count q < best
  pub proved : PricesProve n p (unassigned_count q)

-- the prices prove `best` in the node, or a plan of it is better and the best there
abbrev pub IsClosed : Limits → ℕ → Closing → Type 0
IsClosed n best (closings.Prices p) = PricesProve n p best
IsClosed n best (closings.Plan q p) = IsBestPlan n best q p
