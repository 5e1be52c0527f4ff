use Rattle.std.proofs.Common.{◌≡◌, ℕ, pos}
use Rattle.crew_terms.specs.Leaf.{pi_of}
use Rattle.potentials.specs.Prices.{ArePrices, ArePricesOf}
use Rattle.search_terms.specs.Closing.{all_cost}
use Rattle.leaf_close.proofs.Pricing.{ArePairs, IsOfTeam}
use Rattle.leaf_close.proofs.prices.stuck_prices.Given as goal

abbrev pub invariant-loop-j : goal.invariant-loop-j
invariant-loop-j l = record {
  limits : ArePrices l.prices;
  shape : ArePricesOf l.limits.limits l.prices;
  tasks : (h : ℕ) → pi_of l.prices h ≡ pos 0;
  pairs : ArePairs l.prices (pos (all_cost l.limits.limits)) (IsOfTeam l.limits.limits l.k l.j);
}
