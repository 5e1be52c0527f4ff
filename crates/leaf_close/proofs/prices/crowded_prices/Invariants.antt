use Rattle.std.proofs.Common.{◌≡◌, ℕ, pos, cond, eqb}
use Rattle.std.specs.Prelude.{neg_ℤ}
use Rattle.crew_terms.specs.Leaf.{pi_of}
use Rattle.potentials.specs.Prices.{ArePrices, ArePricesOf}
use Rattle.search_terms.specs.Closing.{all_cost}
use Rattle.leaf_close.proofs.Pricing.{ArePairs, IsOfTask}
use Rattle.leaf_close.proofs.prices.crowded_prices.Given as goal

abbrev pub invariant-loop-k : goal.invariant-loop-k
invariant-loop-k l = record {
  limits : ArePrices l.prices;
  shape : ArePricesOf l.limits.limits l.prices;
  tasks : (h : ℕ) → pi_of l.prices h ≡ cond (eqb h l.j) (neg_ℤ (pos (all_cost l.limits.limits))) (pos 0);
  pairs : ArePairs l.prices (pos (all_cost l.limits.limits)) (IsOfTask l.limits.limits l.j l.k);
}
