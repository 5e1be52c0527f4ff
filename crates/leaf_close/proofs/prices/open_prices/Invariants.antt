use Rattle.std.proofs.Common.{◌≡◌, ◌≤◌, ◌<◌, ℕ, pos, cond}
use Rattle.std.specs.Prelude.{◌/◌}
use Rattle.crew_terms.specs.Instance.{task_of}
use Rattle.crew_terms.specs.Leaf.{pi_of}
use Rattle.crew_terms.specs.Limits.{has_required}
use Rattle.crew_terms.specs.declared.TheConstants.{D}
use Rattle.crew_terms.specs.Leaf.{zero_prices}
use Rattle.potentials.specs.Prices.{ArePrices, ArePricesOf}
use Rattle.leaf_close.proofs.prices.open_prices.Given as goal

abbrev pub invariant-loop-j : goal.invariant-loop-j
invariant-loop-j l = record {
  limits : ArePrices l.prices;
  shape : ArePricesOf l.limits.limits l.prices;
  pairs : l.prices.rho ≡ (zero_prices l.limits.limits).rho;
  done : (h : ℕ) → h < l.j → pi_of l.prices h ≡ cond (has_required l.limits.limits h) (pos 0) (pos (D / (task_of l.limits.limits.instance h).teams));
  open_tasks : (h : ℕ) → l.j ≤ h → pi_of l.prices h ≡ pos 0;
}
