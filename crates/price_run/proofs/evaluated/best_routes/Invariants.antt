use Rattle.std.proofs.Common.{◌≡◌, ◌<◌, ℕ, [], length, get_or}
use Rattle.crew_terms.specs.Leaf.{IsWorth, worth_of}
use Rattle.label_pricing.specs.Pricing.{HasRoom}
use Rattle.squeeze_terms.specs.MinutePrices.{minute_price}
use Rattle.squeeze_terms.specs.Run.{IsBestRoute}
use Rattle.price_run.proofs.evaluated.best_routes.Given as goal

abbrev pub invariant-loop-k : goal.invariant-loop-k
invariant-loop-k l = record {
  routes_count : length l.routes.items ≡ l.k;
  worths_count : length l.worths.items ≡ l.k;
  best : (h : ℕ) → h < l.k → IsBestRoute l.limits.limits h (minute_price l.limits.limits.instance l.prices) (get_or l.routes.items h []);
  worth : (h : ℕ) → h < l.k → IsWorth l.limits.limits h (minute_price l.limits.limits.instance l.prices) (worth_of l.worths.items h);
  room : HasRoom l.limits.limits.instance l.pricer;
}
