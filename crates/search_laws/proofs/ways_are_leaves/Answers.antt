use Rattle.search_terms.specs.Proven.{PricesProve}
use Rattle.search_laws.proofs.Ways.{each_from_ways, ways_from_each, stays_open, came_from, child_limits}
use Rattle.search_laws.proofs.ways_are_leaves.Goals as goal

pub returns : goal.returns
returns c = record {
  each = λ n t l. (ways_from_each (λ m prices. PricesProve m prices l) n t, each_from_ways (λ m prices. PricesProve m prices l) n t);
  others = stays_open;
  no_more = λ t way other new a b. came_from t way new other a b;
  children = child_limits;
}
