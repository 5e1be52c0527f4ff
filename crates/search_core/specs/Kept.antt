-- what the fields of a search stand for, and what always holds of them
use Rattle.std.specs.Prelude.{◌≡◌, ◌≤◌, ◌<◌, ◌+◌, ◌*◌, List, [], length, All}
use Rattle.crew_terms.specs.Limits.{Route, root_limits}
use Rattle.crew_terms.specs.declared.TheConstants.{MOST_NODES}
use Rattle.search_tree.specs.States.{AreBoundsIn}
use Rattle.search_tree.specs.Numbers.{HaveNumbers}
use Rattle.label_pricing.specs.Pricing.{HasRoom}
use Rattle.potentials.specs.Prices.{ArePricesOf}
use Rattle.search_core.specs.Searching.{Searching, cause_at, price_at, state_of}
use Rattle.search_core.specs.declared.searches.Search.TheInside.{Inside}
use Rattle.search_terms.specs.Search.{IsRun}

abbrev pub searching : Inside → Searching
searching a = record {
  instance = a.limits.limits.instance;
  budget = a.budget;
  plan = a.plan;
  left = a.left;
  keyed = a.keyed;
  prices = a.prices.items;
  causes = a.causes.items;
}

-- of a search between two steps: its numbers and shapes
pub record AreFitting (s : Searching) : Type 0 where
  pub some : 0 < length s.prices
  pub numbers : HaveNumbers (length s.prices) (length s.causes) s.keyed.nodes
  pub shapes : All (ArePricesOf (root_limits s.instance)) s.prices
  pub few : s.budget ≤ MOST_NODES
  pub room : length s.keyed.nodes + 2 * s.left ≤ 2 * s.budget + 1
  pub most_prices : length s.prices + s.left ≤ s.budget + 1
  pub most_causes : length s.causes + s.left ≤ s.budget

-- of a search between two steps: it is the state of a run, and the bounds that wait decide
pub record IsKeptSearch (s : Searching) : Type 0 where
  pub run : (columns : List Route) → IsRun s.instance s.budget (state_of columns s)
  pub bounds : (columns : List Route) → AreBoundsIn (root_limits s.instance) (price_at s.prices) (cause_at columns s.causes) s.keyed
  pub fitting : AreFitting s

-- the limits are those of the root, and there is room for pricing
pub record IsKept (a : Inside) : Type 0 where
  pub search : IsKeptSearch (searching a)
  pub root : a.limits.limits ≡ root_limits a.limits.limits.instance
  pub unchanged : a.limits.past ≡ []
  pub pricer : HasRoom a.limits.limits.instance a.pricer
