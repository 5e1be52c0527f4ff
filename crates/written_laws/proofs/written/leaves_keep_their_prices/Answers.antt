use Rattle.crew_terms.specs.Leaf.{earned}
use Rattle.potentials.specs.Sums.{rewards_bounded}
use Rattle.written_laws.proofs.Trees.{leaf_prices}
use Rattle.written_laws.proofs.written.leaves_keep_their_prices.Goals as goal

pub returns : goal.returns
returns c n p leaf instance is same =
    leaf_prices (λ n k p. c.earnings_fit.ensures.least n k (earned p k))
    (λ n k p v is range. c.earnings_fit.ensures.worths n k (earned p k) v is (rewards_bounded p k range))
    (λ n k p j t v is range. c.earnings_fit.ensures.bests n k (earned p k) j t v is (rewards_bounded p k range)) c.written_prices_are_in_range.ensures
    c.required_teams_are_listed.ensures c.priced_tasks_are_listed.ensures c.extra_is_written.ensures n instance p is leaf same
