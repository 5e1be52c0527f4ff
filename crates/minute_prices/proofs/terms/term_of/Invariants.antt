use Rattle.std.proofs.Common.{◌≡◌, ◌*◌, ℤ, pos, take}
use Rattle.crew_terms.specs.declared.TheConstants.{D, MOST_PRICE, MOST_TEAMS_PER_TASK}
use Rattle.potentials.specs.Sums.{IsBoundedBy}
use Rattle.squeeze_terms.specs.Bound.{teams_price}
use Rattle.minute_prices.proofs.Leasts.{first_least, least_from}
use Rattle.minute_prices.proofs.terms.term_of.Given as goal

abbrev pub invariant-loop-t : goal.invariant-loop-t
invariant-loop-t l = record {
  term : l.best.term ≡ least_from (teams_price l.instance l.prices l.j) (pos D) (take l.t-index l.minutes);
  minute : l.best.minute ≡ first_least (teams_price l.instance l.prices l.j) (pos D) (take l.t-index l.minutes);
  range : IsBoundedBy (MOST_TEAMS_PER_TASK * MOST_PRICE) l.best.term;
}
