use Rattle.std.proofs.Common.{◌≡◌, ◌*◌}
use Rattle.crew_terms.specs.Total.{total}
use Rattle.crew_terms.specs.declared.TheConstants.{MOST_PRICE, MOST_TEAMS_PER_TASK}
use Rattle.potentials.specs.Sums.{IsBoundedBy}
use Rattle.squeeze_terms.specs.Bound.{minute_term}
use Rattle.minute_prices.proofs.bounds.sum_of_terms.Given as goal

abbrev pub invariant-loop-j : goal.invariant-loop-j
invariant-loop-j l = record {
  sum : l.sum ≡ total l.j (minute_term l.instance l.prices);
  range : IsBoundedBy (MOST_TEAMS_PER_TASK * MOST_PRICE * l.j) l.sum;
}
