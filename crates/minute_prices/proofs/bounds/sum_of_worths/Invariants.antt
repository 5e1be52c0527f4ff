use Rattle.std.proofs.Common.{◌≡◌, ◌*◌, ◌^◌}
use Rattle.crew_terms.specs.Leaf.{worth_of}
use Rattle.crew_terms.specs.Total.{total}
use Rattle.potentials.specs.Sums.{IsBoundedBy}
use Rattle.minute_prices.proofs.bounds.sum_of_worths.Given as goal

abbrev pub invariant-loop-worth : goal.invariant-loop-worth
invariant-loop-worth l = record {
  sum : l.sum ≡ total l.worth-index (worth_of l.worths);
  range : IsBoundedBy (2 ^ 63 * l.worth-index) l.sum;
}
