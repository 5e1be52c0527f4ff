use Rattle.std.proofs.Common.{◌≡◌, ◌*◌, ◌+ℤ◌, drop}
use Rattle.crew_terms.specs.Leaf.{rewards, earned}
use Rattle.crew_terms.specs.declared.TheConstants.{MOST_PRICE}
use Rattle.potentials.specs.Sums.{IsBoundedBy}
use Rattle.node_solver.proofs.earnings.earnings.Given as goal

abbrev pub invariant-loop-visit : goal.invariant-loop-visit
invariant-loop-visit l = record {
  sum : l.sum +ℤ rewards (earned l.prices l.k) (drop l.visit-index l.visits) ≡ rewards (earned l.prices l.k) l.visits;
  range : IsBoundedBy (2 * MOST_PRICE * l.visit-index) l.sum;
}
