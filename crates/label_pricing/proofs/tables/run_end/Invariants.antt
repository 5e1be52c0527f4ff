use Rattle.std.proofs.Common.{◌≤◌, ◌<◌}
use Rattle.crew_terms.specs.Leaf.{earned}
use Rattle.crew_terms.specs.Limits.{IsPermittedVisit}
use Rattle.label_pricing.specs.Best.{IsBest}
use Rattle.label_pricing.proofs.tables.run_end.Given as goal

abbrev pub invariant-loop : goal.invariant-loop
invariant-loop l = record {
  order : l.t ≤ l.last;
  late : l.last < l.turn.end;
  small : l.step ≤ 4096;
  visit : IsPermittedVisit l.limits.limits l.k l.j l.last;
  best : IsBest l.limits.limits l.k (earned l.prices l.k) l.j l.last l.value;
}
