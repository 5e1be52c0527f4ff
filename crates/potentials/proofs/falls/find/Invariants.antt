use Rattle.std.proofs.Common.{◌≤◌, vec_len, vec_capacity}
use Rattle.potentials.specs.declared.records.TheConstants.{MOST_MINUTES}
use Rattle.potentials.proofs.Fallen.{FallsBefore}
use Rattle.potentials.proofs.falls.find.Given as goal

abbrev pub invariant-loop-a : goal.invariant-loop-a
invariant-loop-a l = record {
  room : MOST_MINUTES ≤ vec_capacity l.list;
  few : vec_len l.list ≤ l.a;
  falls : FallsBefore l.potentials l.opens l.a l.list.items;
}
