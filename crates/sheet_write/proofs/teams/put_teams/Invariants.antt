use Rattle.label_pricing.specs.Pricing.{HasRoom}
use Rattle.potentials.specs.Table.{IsTableOf}
use Rattle.sheet_write.proofs.TeamsSoFar.{TeamsSoFar}
use Rattle.sheet_write.proofs.teams.put_teams.Given as goal

abbrev pub invariant-loop-k : goal.invariant-loop-k
invariant-loop-k g l = record {
  so_far : TeamsSoFar g.K.Sink l.limits.limits l.prices l.k l.fn.out l.out;
  room : HasRoom l.limits.limits.instance l.pricer;
  table : IsTableOf l.limits.limits.instance l.table;
}
