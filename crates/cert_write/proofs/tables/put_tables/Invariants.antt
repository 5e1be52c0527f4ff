use Rattle.std.proofs.Common.{List, take}
use Rattle.std.specs.List.{enumerate_from, flat_map}
use Rattle.crew_io.specs.Puts.{Puts}
use Rattle.crew_io.specs.Chains.{fine}
use Rattle.dossier_terms.specs.Dossier.{Potentials}
use Rattle.cert_write.specs.Dossiers.{ArePricedTables}
use Rattle.label_pricing.specs.Pricing.{HasRoom}
use Rattle.potentials.specs.Table.{IsTableOf}
use Rattle.cert_write.proofs.TeamTables.{team_text}
use Rattle.cert_write.proofs.tables.put_tables.Given as goal

abbrev pub invariant-loop-k : goal.invariant-loop-k
invariant-loop-k g l = record {
  so_far : (ts : List Potentials) → ArePricedTables l.limits.limits l.prices 0 ts
      → Puts g.K.Sink (flat_map (team_text l.limits.limits) (take l.k (enumerate_from 0 ts))) l.fn.out l.out fine;
  room : HasRoom l.limits.limits.instance l.pricer;
  table : IsTableOf l.limits.limits.instance l.table;
}
