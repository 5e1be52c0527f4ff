use Rattle.std.proofs.Common.{subst}
use Rattle.crew_terms.specs.Instance.{Instance}
use Rattle.label_pricing.specs.Pricing.{HasRoom}
use Rattle.potentials.specs.Table.{IsTableOf}
use Rattle.cert_write.proofs.tables.Room.reserve.Goals as goal

pub returns : goal.returns
returns c = record {
  pricer = subst (λ (i : Instance). HasRoom i c.in_ok-pricer.pricer) c.instance.ensures.instance c.in_ok-pricer.ensures;
  prices = record { tasks = c.in_ok-prices.ensures.prices.tasks; teams = c.in_ok-prices.ensures.prices.teams };
  table = subst (λ (i : Instance). IsTableOf i c.in_ok-table.table) c.instance-2.ensures.instance c.in_ok-table.ensures.table;
}
