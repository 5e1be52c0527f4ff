use Rattle.std.proofs.Common.{sym, subst}
use Rattle.crew_terms.specs.Leaf.{Prices}
use Rattle.potentials.specs.Prices.{ArePricesOf}
use Rattle.cert_write.specs.Dossiers.{IsPricedLeaf}
use Rattle.cert_write.proofs.leaf.put_leaf.Goals as goal

pub put-requires-clause-room : goal.put-requires-clause-room
put-requires-clause-room g c = record { tasks = c.requires.room.prices.tasks; teams = c.requires.room.prices.teams }

pub put_numbers-requires-clause-prices : goal.put_numbers-requires-clause-prices
put_numbers-requires-clause-prices g c = subst (λ (p : Prices). ArePricesOf c.args.limits.now.limits p) (sym c.put.ensures) c.requires.prices

pub returns-clause-puts : goal.returns-clause-puts
returns-clause-puts g c leaf is =
    c.put_numbers.ensures.puts leaf (subst (λ (p : Prices). IsPricedLeaf c.args.limits.now.limits p leaf) (sym c.put.ensures) is)

pub returns-clause-room : goal.returns-clause-room
returns-clause-room g c =
    let put = subst (λ (p : Prices). ArePricesOf c.args.limits.now.limits p) (sym c.put.ensures) c.requires.prices in record {
      pricer = c.put_numbers.ensures.room;
      prices = record { tasks = put.tasks; teams = put.teams };
      table = c.put_numbers.ensures.table;
    }
