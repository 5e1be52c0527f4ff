use Rattle.std.proofs.Common.{arith}
use Rattle.kept_rows.proofs.Listed.{within_step, within_all}
use Rattle.kept_rows.proofs.tableau.reach_of_all.Goals as goal

pub loop-column-preserved : goal.loop-column-preserved
loop-column-preserved c = within_step c.args.last c.args.columns.now c.loop-column.column-index c.column-item.result c.loop-column.reach c.reach_with-reach.result (omega arith) c.column-item.is
    c.loop-column.invariant c.reach_with-reach.ensures

pub returns : goal.returns
returns c = within_all c.args.last c.args.columns.now c.loop-column.column-index c.loop-column.reach (omega arith) c.loop-column.invariant
