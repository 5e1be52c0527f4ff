use Rattle.crew_io.specs.Chains.{puts_then, puts_same, puts_front}
use Rattle.cert_write.proofs.Leaves.{extras_text, numbers_front_1, numbers_front_2}
use Rattle.cert_write.proofs.leaf.put_numbers.Goals as goal

pub returns-in_err-put_price_line-clause-puts : goal.returns-in_err-put_price_line-clause-puts
returns-in_err-put_price_line-clause-puts g c leaf is =
    puts_front g.K.Sink _ _ _ _ _ c.from_residual.result c.from_residual.ensures.0 c.in_err-put_price_line.ensures
    (numbers_front_1 c.args.limits.now.limits c.args.prices.now leaf is)

pub returns-in_err-put_extras-clause-puts : goal.returns-in_err-put_extras-clause-puts
returns-in_err-put_extras-clause-puts g c leaf is =
    puts_front g.K.Sink _ _ _ _ _ c.from_residual-in_err-put_extras.result c.from_residual-in_err-put_extras.ensures.0
    (puts_then g.K.Sink _ _ _ _ _ _ _ c.in_ok-put_price_line.ensures c.in_err-put_extras.ensures)
    (numbers_front_2 c.args.limits.now.limits c.args.prices.now leaf is)

pub returns-clause-puts : goal.returns-clause-puts
returns-clause-puts g c leaf is =
    puts_same g.K.Sink _ _ _ _ _ (extras_text c.args.limits.now.limits c.args.prices.now leaf is)
    (puts_then g.K.Sink _ _ _ _ _ _ _ (puts_then g.K.Sink _ _ _ _ _ _ _ c.in_ok-put_price_line.ensures c.in_ok-put_extras.ensures) (c.put_tables.ensures.puts leaf.tables is.tables))
