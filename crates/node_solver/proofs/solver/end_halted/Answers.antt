use Rattle.node_solver.proofs.Ending.{proved_required}
use Rattle.node_solver.proofs.solver.end_halted.Goals as goal

pub returns-then-known-now-clause-ends : goal.returns-then-known-now-clause-ends
returns-then-known-now-clause-ends c = λ pivots columns halts.
    c.less_is_proved.ensures c.args.limits.now.limits c.args.known.prices c.args.known.proved c.args.now c.if-known-now.true c.requires.count.proved

pub returns-then-known-now-clause-required : goal.returns-then-known-now-clause-required
returns-then-known-now-clause-required c = proved_required c.args.limits.now.limits c.args.known.prices c.args.known.proved c.requires.count.proved

pub returns-clause-required : goal.returns-clause-required
returns-clause-required c = proved_required c.args.limits.now.limits c.args.known.prices c.args.known.proved c.requires.count.proved
