use Rattle.std.proofs.Common.{arith}
use Rattle.label_pricing.proofs.tables.earns.Goals as goal

pub label_at-requires-clause-visit : goal.label_at-requires-clause-visit
label_at-requires-clause-visit c = (c.requires.turn.each c.args.t).1 (c.requires.first, let a = c.if-t-turn.false in omega arith)

pub label_at-requires-clause-cells : goal.label_at-requires-clause-cells
label_at-requires-clause-cells c q u l from to =
    let visit = (c.requires.turn.each c.args.t).1 (c.requires.first, let a = c.if-t-turn.false in omega arith) in
    c.requires.cells q u l (let a = c.requires.start c.args.j c.args.t visit in omega arith) to
