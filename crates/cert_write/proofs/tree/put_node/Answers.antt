use Rattle.std.proofs.Common.{map, sym, subst, arith}
use Rattle.crew_io.specs.Chains.{puts_done}
use Rattle.cert_write.specs.Causes.{cause_of}
use Rattle.potentials.specs.Prices.{ArePricesOf}
use Rattle.cert_write.proofs.Walks.{can_split, deeper, first_cause, leaf_goes, leaf_stands, leaf_there, leaves_few, not_ok, puts_fails, seen_few, some_cause, some_spare, split_goes, split_stands, split_there}
use Rattle.cert_write.proofs.tree.put_node.Goals as goal

pub bounds-causes-0 : goal.bounds-causes-0
bounds-causes-0 g c =
    let r = c.requires.due in
    let due = split_there r.0 r.1 c.args.node.now c.in-Split.choice r.2 (map cause_of c.args.causes.now) c.args.limits.now c.args.walk.now r.3 c.in-Split.is r.4 in
    some_cause c.args.causes.now _ _ due.causes_are

pub returns-in_err-put_split-in-Split-clause-goes : goal.returns-in_err-put_split-in-Split-clause-goes
returns-in_err-put_split-in-Split-clause-goes g c root whole more place st =
    let due = split_there root whole c.args.node.now c.in-Split.choice more (map cause_of c.args.causes.now) c.args.limits.now c.args.walk.now place c.in-Split.is st in
    split_goes g.K.Sink root whole c.in-Split.choice more _ (map cause_of c.args.causes.now) c.args.limits.now c.args.walk.now place due (first_cause c.args.causes.now _ _ _ due.causes_are) _ _ _ _ _
    (puts_fails g.K.Sink _ _ _ _ c.from_residual.result c.from_residual.ensures.0 c.in_err-put_split-in-Split.ensures) (not_ok _ c.from_residual.result c.from_residual.ensures.0)

pub enter-requires-clause-split : goal.enter-requires-clause-split
enter-requires-clause-split g c =
    let r = c.requires.due in
    let due = split_there r.0 r.1 c.args.node.now c.in-Split.choice r.2 (map cause_of c.args.causes.now) c.args.limits.now c.args.walk.now r.3 c.in-Split.is r.4 in
    can_split r.0 r.1 c.in-Split.choice r.2 (map cause_of c.args.causes.now) c.args.limits.now c.args.walk.now r.3 due

pub enter-requires-clause-room : goal.enter-requires-clause-room
enter-requires-clause-room g c =
    let r = c.requires.due in
    let due = split_there r.0 r.1 c.args.node.now c.in-Split.choice r.2 (map cause_of c.args.causes.now) c.args.limits.now c.args.walk.now r.3 c.in-Split.is r.4 in
    seen_few r.0 r.1 c.args.limits.now c.args.walk.now due.levels _ _ due.at

pub enter-requires-clause-deeper : goal.enter-requires-clause-deeper
enter-requires-clause-deeper g c =
    let r = c.requires.due in
    let due = split_there r.0 r.1 c.args.node.now c.in-Split.choice r.2 (map cause_of c.args.causes.now) c.args.limits.now c.args.walk.now r.3 c.in-Split.is r.4 in
    deeper r.0 r.1 c.args.limits.now c.args.walk.now due.levels _ _ due.at (omega arith)

pub enter-requires-clause-spare : goal.enter-requires-clause-spare
enter-requires-clause-spare g c =
    let r = c.requires.due in
    let due = split_there r.0 r.1 c.args.node.now c.in-Split.choice r.2 (map cause_of c.args.causes.now) c.args.limits.now c.args.walk.now r.3 c.in-Split.is r.4 in
    some_spare r.0 r.1 c.args.limits.now c.args.walk.now due.levels _ _ due.at (omega arith)

pub returns-in_ok-put_split-in-Split-clause-goes : goal.returns-in_ok-put_split-in-Split-clause-goes
returns-in_ok-put_split-in-Split-clause-goes g c root whole more place st =
    let due = split_there root whole c.args.node.now c.in-Split.choice more (map cause_of c.args.causes.now) c.args.limits.now c.args.walk.now place c.in-Split.is st in
    split_goes g.K.Sink root whole c.in-Split.choice more _ (map cause_of c.args.causes.now) c.args.limits.now c.args.walk.now place due (first_cause c.args.causes.now _ _ _ due.causes_are) _ _ _ _ _
    (puts_done g.K.Sink _ _ _ _ _ c.in_ok-put_split-in-Split.ensures)
    (split_stands root whole c.in-Split.choice more (map cause_of c.args.causes.now) c.args.limits.now c.args.walk.now place due _ _ c.enter.ensures.enters c.enter.ensures.depth c.enter.ensures.spare)

pub returns-in_ok-put_split-in-Split-clause-used : goal.returns-in_ok-put_split-in-Split-clause-used
returns-in_ok-put_split-in-Split-clause-used g c =
    let r = c.requires.due in
    let due = split_there r.0 r.1 c.args.node.now c.in-Split.choice r.2 (map cause_of c.args.causes.now) c.args.limits.now c.args.walk.now r.3 c.in-Split.is r.4 in
    let some = some_cause c.args.causes.now _ _ due.causes_are in
    omega (arith, some)

pub put_claim-requires-clause-prices : goal.put_claim-requires-clause-prices
put_claim-requires-clause-prices g c =
    let r = c.requires.due in
    let due = leaf_there r.0 r.1 c.args.node.now c.in-Leaf.state c.in-Leaf.prices r.2 (map cause_of c.args.causes.now) c.args.limits.now c.args.walk.now r.3 c.in-Leaf.is r.4 in
    subst (λ n. ArePricesOf n c.in-Leaf.prices) (sym due.at.at.way.limits) due.at.valid.counts

pub returns-in_err-put_claim-in-Leaf-clause-goes : goal.returns-in_err-put_claim-in-Leaf-clause-goes
returns-in_err-put_claim-in-Leaf-clause-goes g c root whole more place st =
    let due = leaf_there root whole c.args.node.now c.in-Leaf.state c.in-Leaf.prices more (map cause_of c.args.causes.now) c.args.limits.now c.args.walk.now place c.in-Leaf.is st in
    leaf_goes g.K.Sink root whole c.in-Leaf.state c.in-Leaf.prices more (map cause_of c.args.causes.now) c.args.limits.now c.args.walk.now place due _ _ _ _ c.from_residual-in_err-put_claim-in-Leaf.result
    (λ claim same. puts_fails g.K.Sink _ _ _ _ c.from_residual-in_err-put_claim-in-Leaf.result c.from_residual-in_err-put_claim-in-Leaf.ensures.0 (c.in_err-put_claim-in-Leaf.ensures.puts claim same))
    (not_ok _ c.from_residual-in_err-put_claim-in-Leaf.result c.from_residual-in_err-put_claim-in-Leaf.ensures.0)

pub leave-requires-clause-room : goal.leave-requires-clause-room
leave-requires-clause-room g c =
    let r = c.requires.due in
    let due = leaf_there r.0 r.1 c.args.node.now c.in-Leaf.state c.in-Leaf.prices r.2 (map cause_of c.args.causes.now) c.args.limits.now c.args.walk.now r.3 c.in-Leaf.is r.4 in
    leaves_few r.0 r.1 c.args.limits.now c.args.walk.now due.levels _ _ due.at c.is_closed.result

pub returns-in_ok-put_claim-in-Leaf-clause-goes : goal.returns-in_ok-put_claim-in-Leaf-clause-goes
returns-in_ok-put_claim-in-Leaf-clause-goes g c root whole more place st =
    let due = leaf_there root whole c.args.node.now c.in-Leaf.state c.in-Leaf.prices more (map cause_of c.args.causes.now) c.args.limits.now c.args.walk.now place c.in-Leaf.is st in
    leaf_goes g.K.Sink root whole c.in-Leaf.state c.in-Leaf.prices more (map cause_of c.args.causes.now) c.args.limits.now c.args.walk.now place due _ _ _ _ _
    (λ claim same. puts_done g.K.Sink _ _ _ _ _ (c.in_ok-put_claim-in-Leaf.ensures.puts claim same))
    (leaf_stands root whole c.in-Leaf.state c.in-Leaf.prices more (map cause_of c.args.causes.now) c.args.limits.now c.args.walk.now place due _ _ c.is_closed.result c.is_closed.ensures c.leave.result c.leave.ensures.leaves c.leave.ensures.depth c.leave.ensures.spare)
