use Rattle.std.proofs.Common.{◌<◌, ◌≤◌, ◌+◌, length, length-drop, map, drop, ap, sym, subst, ◌∙◌, arith}
use Rattle.crew_terms.specs.Limits.{root_limits}
use Rattle.cert_write.specs.Causes.{cause_of}
use Rattle.cert_write.specs.Tables.{IsRoomOf}
use Rattle.cert_write.specs.Walks.{IsAmid}
use Rattle.cert_write.proofs.Nodes.{amid_end, amid_fails, amid_next, amid_start, causes_left, node_and_more, none_behind, stands_at}
use Rattle.cert_write.proofs.tree.put_nodes.Goals as goal

pub loop-at-init : goal.loop-at-init
loop-at-init g c = record {
  instance = ap (λ n. n.instance) c.requires.ready.root;
  room = c.requires.ready.room;
  few = omega arith;
  amid = λ given written due.
      amid_start g.K.Sink (root_limits c.args.instance.now) c.args.tree.now (map cause_of c.args.causes.now) c.args.limits.now c.args.walk.now c.args.out.now given written c.splits-few.result
      c.one_tree.ensures due c.requires.ready.at c.requires.ready.start c.requires.ready.deep c.requires.ready.spare c.splits-few.ensures.number c.splits-few.ensures.few;
}

pub put_node-requires-clause-due : goal.put_node-requires-clause-due
put_node-requires-clause-due g c =
    let root = root_limits c.args.instance.now in
    let tree = c.args.tree.now in
    let r = c.requires.due in
    let amid = subst (λ cs. IsAmid g.K.Sink root r.1 (drop c.loop-at.at tree) (map cause_of cs) c.loop-at.limits c.loop-at.walk c.args.out.now c.loop-at.out) (sym c.causes_from-left.ensures) (c.loop-at.invariant.amid r.0 r.1 r.2) in
    let below : c.loop-at.at < length tree = (let t = c.loop-at-test.true in let e = c.len-at-end.ensures.count in omega (arith, t, e)) in (
      root,
      r.1,
      drop (c.loop-at.at + 1) tree,
      amid.place,
      stands_at g.K.Sink root r.1 _ _ c.node.result.now (drop (c.loop-at.at + 1) tree) _ _ _ _ c.loop-at.out amid (node_and_more tree c.loop-at.at c.node.result.now below c.node.ensures),
    )

pub put_node-requires-clause-room : goal.put_node-requires-clause-room
put_node-requires-clause-room g c = subst (λ i. IsRoomOf i c.loop-at.room) (sym c.loop-at.invariant.instance) c.loop-at.invariant.room

pub loop-at-preserved : goal.loop-at-preserved
loop-at-preserved g c =
    let root = root_limits c.args.instance.now in
    let tree = c.args.tree.now in
    let below : c.loop-at.at < length tree = (let t = c.loop-at-test.true in let e = c.len-at-end.ensures.count in omega (arith, t, e)) in
    let first = node_and_more tree c.loop-at.at c.node.result.now below c.node.ensures in
    let same = c.put_node.ensures.instance ∙ c.loop-at.invariant.instance in
    record {
      instance = same;
      room = subst (λ i. IsRoomOf i c.put_node.new.room) same c.put_node.ensures.room;
      few = (let u = c.in_ok-used.ensures.used in let f = c.loop-at.invariant.few in let l = length-drop c.loop-at.written c.args.causes.now in let e = ap length c.causes_from-left.ensures in omega (arith, u, f, l, e));
      amid = λ given written due.
          let amid = subst (λ cs. IsAmid g.K.Sink root written (drop c.loop-at.at tree) (map cause_of cs) c.loop-at.limits c.loop-at.walk c.args.out.now c.loop-at.out) (sym c.causes_from-left.ensures) (c.loop-at.invariant.amid given written due) in
          let st = stands_at g.K.Sink root written _ _ c.node.result.now (drop (c.loop-at.at + 1) tree) _ _ _ _ c.loop-at.out amid first in
          amid_next g.K.Sink root written _ _ c.node.result.now (drop (c.loop-at.at + 1) tree) _ _ _ _ c.put_node.new.out amid first _ _ c.put_node.result
          (c.put_node.ensures.goes root written (drop (c.loop-at.at + 1) tree) amid.place st) c.in_ok-used.used _ c.in_ok-used.was (causes_left c.args.causes.now c.loop-at.written c.in_ok-used.used ∙ ap (λ cs. drop c.in_ok-used.used (map cause_of cs)) (sym c.causes_from-left.ensures));
    }

pub returns-in_err-used : goal.returns-in_err-used
returns-in_err-used g c given written due =
    let root = root_limits c.args.instance.now in
    let tree = c.args.tree.now in
    let below : c.loop-at.at < length tree = (let t = c.loop-at-test.true in let e = c.len-at-end.ensures.count in omega (arith, t, e)) in
    let first = node_and_more tree c.loop-at.at c.node.result.now below c.node.ensures in
    let amid = subst (λ cs. IsAmid g.K.Sink root written (drop c.loop-at.at tree) (map cause_of cs) c.loop-at.limits c.loop-at.walk c.args.out.now c.loop-at.out) (sym c.causes_from-left.ensures) (c.loop-at.invariant.amid given written due) in
    let st = stands_at g.K.Sink root written _ _ c.node.result.now (drop (c.loop-at.at + 1) tree) _ _ _ _ c.loop-at.out amid first in
    amid_fails g.K.Sink root written _ _ c.node.result.now (drop (c.loop-at.at + 1) tree) _ _ _ _ c.put_node.new.out amid first _ _ c.put_node.result
    (c.put_node.ensures.goes root written (drop (c.loop-at.at + 1) tree) amid.place st) _ c.from_residual.result c.from_residual.ensures.0 c.in_err-used.was

pub returns : goal.returns
returns g c given written due =
    let past : length c.args.tree.now ≤ c.loop-at.at = (let t = c.loop-at-test.false in let e = c.len-at-end.ensures.count in omega (arith, t, e)) in
    amid_end g.K.Sink (root_limits c.args.instance.now) written _ _ _ _ _ _ (c.loop-at.invariant.amid given written due) (none_behind c.args.tree.now c.loop-at.at past)
