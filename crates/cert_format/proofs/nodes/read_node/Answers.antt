use Rattle.std.proofs.Common.{refl, arith}
use Rattle.std.specs.Prelude.{codes, ◌<◌, ◌≡◌}
use Rattle.std.proofs.lemmas.Option.{slice_get_within}
use Rattle.cert_format.proofs.NodeLines.{node_keys, begins_at}
use Rattle.cert_format.proofs.nodes.read_node.Goals as goal

pub read_window-requires : goal.read_window-requires
read_window-requires c = begins_at c.args.words c.in-Some.node 0 c.word.result.now (codes "window") c.word.ensures c.in-Some.ensures.0 c.in-0.is refl

pub read_pair-requires : goal.read_pair-requires
read_pair-requires c = begins_at c.args.words c.in-Some.node 1 c.word.result.now (codes "pair") c.word.ensures c.in-Some.ensures.0 c.in-1.is refl

pub read_leaf-requires : goal.read_leaf-requires
read_leaf-requires c =
    let within : c.in-Some.node < 3 = slice_get_within node_keys c.in-Some.node c.word.result.now c.in-Some.ensures.0 in
    let last : c.in-Some.node ≡ 2 = omega arith in
    begins_at c.args.words c.in-Some.node 2 c.word.result.now (codes "leaf") c.word.ensures c.in-Some.ensures.0 last refl

pub returns-in-0 : goal.returns-in-0
returns-in-0 c = c.read_window.ensures c.args.teams

pub returns-in_default-node : goal.returns-in_default-node
returns-in_default-node c = c.read_leaf.ensures c.args.teams c.args.tasks
