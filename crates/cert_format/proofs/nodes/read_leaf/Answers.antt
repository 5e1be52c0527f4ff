use Rattle.std.proofs.Common.{refl, arith}
use Rattle.std.specs.Prelude.{codes, ◌<◌, ◌≡◌}
use Rattle.std.proofs.lemmas.Option.{slice_get_within}
use Rattle.cert_format.proofs.NodeLines.{leaf_keys, leaf_line}
use Rattle.cert_format.proofs.nodes.read_leaf.Goals as goal

pub returns-in-0 : goal.returns-in-0
returns-in-0 c = λ teams tasks.
    leaf_line c.args.words c.in-Some.leaf 0 c.word.result.now (codes "bare") c.if-not-has_shape.ensures c.word.ensures c.in-Some.ensures.0 c.in-0.is refl

pub returns-in-1 : goal.returns-in-1
returns-in-1 c = λ teams tasks.
    leaf_line c.args.words c.in-Some.leaf 1 c.word.result.now (codes "open") c.if-not-has_shape.ensures c.word.ensures c.in-Some.ensures.0 c.in-1.is refl

pub returns-in_default-leaf : goal.returns-in_default-leaf
returns-in_default-leaf c = λ teams tasks.
    let within : c.in-Some.leaf < 3 = slice_get_within leaf_keys c.in-Some.leaf c.word.result.now c.in-Some.ensures.0 in
    let last : c.in-Some.leaf ≡ 2 = omega arith in
    leaf_line c.args.words c.in-Some.leaf 2 c.word.result.now (codes "closed") c.if-not-has_shape.ensures c.word.ensures c.in-Some.ensures.0 last refl
