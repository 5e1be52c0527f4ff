use Rattle.std.proofs.Common.{ap, arith, reverse, sym, ◌∙◌}
use Rattle.arrayvec.specs.ArrayVec.{ArrayVec}
use Rattle.branch_tree.proofs.Walked.{has_room, after_split, after_leaf, counts_at_end}
use Rattle.branch_tree.proofs.tree.counts_of.Goals as goal
use Rattle.branch_tree.proofs.tree.counts_of.Goals.{in-None, in-Some}

pub push-requires : goal.push-requires
push-requires c = (
  omega arith,
  has_room c.args.nodes.now c.loop-node.node-index c.loop-node.above.items c.loop-node.counts c.loop-node.invariant c.node-item.result c.loop-node-test.true c.node-item.is
      c.requires.whole c.requires.few (sym c.state_of.ensures ∙ c.in-None.is),
)

pub loop-node-preserved : goal.loop-node-preserved
loop-node-preserved c =
    elim c.match-state_of.branch [
      | in-None w ↦
          after_split c.args.nodes.now c.loop-node.node-index c.loop-node.above.items c.loop-node.counts c.loop-node.invariant c.node-item.result c.loop-node-test.true c.node-item.is
          c.match-state_of.above.items c.match-state_of.counts (sym w.in-None.is ∙ c.state_of.ensures) (ap (λ (v : ArrayVec _). v.items) w.above-is ∙ w.push.ensures.items) w.counts-is
      | in-Some w ↦
          after_leaf c.args.nodes.now c.loop-node.node-index c.loop-node.above.items c.loop-node.counts c.loop-node.invariant c.node-item.result c.loop-node-test.true c.node-item.is
          w.in-Some.state w.len.result c.match-state_of.above.items c.match-state_of.counts (sym w.in-Some.is ∙ c.state_of.ensures) w.len.ensures.value
          (ap (λ (v : ArrayVec _). reverse v.items) w.above-is ∙ w.go_on.ensures) (w.counts-is ∙ w.with_leaf-counts.ensures)
    ]

pub returns : goal.returns
returns c = counts_at_end c.args.nodes.now c.loop-node.node-index (record { above = reverse c.loop-node.above.items; counts = c.loop-node.counts }) c.requires.whole c.loop-node-test.false c.loop-node.invariant.walked
