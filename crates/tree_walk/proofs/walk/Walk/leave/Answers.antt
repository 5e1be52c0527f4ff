use Rattle.std.proofs.Common.{◌≡◌, ◌+◌, ◌-◌, suc, length, drop, ap, sym, ◌∙◌, arith}
use Rattle.crew_terms.specs.Nodes.{child_instance}
use Rattle.tree_walk.proofs.Ways.{second_is_split}
use Rattle.tree_walk.proofs.Leaves.{some_above, counted, split_above, same_instance, instance_at, turns, rises, ends}
use Rattle.tree_walk.proofs.walk.Walk.leave.Goals as goal

pub loop-branch-init : goal.loop-branch-init
loop-branch-init c = record {
  past = counted _ _ _ _ c.count_leaf.ensures.above c.count_leaf.ensures.seen;
  depth = c.count_leaf.ensures.depth;
  spare = ap (λ bs. c.args.limits.now.spare + length bs) c.count_leaf.ensures.above;
}

pub undo-requires : goal.undo-requires
undo-requires c =
    (split_above _ _ _ _ _ c.loop-branch.invariant.past c.in-Some.branch c.requires.somewhere (sym c.innermost.ensures ∙ c.in-Some.is)).some

pub narrow-requires-clause-split : goal.narrow-requires-clause-split
narrow-requires-clause-split c =
    let above = split_above _ _ _ _ _ c.loop-branch.invariant.past c.in-Some.branch c.requires.somewhere (sym c.innermost.ensures ∙ c.in-Some.is) in
    second_is_split c.undo.new.self.limits c.in-Some.branch.choice c.in-Some.branch.side c.in-Some-second.next (above.split c.undo.new.self c.undo.ensures.past) (sym c.second.ensures ∙ c.in-Some-second.is)

pub returns-in-Some-second-clause-leaves : goal.returns-in-Some-second-clause-leaves
returns-in-Some-second-clause-leaves c =
    turns _ _ _ _ _ c.loop-branch.invariant.past c.undo.new.self c.narrow.new.limits c.turn.new.self c.in-Some.branch c.in-Some-second.next
    (sym c.innermost.ensures ∙ c.in-Some.is) c.undo.ensures.past (sym c.second.ensures ∙ c.in-Some-second.is) c.narrow.ensures c.turn.ensures

pub returns-in-Some-second-clause-instance : goal.returns-in-Some-second-clause-instance
returns-in-Some-second-clause-instance c =
    let above = split_above _ _ _ _ _ c.loop-branch.invariant.past c.in-Some.branch c.requires.somewhere (sym c.innermost.ensures ∙ c.in-Some.is) in
    ap (λ t. t.limits.instance) c.narrow.ensures ∙ child_instance c.undo.new.self.limits c.in-Some-second.next.choice c.in-Some-second.next.side
    ∙ above.instance c.undo.new.self c.undo.ensures.past ∙ sym (instance_at _ _ c.requires.somewhere)

pub loop-branch-preserved : goal.loop-branch-preserved
loop-branch-preserved c =
    let above = some_above c.loop-branch.self.above c.in-Some.branch (sym c.innermost.ensures ∙ c.in-Some.is) in
    let less = above.0 in
    let kept = c.loop-branch.invariant.spare in
    let undone = c.undo.ensures.spare in
    let rose : length c.rise.new.self.above ≡ length (drop 1 c.loop-branch.self.above) = ap (λ w. length w.above) c.rise.ensures in
    record {
      past = rises _ _ _ _ _ c.loop-branch.invariant.past c.undo.new.self c.rise.new.self c.in-Some.branch
          (sym c.innermost.ensures ∙ c.in-Some.is) c.undo.ensures.past (sym c.second.ensures ∙ c.in_default-second.is) c.rise.ensures;
      depth = ap (λ w. w.depth) c.rise.ensures ∙ c.loop-branch.invariant.depth;
      spare = omega arith;
    }

pub returns-in-Some-second-clause-depth : goal.returns-in-Some-second-clause-depth
returns-in-Some-second-clause-depth c = ap (λ w. w.depth) c.turn.ensures ∙ c.loop-branch.invariant.depth

pub returns-in-Some-second-clause-spare : goal.returns-in-Some-second-clause-spare
returns-in-Some-second-clause-spare c =
    let above = some_above c.loop-branch.self.above c.in-Some.branch (sym c.innermost.ensures ∙ c.in-Some.is) in
    let less = above.0 in
    let kept = c.loop-branch.invariant.spare in
    let undone = c.undo.ensures.spare in
    let turned : length c.turn.new.self.above ≡ suc (length (drop 1 c.loop-branch.self.above)) = ap (λ w. length w.above) c.turn.ensures in
    let narrowed : c.narrow.new.limits.spare ≡ c.undo.new.self.spare - 1 = ap (λ t. t.spare) c.narrow.ensures in
    omega arith

pub returns-clause-instance : goal.returns-clause-instance
returns-clause-instance c = same_instance _ _ _ _ _ c.loop-branch.invariant.past c.requires.somewhere ∙ sym (instance_at _ _ c.requires.somewhere)

pub returns-clause-leaves : goal.returns-clause-leaves
returns-clause-leaves c = ends _ _ _ _ _ c.loop-branch.invariant.past (sym c.innermost.ensures ∙ c.in_default.is)
