use Rattle.std.proofs.Common.{arith, sym}
use Rattle.std.proofs.lemmas.List.{take_all}
use Rattle.std.proofs.lemmas.List.Elements.{All-more, All-same}
use Rattle.potentials.specs.Ahead.{IsBounded}
use Rattle.potentials.proofs.ahead.are_bounded.Goals as goal

pub loop-visit-preserved : goal.loop-visit-preserved
loop-visit-preserved c =
    All-more (IsBounded c.args.list.now c.args.task) c.args.records.now c.loop-visit.visit-index _ c.loop-visit-test.true c.loop-visit.invariant (c.is_bounded_at.ensures c.if-not-is_bounded_at.false)

pub returns : goal.returns
returns c =
    let end = c.loop-visit-test.false in
    λ t. All-same (IsBounded c.args.list.now c.args.task) _ _ (sym (take_all c.loop-visit.visit-index c.args.records.now (omega arith))) c.loop-visit.invariant
