use Rattle.std.proofs.Common.{◌≡◌, length, arith, sym, w64}
use Rattle.std.specs.Prelude.{FitsSigned}
use Rattle.std.proofs.lemmas.Int.{to_z-of_z}
use Rattle.std.proofs.lemmas.List.{take_all}
use Rattle.std.proofs.lemmas.List.Elements.{All-more, All-same}
use Rattle.potentials.specs.Ahead.{AllowsFall}
use Rattle.potentials.proofs.Rising.{allows_none, allows_sooner}
use Rattle.potentials.proofs.ahead.allows.Goals as goal

pub returns-then-is_empty : goal.returns-then-is_empty
returns-then-is_empty c =
    let none : length c.args.list.now ≡ 0 = let e = c.is_empty.ensures in let t = c.if-is_empty.true in grind arith in
    λ t k d l. allows_none c.args.list.now c.args.task c.args.reward _ _ none

pub loop-fall-preserved : goal.loop-fall-preserved
loop-fall-preserved c =
    let reward : FitsSigned w64 c.args.reward = c.ranges.reward in
    let below = simp to_z-of_z at c.loop-fall.invariant in
    let from = simp to_z-of_z at (c.allows_from.ensures c.if-not-allows_from.false) in
    let sum = c.saturating_add-ready.ensures in
    simp to_z-of_z (All-more (AllowsFall c.args.list.now c.args.task c.args.reward c.args.away) c.args.falls.now c.loop-fall.fall-index _ c.loop-fall-test.true below
    (allows_sooner c.args.list.now c.args.task c.args.reward c.saturating_add-ready.result c.args.away _ (omega arith) from))

pub returns : goal.returns
returns c =
    let reward : FitsSigned w64 c.args.reward = c.ranges.reward in
    let below = simp to_z-of_z at c.loop-fall.invariant in
    let end = c.loop-fall-test.false in
    λ t. All-same (AllowsFall c.args.list.now c.args.task c.args.reward c.args.away) _ _ (sym (take_all c.loop-fall.fall-index c.args.falls.now (omega arith))) below
