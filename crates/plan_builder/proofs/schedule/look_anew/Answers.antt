use Rattle.std.proofs.Common.{arith, refl}
use Rattle.std.proofs.lemmas.List.Elements.{Contains-get_or}
use Rattle.plan_builder.proofs.Days.{anew_first, anew_more}
use Rattle.plan_builder.proofs.schedule.look_anew.Goals as goal

pub bounds-days-k : goal.bounds-days-k
bounds-days-k c =
    let known = c.requires.known _ (Contains-get_or c.args.teams.now c.loop-k.k-index 0 c.loop-k-test.true) in
    let same = c.loop-k.auto.days in
    omega arith

pub loop-k-init : goal.loop-k-init
loop-k-init c = anew_first c.args.plan.now c.args.days.now c.args.teams.now c.requires.others

pub loop-k-preserved : goal.loop-k-preserved
loop-k-preserved c =
    anew_more c.args.plan.now c.loop-k.days c.args.teams.now c.loop-k.k-index _ c.fill_turns.new.turns refl c.fill_turns.ensures c.loop-k.invariant

pub returns : goal.returns
returns c = λ h. c.loop-k.invariant h (λ x l m. absurd (let n = c.loop-k-test.false in omega arith))
