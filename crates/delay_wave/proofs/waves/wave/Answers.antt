use Rattle.std.proofs.Common.{◌≡◌, ◌<◌, ◌≤◌, ◌+◌, ◌*◌, ◌++◌, None, drop, get_or, length, replicate, ap, arith, refl, subst, sym, take, ◌∙◌}
use Rattle.std.proofs.lemmas.List.{get_or_default, length-replicate}
use Rattle.crew_terms.specs.declared.TheConstants.{LAST_MINUTE}
use Rattle.delay_wave.specs.Order.{AreInOrder}
use Rattle.delay_wave.specs.Steps.{EndBy, IsStep}
use Rattle.delay_wave.specs.Waits.{AreWaits}
use Rattle.delay_wave.specs.declared.lates.TheConstants.{LATEST_END}
use Rattle.delay_wave.proofs.Least.{are_waits}
use Rattle.delay_wave.proofs.SoFar.{IsSoFar}
use Rattle.delay_wave.proofs.Told.{told_in_range}
use Rattle.delay_wave.proofs.Turns.{planned_known}
use Rattle.delay_wave.proofs.Whole.{none_begun, none_ended, put_back, turn_in_day, turn_more, turn_teams}
use Rattle.delay_wave.proofs.waves.wave.Goals as goal

pub loop-turn-init : goal.loop-turn-init
loop-turn-init c =
    let empty = c.in_ok-waits.ensures ∙ ap (λ n. replicate n None) c.len-2.ensures.count in
    record {
      teams = ap length c.in_ok-last.ensures ∙ length-replicate c.teams.result None ∙ c.teams.ensures.count;
      so_far = none_begun c.args.instance.now c.args.plan.now c.args.lates.now c.deref-turn-items.result.now c.teams.result c.in_ok-last.last.items
          c.in_ok-waits.waits.items c.in_ok-last.ensures empty;
      ends = none_ended c.args.instance.now c.teams.result c.in_ok-last.last.items 5760 c.in_ok-last.ensures;
    }

pub step-requires-clause-start : goal.step-requires-clause-start
step-requires-clause-start c =
    let ord = subst (AreInOrder c.args.plan.now) (sym c.deref-turn-items.ensures.value) c.in_ok-turns.ensures in
    turn_in_day c.args.instance.now c.args.plan.now c.requires.legal.feasible _ (ord.planned c.loop-turn.turn-index c.loop-turn-test.true) c.teams.ensures.limits

pub step-requires-clause-teams : goal.step-requires-clause-teams
step-requires-clause-teams c b d l =
    let ord = subst (AreInOrder c.args.plan.now) (sym c.deref-turn-items.ensures.value) c.in_ok-turns.ensures in
    let m = turn_teams c.args.instance.now c.args.plan.now c.requires.legal.feasible _ (ord.planned c.loop-turn.turn-index c.loop-turn-test.true) _ c.teams-teams.ensures b d l in
    let e = c.loop-turn.invariant.teams in let f = c.deref_mut.ensures.len in omega arith

pub loop-turn-preserved : goal.loop-turn-preserved
loop-turn-preserved c =
    let turns = c.deref-turn-items.result.now in
    let ord = subst (AreInOrder c.args.plan.now) (sym c.deref-turn-items.ensures.value) c.in_ok-turns.ensures in
    let planned = ord.planned c.loop-turn.turn-index c.loop-turn-test.true in
    let inv = c.loop-turn.invariant in
    let last = c.deref_mut.ensures.value in
    let waits = c.deref_mut-in-loop-turn.ensures.value in
    let far = subst (λ l. IsSoFar c.args.instance.now c.args.plan.now c.args.lates.now turns c.loop-turn.turn-index l c.deref_mut-in-loop-turn.result.now) (sym last)
    (subst (λ w. IsSoFar c.args.instance.now c.args.plan.now c.args.lates.now turns c.loop-turn.turn-index c.loop-turn.last.items w) (sym waits) inv.so_far) in
    let ends = subst (λ l. EndBy c.args.instance.now l (LATEST_END * (c.loop-turn.turn-index + 1))) (sym last) inv.ends in
    let known = planned_known c.args.plan.now _ _ planned in
    let room : (get_or turns c.loop-turn.turn-index (record { start = 0; task = 0 })).task < length c.in_ok-told.told.items =
    let a = c.in_ok-told.ensures.count in let b = c.len.ensures.count in omega arith in
    let told = c.index-end.ensures ∙ get_or_default c.in_ok-told.told.items _ c.index-end.result.now 0 room ∙ c.in_ok-told.ensures.ends _ in
    let new_last = put_back c.step.new.last c.loop-turn.last.items c.loop-turn.last.len (let a = c.step.auto.last in let b = c.deref_mut.ensures.len in let o = c.loop-turn.last.ok in omega arith) in
    let new_waits = put_back c.step.new.waits c.loop-turn.waits.items c.loop-turn.waits.len (let a = c.step.auto.waits in let b = c.deref_mut-in-loop-turn.ensures.len in let o = c.loop-turn.waits.ok in omega arith) in
    let stepped =
    turn_more c.args.instance.now c.args.plan.now c.args.lates.now turns c.requires.legal.feasible ord c.loop-turn.turn-index c.loop-turn-test.true
    c.deref_mut.result.now c.deref_mut-in-loop-turn.result.now far c.index-end.result.now told c.teams-teams.result.now c.teams-teams.ensures
    c.step.new.last c.step.new.waits c.step.ensures.step in
    let day = turn_in_day c.args.instance.now c.args.plan.now c.requires.legal.feasible _ planned c.teams.ensures.limits in
    let short : c.index-end.result.now ≤ LATEST_END = subst (λ m. m ≤ LATEST_END) (sym told) (told_in_range c.args.lates.now _ c.requires.lates.ends) in
    let later = c.step.ensures.limit (LATEST_END * (c.loop-turn.turn-index + 1)) (omega arith) (omega arith) ends in
    let more : LATEST_END * (c.loop-turn.turn-index + 1) + 2 * LAST_MINUTE ≡ LATEST_END * (c.loop-turn.turn-index + 1 + 1) = omega arith in
    record {
      teams = ap length new_last ∙ c.step.auto.last ∙ ap length last ∙ inv.teams;
      so_far = subst (λ l. IsSoFar c.args.instance.now c.args.plan.now c.args.lates.now turns (c.loop-turn.turn-index + 1) l
          (take c.loop-turn.waits.len (c.step.new.waits ++ drop (length c.step.new.waits) c.loop-turn.waits.items))) (sym new_last)
          (subst (λ w. IsSoFar c.args.instance.now c.args.plan.now c.args.lates.now turns (c.loop-turn.turn-index + 1) c.step.new.last w) (sym new_waits) stepped);
      ends = subst (λ l. EndBy c.args.instance.now l (LATEST_END * (c.loop-turn.turn-index + 1 + 1))) (sym new_last)
          (subst (EndBy c.args.instance.now c.step.new.last) more later);
    }

pub returns : goal.returns
returns c =
    let n : c.loop-turn.turn-index ≡ length c.deref-turn-items.result.now = let a = c.loop-turn-test.false in let b = c.loop-turn.auto.turn-index-end in omega arith in
    let ord = subst (AreInOrder c.args.plan.now) (sym c.deref-turn-items.ensures.value) c.in_ok-turns.ensures in
    let far = subst (λ m. IsSoFar c.args.instance.now c.args.plan.now c.args.lates.now c.deref-turn-items.result.now m c.loop-turn.last.items c.loop-turn.waits.items) n c.loop-turn.invariant.so_far in
    subst (AreWaits c.args.instance.now c.args.plan.now c.args.lates.now) (sym c.of.ensures)
    (are_waits c.args.instance.now c.args.plan.now c.args.lates.now c.deref-turn-items.result.now c.requires.legal.feasible ord c.loop-turn.last.items c.loop-turn.waits.items far)
