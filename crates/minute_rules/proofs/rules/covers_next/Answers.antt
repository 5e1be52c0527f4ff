use Rattle.std.proofs.Common.{◌≡◌, ◌≤ℤ◌, ◌+ℤ◌, ◌+◌, ◌∙◌, ap, get_or, pos, rules, below_more, w64}
use Rattle.std.specs.Prelude.{FitsSigned, min}
use Rattle.std.proofs.lemmas.Int.{to_z-of_z}
use Rattle.crew_terms.specs.Instance.{task_of}
use Rattle.crew_terms.specs.declared.TheConstants.{LAST_MINUTE}
use Rattle.minute_rules.specs.Rules.{most_after, reward_at}
use Rattle.minute_rules.proofs.rules.covers_next.Goals as goal

pub loop-a-preserved : goal.loop-a-preserved
loop-a-preserved c =
    let i = c.args.instance.now in
    let j = c.args.j in
    let a = c.loop-a.a in
    let first = c.args.here.first in
    let prices = c.args.prices.now in
    let items = c.args.ahead.now.most.items in
    let reward_fits : FitsSigned w64 c.reward.result = search rules in
    let after_fits : FitsSigned w64 c.from-after.result = search rules in
    let potential_fits : FitsSigned w64 (get_or c.args.here.potentials.now a (pos 0)) = search rules in
    let enough = simp to_z-of_z at c.is_enough.ensures in
    let pay : c.reward.result ≡ reward_at (task_of i j) prices first a = c.reward.ensures ∙ ap (λ t. reward_at t prices first a) c.task-task.ensures.task in
    let most : c.from-after.result ≡ most_after i j c.args.h items (first + a) = c.from-after.ensures ∙ ap (λ m. get_or items (min m (LAST_MINUTE + 1)) (pos 0)) c.ready_for.ensures in
    let low : (c.reward.result +ℤ c.from-after.result) ≤ℤ get_or c.args.here.potentials.now a (pos 0) = enough.0 c.if-not-is_enough.false in
    below_more _ _ c.loop-a.invariant (rw (← pay, ← most) low)
