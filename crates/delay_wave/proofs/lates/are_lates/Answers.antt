use Rattle.std.proofs.Common.{◌≡◌, true, false, rules}
use Rattle.delay_wave.specs.declared.lates.Late.{Late}
use Rattle.delay_wave.proofs.Follow.{each_may, one_more}
use Rattle.delay_wave.proofs.lates.are_lates.Goals as goal

pub loop-n-preserved : goal.loop-n-preserved
loop-n-preserved c =
    one_more c.args.plan.now c.args.lates.now c.loop-n.n _ c.loop-n-test.true (c.if-not-may_follow.ensures.0 (search rules)) c.loop-n.invariant

pub returns-then-not-may_follow : goal.returns-then-not-may_follow
returns-then-not-may_follow c = (
  (λ e. absurd (let x : false ≡ true = e in cc)),
  (λ are. c.if-not-may_follow.ensures.1 (each_may c.args.plan.now c.args.lates.now c.loop-n.n _ c.loop-n-test.true are)),
)
