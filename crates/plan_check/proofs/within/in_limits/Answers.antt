use Rattle.std.proofs.Common.{◌≡◌, ◌<◌, true, false, arith, refl}
use Rattle.crew_terms.specs.Limits.{tasks_in}
use Rattle.plan_check.proofs.Kept.{tasks_more, within_at, within_from}
use Rattle.plan_check.proofs.within.in_limits.Goals as goal

pub returns-then-not-keeps_task : goal.returns-then-not-keeps_task
returns-then-not-keeps_task c = (
  (λ t. cc),
  (λ within.
      let l : c.loop-j.j < tasks_in c.args.limits.now.limits = let a = c.loop-j-test.true in let b = c.len-j-end.ensures.count in let w = c.requires.whole in omega arith in
      let t : c.keeps_task.result ≡ true = c.keeps_task.ensures.1 (within_at c.args.limits.now.limits c.args.plan.now within c.loop-j.j l) in
      let f : c.keeps_task.result ≡ false = c.if-not-keeps_task.true in
      cc),
)

pub loop-j-preserved : goal.loop-j-preserved
loop-j-preserved c = tasks_more c.args.limits.now.limits c.args.plan.now c.loop-j.j c.loop-j.invariant (c.keeps_task.ensures.0 c.if-not-keeps_task.false)

pub returns : goal.returns
returns c = (
  (λ _. within_from c.args.limits.now.limits c.args.plan.now c.requires (λ j l. c.loop-j.invariant j (let a = c.loop-j-test.false in let b = c.len-j-end.ensures.count in omega arith))),
  (λ _. refl),
)
