use Rattle.std.proofs.Common.{arith, subst, sym}
use Rattle.plan_builder.specs.Schedules.{AreDays}
use Rattle.plan_builder.proofs.Days.{days_more}
use Rattle.plan_builder.proofs.schedule.days_of.Goals as goal

pub loop-k-preserved : goal.loop-k-preserved
loop-k-preserved c = (
  (let a = c.in_ok-push.ensures.len in let b = c.loop-k.invariant.0 in omega arith),
  subst (AreDays c.args.plan.now) (sym c.in_ok-push.ensures.items) (days_more c.args.plan.now c.loop-k.days.items c.loop-k.k c.fill_turns.new.turns c.loop-k.invariant.0 c.loop-k.invariant.1 c.fill_turns.ensures),
)
