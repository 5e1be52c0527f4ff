use Rattle.std.proofs.Common.{List, ℕ, ap, arith, length, subst, sym}
use Rattle.plan_builder.specs.Schedules.{IsChoiceOf}
use Rattle.plan_builder.proofs.Listed.{choice_without}
use Rattle.plan_builder.proofs.place.choose.Goals as goal

pub loop-teams-preserved : goal.loop-teams-preserved
loop-teams-preserved c = (
  (let a = c.remove.ensures.len in let b = c.loop-teams-test.true in let d = c.len.ensures.value in omega arith),
  subst (λ (xs : List ℕ). IsChoiceOf xs c.args.teams.items) (sym c.remove.ensures.items) (choice_without c.loop-teams.teams.items c.args.teams.items c.dearest-at.result (let a = c.dearest-at.ensures in let b = ap (λ (xs : List ℕ). length xs) c.as_slice.ensures.value in omega arith) c.loop-teams.invariant.1),
)
