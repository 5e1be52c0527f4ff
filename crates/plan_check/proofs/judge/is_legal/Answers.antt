use Rattle.crew_laws.specs.Faultless.{legal_is_plan}
use Rattle.plan_check.proofs.judge.is_legal.Goals as goal

pub returns-then-not-is_plan_of : goal.returns-then-not-is_plan_of
returns-then-not-is_plan_of c = (
  (λ t. cc),
  (λ legal.
      let plan = c.is_plan_of.ensures.1 (legal_is_plan c.args.instance.now c.args.plan.now legal) in
      let not = c.if-not-is_plan_of.true in
      cc),
)
