use Rattle.crew_io.specs.Chains.{writes_none, writes_then}
use Rattle.replan.proofs.alone.plan_alone.Goals as goal

pub returns-in-Ok-clause-tells : goal.returns-in-Ok-clause-tells
returns-in-Ok-clause-tells g c = writes_then g.K.Sink _ _ _ (λ fault. fault) (writes_none g.K.Sink c.args.sink.now) c.in-Ok.ensures.tells (λ e. absurd (cc)) (λ e. absurd (cc))
