use Rattle.crew_io.specs.Chains.{puts_then}
use Rattle.cert_write.proofs.tree.put_split.Goals as goal

pub returns : goal.returns
returns g c = puts_then g.K.Sink _ _ _ _ _ _ _ c.in_ok-put_choice.ensures c.put_cause.ensures
