use Rattle.crew_io.specs.Chains.{puts_done, puts_then, puts_same, puts_front}
use Rattle.cert_write.proofs.Leaves.{bare_text, closed_leaf, open_leaf, state_front}
use Rattle.cert_write.proofs.leaf.put_claim.Goals as goal

pub returns-in_err-put_state-clause-puts : goal.returns-in_err-put_state-clause-puts
returns-in_err-put_state-clause-puts g c claim is =
    puts_front g.K.Sink _ _ _ _ _ c.from_residual.result c.from_residual.ensures.0 c.in_err-put_state.ensures
    (state_front c.args.limits.now.limits c.args.state c.args.prices.now claim is)

pub returns-in-Bare-clause-puts : goal.returns-in-Bare-clause-puts
returns-in-Bare-clause-puts g c claim is =
    puts_done g.K.Sink _ _ _ _ _
    (puts_same g.K.Sink _ _ _ _ _ (bare_text c.args.limits.now.limits c.args.state c.args.prices.now claim c.in-Bare.is is) c.in_ok-put_state.ensures)

pub returns-in-Open-clause-puts : goal.returns-in-Open-clause-puts
returns-in-Open-clause-puts g c claim is =
    let has = open_leaf c.args.limits.now.limits c.args.state c.args.prices.now claim c.in-Open.is is in
    puts_same g.K.Sink _ _ _ _ _ has.is (puts_then g.K.Sink _ _ _ _ _ _ _ c.in_ok-put_state.ensures (c.put_leaf.ensures.puts has.leaf has.same))

pub returns-in-Closed-clause-puts : goal.returns-in-Closed-clause-puts
returns-in-Closed-clause-puts g c claim is =
    let has = closed_leaf c.args.limits.now.limits c.args.state c.args.prices.now claim c.in-Closed.is is in
    puts_same g.K.Sink _ _ _ _ _ has.is (puts_then g.K.Sink _ _ _ _ _ _ _ c.in_ok-put_state.ensures (c.put_leaf-in-Closed.ensures.puts has.leaf has.same))
