use Rattle.crew_io.specs.Chains.{puts_then, puts_same, puts_front}
use Rattle.cert_write.proofs.Whole.{head_front_1, head_front_2, head_text}
use Rattle.cert_write.proofs.dossier.put_head.Goals as goal

pub returns-in_err-put_line : goal.returns-in_err-put_line
returns-in_err-put_line g c =
    puts_front g.K.Sink _ _ _ _ _ c.from_residual.result c.from_residual.ensures.0 c.in_err-put_line.ensures
    (head_front_1 c.args.instance.now c.args.nodes)

pub returns-in_err-write_instance : goal.returns-in_err-write_instance
returns-in_err-write_instance g c =
    puts_front g.K.Sink _ _ _ _ _ c.from_residual-in_err-write_instance.result c.from_residual-in_err-write_instance.ensures.0
    (puts_then g.K.Sink _ _ _ _ _ _ _ c.in_ok-put_line.ensures c.in_err-write_instance.ensures)
    (head_front_2 c.args.instance.now c.args.nodes)

pub returns : goal.returns
returns g c =
    puts_same g.K.Sink _ _ _ _ _ (head_text c.args.instance.now c.args.nodes)
    (puts_then g.K.Sink _ _ _ _ _ _ _ (puts_then g.K.Sink _ _ _ _ _ _ _ c.in_ok-put_line.ensures c.in_ok-write_instance.ensures) c.put_frozen.ensures)
