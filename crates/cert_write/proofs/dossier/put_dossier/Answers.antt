use Rattle.cert_write.specs.Given.{given}
use Rattle.crew_io.specs.Chains.{puts_then, puts_same, puts_front}
use Rattle.cert_write.proofs.Nodes.{due_of}
use Rattle.cert_write.proofs.Whole.{dossier_text, front_of_head, front_of_plan, front_of_pool}
use Rattle.cert_write.proofs.dossier.put_dossier.Goals as goal

pub put_tree-requires-clause-due : goal.put_tree-requires-clause-due
put_tree-requires-clause-due g c =
    let d = c.requires.dossier.0 in
    let is = c.requires.dossier.1.tree in
    (is.tree, d.tree, due_of (given g.C.Columns.columns c.args.parts.now) d.tree c.requires.valid c.one_tree.ensures is)

pub returns-in_err-put_head : goal.returns-in_err-put_head
returns-in_err-put_head g c d is =
    puts_front g.K.Sink _ _ _ _ _ c.from_residual.result c.from_residual.ensures.0 c.in_err-put_head.ensures (front_of_head (given g.C.Columns.columns c.args.parts.now) d is)

pub returns-in_err-put_pool : goal.returns-in_err-put_pool
returns-in_err-put_pool g c d is =
    puts_front g.K.Sink _ _ _ _ _ c.from_residual-in_err-put_pool.result c.from_residual-in_err-put_pool.ensures.0
    (puts_then g.K.Sink _ _ _ _ _ _ _ c.in_ok-put_head.ensures c.in_err-put_pool.ensures) (front_of_pool (given g.C.Columns.columns c.args.parts.now) d is)

pub returns-in_err-put_plan : goal.returns-in_err-put_plan
returns-in_err-put_plan g c d is =
    puts_front g.K.Sink _ _ _ _ _ c.from_residual-in_err-put_plan.result c.from_residual-in_err-put_plan.ensures.0
    (puts_then g.K.Sink _ _ _ _ _ _ _ (puts_then g.K.Sink _ _ _ _ _ _ _ c.in_ok-put_head.ensures c.in_ok-put_pool.ensures) c.in_err-put_plan.ensures)
    (front_of_plan (given g.C.Columns.columns c.args.parts.now) d is)

pub returns : goal.returns
returns g c d is =
    puts_same g.K.Sink _ _ _ _ _ (dossier_text (given g.C.Columns.columns c.args.parts.now) d is)
    (puts_then g.K.Sink _ _ _ _ _ _ _
    (puts_then g.K.Sink _ _ _ _ _ _ _ (puts_then g.K.Sink _ _ _ _ _ _ _ c.in_ok-put_head.ensures c.in_ok-put_pool.ensures) c.in_ok-put_plan.ensures)
    (c.put_tree.ensures is.tree.tree d.tree (due_of (given g.C.Columns.columns c.args.parts.now) d.tree c.requires.valid c.one_tree.ensures is.tree)))
