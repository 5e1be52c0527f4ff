use Rattle.crew_io.specs.Chains.{puts_then, puts_same, puts_front}
use Rattle.cert_write.proofs.Whole.{tree_front_1, tree_front_2, tree_text}
use Rattle.cert_write.proofs.tree.put_tree.Goals as goal

pub returns-in_err-put_counts : goal.returns-in_err-put_counts
returns-in_err-put_counts g c given written due =
    puts_front g.K.Sink _ _ _ _ _ c.from_residual.result c.from_residual.ensures.0 (c.in_err-put_counts.ensures given due.nodes)
    (tree_front_1 c.args.instance.now given written due.same)

pub returns-in_err-put_nodes : goal.returns-in_err-put_nodes
returns-in_err-put_nodes g c given written due =
    puts_front g.K.Sink _ _ _ _ _ c.from_residual-in_err-put_nodes.result c.from_residual-in_err-put_nodes.ensures.0
    (puts_then g.K.Sink _ _ _ _ _ _ _ (c.in_ok-put_counts.ensures given due.nodes) (c.in_err-put_nodes.ensures given written due))
    (tree_front_2 c.args.instance.now given written due.same)

pub returns : goal.returns
returns g c given written due =
    puts_same g.K.Sink _ _ _ _ _ (tree_text c.args.instance.now given written due.same)
    (puts_then g.K.Sink _ _ _ _ _ _ _ (puts_then g.K.Sink _ _ _ _ _ _ _ (c.in_ok-put_counts.ensures given due.nodes) (c.in_ok-put_nodes.ensures given written due)) c.put_line.ensures)
