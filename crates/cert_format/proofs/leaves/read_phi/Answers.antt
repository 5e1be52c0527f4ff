use Rattle.cert_format.specs.declared.kinds.Expect.TheVariants.{Phi}
use Rattle.cert_format.specs.declared.kinds.LineKind.TheVariants as kinds
use Rattle.cert_format.proofs.LeafLines.{phi_line_of, no_phi}
use Rattle.cert_format.proofs.Readings.{rest_read}
use Rattle.cert_format.proofs.leaves.read_phi.Goals as goal

pub returns : goal.returns
returns c =
    let shape = c.if-not-has_row.ensures in
    rest_read (Phi c.args.task c.args.count) (kinds.Phi c.args.task) c.args.words c.read_rest.result _ _ c.read_rest.ensures
    (λ values spelled. phi_line_of c.args.task c.args.count c.args.words values shape spelled)
    (λ none. (shape, tt, no_phi c.args.task c.args.count c.args.words none))
