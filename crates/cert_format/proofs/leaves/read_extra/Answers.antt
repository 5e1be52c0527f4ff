use Rattle.cert_format.specs.declared.kinds.Expect.TheVariants.{Extra}
use Rattle.cert_format.specs.declared.kinds.LineKind.TheVariants as kinds
use Rattle.cert_format.proofs.LeafLines.{extra_line_of, no_extra}
use Rattle.cert_format.proofs.Readings.{rest_read}
use Rattle.cert_format.proofs.leaves.read_extra.Goals as goal

pub returns : goal.returns
returns c =
    let shape = c.if-not-has_row.ensures in
    rest_read (Extra c.args.task c.args.count) (kinds.Extra c.args.task) c.args.words c.read_prices.result _ _ c.read_prices.ensures
    (λ prices spelled. extra_line_of c.args.task c.args.count c.args.words prices shape spelled)
    (λ none. (shape, tt, no_extra c.args.task c.args.count c.args.words none))
