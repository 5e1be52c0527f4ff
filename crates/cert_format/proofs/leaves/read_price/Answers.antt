use Rattle.cert_format.specs.declared.kinds.Expect.TheVariants.{Price}
use Rattle.cert_format.specs.declared.kinds.LineKind.TheVariants as kinds
use Rattle.cert_format.proofs.LeafLines.{price_line_of, no_price}
use Rattle.cert_format.proofs.Readings.{rest_read}
use Rattle.cert_format.proofs.leaves.read_price.Goals as goal

pub returns : goal.returns
returns c =
    let shape = c.if-not-has_shape.ensures in
    rest_read (Price c.args.tasks) kinds.Price c.args.words c.read_prices.result _ _ c.read_prices.ensures
    (λ prices spelled. price_line_of c.args.tasks c.args.words prices shape spelled)
    (λ none. (shape, tt, no_price c.args.tasks c.args.words none))
