use Rattle.std.proofs.Common.{map, sym}
use Rattle.std.specs.Prelude.{codes}
use Rattle.std.specs.Fmt.{signed_decimal}
use Rattle.crew_io.specs.Chains.{puts_then, puts_same, puts_front}
use Rattle.line_out.specs.Lines.{line_parts}
use Rattle.dossier_out.specs.Texts.{one_front_1, one_front_2}
use Rattle.cert_write.proofs.leaf.put_price_line.Goals as goal

pub returns-in_err-put_all : goal.returns-in_err-put_all
returns-in_err-put_all g c =
    puts_front g.K.Sink _ _ _ _ _ c.from_residual.result c.from_residual.ensures.0 c.in_err-put_all.ensures.puts
    (one_front_1 (codes "price") (map signed_decimal c.args.prices.now.pi))

pub returns-in_err-put_prices : goal.returns-in_err-put_prices
returns-in_err-put_prices g c =
    puts_front g.K.Sink _ _ _ _ _ c.from_residual-in_err-put_prices.result c.from_residual-in_err-put_prices.ensures.0
    (puts_then g.K.Sink _ _ _ _ _ _ _ c.in_ok-put_all.ensures.puts c.in_err-put_prices.ensures)
    (one_front_2 (codes "price") (map signed_decimal c.args.prices.now.pi))

pub returns : goal.returns
returns g c =
    puts_same g.K.Sink _ _ _ _ _ (sym (line_parts (codes "price") (map signed_decimal c.args.prices.now.pi)))
    (puts_then g.K.Sink _ _ _ _ _ _ _ (puts_then g.K.Sink _ _ _ _ _ _ _ c.in_ok-put_all.ensures.puts c.in_ok-put_prices.ensures) c.put_all-2.ensures.puts)
