use Rattle.std.proofs.Common.{map, sym, unsigned_abs}
use Rattle.std.specs.Prelude.{codes}
use Rattle.std.specs.Fmt.{decimal}
use Rattle.crew_io.specs.Chains.{puts_then, puts_same, puts_front}
use Rattle.line_out.specs.Lines.{line_parts}
use Rattle.dossier_out.specs.Texts.{one_front_1, one_front_2}
use Rattle.cert_write.proofs.causes.put_spare.Goals as goal

pub returns-in_err-put_all : goal.returns-in_err-put_all
returns-in_err-put_all g c =
    puts_front g.K.Sink _ _ _ _ _ c.from_residual.result c.from_residual.ensures.0 c.in_err-put_all.ensures.puts
    (one_front_1 (codes "spare") (map decimal (map unsigned_abs c.args.left_open.now)))

pub returns-in_err-put_open_parts : goal.returns-in_err-put_open_parts
returns-in_err-put_open_parts g c =
    puts_front g.K.Sink _ _ _ _ _ c.from_residual-in_err-put_open_parts.result c.from_residual-in_err-put_open_parts.ensures.0
    (puts_then g.K.Sink _ _ _ _ _ _ _ c.in_ok-put_all.ensures.puts c.in_err-put_open_parts.ensures)
    (one_front_2 (codes "spare") (map decimal (map unsigned_abs c.args.left_open.now)))

pub returns : goal.returns
returns g c =
    puts_same g.K.Sink _ _ _ _ _ (sym (line_parts (codes "spare") (map decimal (map unsigned_abs c.args.left_open.now))))
    (puts_then g.K.Sink _ _ _ _ _ _ _ (puts_then g.K.Sink _ _ _ _ _ _ _ c.in_ok-put_all.ensures.puts c.in_ok-put_open_parts.ensures) c.put_all-2.ensures.puts)
