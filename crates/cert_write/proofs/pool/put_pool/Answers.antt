use Rattle.std.proofs.Common.{length, map, ap}
use Rattle.crew_io.specs.Chains.{puts_then, puts_front, puts_same, first_front}
use Rattle.crew_terms.specs.Words.{line_text}
use Rattle.dossier_terms.specs.Lines.{pool_line, route_line}
use Rattle.dossier_out.specs.Texts.{text}
use Rattle.cert_write.proofs.pool.put_pool.Goals as goal

pub returns-in_err-put_line : goal.returns-in_err-put_line
returns-in_err-put_line g c =
    let cs = g.C.Columns.columns c.args.columns.now in
    puts_front g.K.Sink (line_text (pool_line c.args.kept (length cs))) _ _ _ _ c.from_residual.result c.from_residual.ensures.0
    (puts_same g.K.Sink _ _ _ _ _ (ap (λ n. line_text (pool_line c.args.kept n)) c.len-count.ensures.count) c.in_err-put_line.ensures)
    (first_front (line_text (pool_line c.args.kept (length cs))) (text (map route_line cs)))

pub returns : goal.returns
returns g c =
    let cs = g.C.Columns.columns c.args.columns.now in
    puts_then g.K.Sink (line_text (pool_line c.args.kept (length cs))) (text (map route_line cs)) _ _ _ _ _
    (puts_same g.K.Sink _ _ _ _ _ (ap (λ n. line_text (pool_line c.args.kept n)) c.len-count.ensures.count) c.in_ok-put_line.ensures)
    c.put_routes.ensures
