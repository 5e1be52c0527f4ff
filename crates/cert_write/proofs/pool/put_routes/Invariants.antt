use Rattle.std.proofs.Common.{take}
use Rattle.std.specs.List.{flat_map}
use Rattle.crew_io.specs.Puts.{Puts}
use Rattle.crew_io.specs.Chains.{fine}
use Rattle.crew_terms.specs.Words.{line_text}
use Rattle.dossier_terms.specs.Lines.{route_line}
use Rattle.cert_write.proofs.pool.put_routes.Given as goal

abbrev pub invariant-loop-id : goal.invariant-loop-id
invariant-loop-id g l = Puts g.K.Sink (flat_map (λ r. line_text (route_line r)) (take l.id (g.C.Columns.columns l.columns))) l.fn.out l.out fine
