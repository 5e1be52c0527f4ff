use Rattle.std.proofs.Common.{subst, sym}
use Rattle.bundle_write.specs.Pieces.{IsPiecePut}
use Rattle.bundle_write.proofs.Made.{bundle_stops}
use Rattle.bundle_write.proofs.piece.put_piece.Goals as goal

pub returns-in_err-put_bundle-in-Bundle-clause-put : goal.returns-in_err-put_bundle-in-Bundle-clause-put
returns-in_err-put_bundle-in-Bundle-clause-put g c = λ d day.
    subst (λ job. IsPiecePut job d c.from_residual.result (g.K.Sink.got c.args.sink.now) (g.K.Sink.got c.put_bundle.new.sink)) (sym c.in-Bundle.is)
    (bundle_stops d c.in-Bundle.nodes (g.K.Sink.got c.args.sink.now) (g.K.Sink.got c.put_bundle.new.sink) _ c.from_residual.result c.from_residual.ensures.1 (c.in_err-put_bundle-in-Bundle.ensures.put d day))
