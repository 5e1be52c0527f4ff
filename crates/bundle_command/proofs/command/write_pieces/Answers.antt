use Rattle.std.proofs.lemmas.Result.{IfOk-from_err}
use Rattle.crew_io.specs.Chains.{writes_none, writes_then}
use Rattle.crew_io.specs.Draws.{reads_none, reads_then}
use Rattle.crew_io.specs.Results.{err_is_not_ok}
use Rattle.bundle_command.proofs.Said.{front_none}
use Rattle.bundle_command.proofs.command.write_pieces.Goals as goal

pub returns-in_err-reader : goal.returns-in_err-reader
returns-in_err-reader g c =
    let r = c.from_residual.result in
    let is = c.from_residual.ensures.0 in
    record {
      says = IfOk-from_err r _ is;
      front = front_none c.args.job (g.S.Source.left c.args.src.now) (g.K.Sink.got c.args.out.now);
      ended = IfOk-from_err r _ is;
      reads = reads_then g.S.Source _ _ _ (λ fault. fault) (reads_none g.S.Source c.args.src.now) (reads_none g.S.Source c.args.src.now) (λ e. absurd (err_is_not_ok r _ is e)) (λ fault. absurd fault);
      writes = writes_then g.K.Sink _ _ _ (λ fault. fault) (writes_none g.K.Sink c.args.out.now) (writes_none g.K.Sink c.args.out.now) (λ e. absurd (err_is_not_ok r _ is e)) (λ fault. absurd fault);
    }

pub returns-in_err-checker : goal.returns-in_err-checker
returns-in_err-checker g c =
    let r = c.from_residual-in_err-checker.result in
    let is = c.from_residual-in_err-checker.ensures.0 in
    record {
      says = IfOk-from_err r _ is;
      front = front_none c.args.job (g.S.Source.left c.args.src.now) (g.K.Sink.got c.args.out.now);
      ended = IfOk-from_err r _ is;
      reads = reads_then g.S.Source _ _ _ (λ fault. fault) (reads_none g.S.Source c.args.src.now) (reads_none g.S.Source c.args.src.now) (λ e. absurd (err_is_not_ok r _ is e)) (λ fault. absurd fault);
      writes = writes_then g.K.Sink _ _ _ (λ fault. fault) (writes_none g.K.Sink c.args.out.now) (writes_none g.K.Sink c.args.out.now) (λ e. absurd (err_is_not_ok r _ is e)) (λ fault. absurd fault);
    }
