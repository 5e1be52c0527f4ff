use Rattle.std.proofs.Common.{subst, sym, ◌∙◌, arith}
use Rattle.std.proofs.lemmas.Result.{err_from_is_err_and}
use Rattle.crew_instance.specs.Draft.{rows_of}
use Rattle.crew_io.specs.Io.{Appended, AppendedPart}
use Rattle.crew_io.specs.Chains.{writes_none, writes_then}
use Rattle.bundle_join.proofs.Joining.{is_joined, its_text, made}
use Rattle.bundle_join.proofs.join.put_joined.Goals as goal

pub returns-in_err-tally-clause-tells : goal.returns-in_err-tally-clause-tells
returns-in_err-tally-clause-tells g c =
    let p = err_from_is_err_and c.from_residual.result c.from_residual.ensures.1 in
    writes_then g.K.Sink _ _ _ (λ fault. fault) (writes_none g.K.Sink c.args.sink.now) (writes_none g.K.Sink c.args.sink.now)
    (λ e. absurd (c.in_err-tally.ensures.no_write (let x = p.1 in let y = p.2 in cc))) (λ fault. absurd fault)

pub returns-in-Err-clause-put : goal.returns-in-Err-clause-put
returns-in-Err-clause-put g c = λ d parts day are.
    let t = c.in_ok-tally.ensures.says d parts day.good (sym day.instance) are in
    let f = c.in_ok-first.ensures d day in (
      made f.0 parts,
      is_joined d parts f.0 c.in_ok-tally.tally (rows_of c.args.texts.now) day.good are t f.2,
      subst (AppendedPart (g.K.Sink.got c.args.sink.now) (g.K.Sink.got c.put_texts.new.out)) (its_text f.0 parts c.deref.result.now (rows_of c.args.texts.now) are (c.deref.ensures.value ∙ f.1.text)) c.in-Err.ensures.part,
    )

pub returns-clause-put : goal.returns-clause-put
returns-clause-put g c = λ d parts day are.
    let t = c.in_ok-tally.ensures.says d parts day.good (sym day.instance) are in
    let f = c.in_ok-first.ensures d day in (
      made f.0 parts,
      is_joined d parts f.0 c.in_ok-tally.tally (rows_of c.args.texts.now) day.good are t f.2,
      record { unassigned = f.1.unassigned; bound = (let m = c.max.ensures in let b = f.1.bound in let s = t.told.bounds in omega (arith, m, b, s)) },
      subst (Appended (g.K.Sink.got c.args.sink.now) (g.K.Sink.got c.put_texts.new.out)) (its_text f.0 parts c.deref.result.now (rows_of c.args.texts.now) are (c.deref.ensures.value ∙ f.1.text)) c.in_default.ensures.all,
    )
