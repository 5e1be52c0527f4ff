use Rattle.std.proofs.Common.{◌≤◌, ℕ, List, Option, inl, inr, subst, sym, refl, arith}
use Rattle.crew_io.specs.Bytes.{OfBytes}
use Rattle.crew_io.specs.Io.{Rose}
use Rattle.desk_cli.specs.Run.{promises_of}
use Rattle.desk_cli.specs.Status.{told_nothing}
use Rattle.desk_cli.specs.declared.run.Command.{Command}
use Rattle.desk_cli.specs.declared.run.Outcome.{Outcome}
use Rattle.desk_cli.specs.declared.status.Status.TheVariants.{WriteFault}
use Rattle.desk_cli.proofs.Asked.{one_command}
use Rattle.desk_cli.proofs.Top.{if_some}
use Rattle.desk_cli.proofs.run.run.Goals as goal

-- a count that rose after it did not fall has risen
rose_since : (old mid new : ℕ) → old ≤ mid → Rose mid new → Rose old new
rose_since old mid new later (inl more) = inl (omega (arith, later, more))
rose_since old mid new later (inr most) = inr most

pub returns-in-Ok-clause-says : goal.returns-in-Ok-clause-says
returns-in-Ok-clause-says g c = λ command asks.
    let left = g.S.Source.left c.args.src.now in
    let got = g.K.Sink.got c.args.out.now in
    let unseen = g.S.Source.left c.answer-outcome.new.src in
    let outcome = c.answer-outcome.result in
    subst (λ (x : Command). OfBytes left got (g.K.Sink.got c.flush.new.self) ((promises_of x).says outcome unseen)) (one_command _ c.in-Some.command command c.in-Some.ensures asks)
    (subst (λ (later : Option (List ℕ)). OfBytes left got later ((promises_of c.in-Some.command).says outcome unseen)) (sym c.flush.ensures.same) c.answer-outcome.ensures.says)

pub returns-in-Err-clause-says : goal.returns-in-Err-clause-says
returns-in-Err-clause-says g c = λ command asks.
    let left = g.S.Source.left c.args.src.now in
    let got = g.K.Sink.got c.args.out.now in
    let unseen = g.S.Source.left c.answer-outcome.new.src in
    let fault = told_nothing WriteFault in
    subst (λ (o : Outcome). OfBytes left got (g.K.Sink.got c.flush.new.self) ((promises_of command).says o unseen)) (sym c.of-in-Err.ensures)
    (subst (λ (x : Command). OfBytes left got (g.K.Sink.got c.flush.new.self) ((promises_of x).says fault unseen)) (one_command _ c.in-Some.command command c.in-Some.ensures asks)
    (subst (λ (later : Option (List ℕ)). OfBytes left got later ((promises_of c.in-Some.command).says fault unseen)) (sym c.flush.ensures.same) c.answer-outcome.ensures.part))

pub returns-in-Err-clause-complete : goal.returns-in-Err-clause-complete
returns-in-Err-clause-complete g c = λ command asks.
    if_some (g.S.Source.left c.args.src.now) _ (λ input fine reads writes. absurd (writes (rose_since _ _ _ c.answer-outcome.ensures.writes.later (c.in-Err.ensures.cause refl))))
