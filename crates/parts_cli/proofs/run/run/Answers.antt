use Rattle.std.proofs.Common.{◌≡◌, ◌≤◌, ℕ, List, Option, inl, inr, subst, sym, refl, arith}
use Rattle.crew_io.specs.Bytes.{OfBytes}
use Rattle.crew_io.specs.Io.{Rose}
use Rattle.parts_cli.specs.Run.{promises_of}
use Rattle.parts_cli.specs.declared.run.Command.{Command}
use Rattle.parts_cli.specs.declared.status.Status.{Status}
use Rattle.parts_cli.specs.declared.status.Status.TheVariants.{Done, No, Words, ReadFault, WriteFault, Memory, Unproved}
use Rattle.parts_cli.proofs.Asked.{one_command}
use Rattle.parts_cli.proofs.Top.{if_some}
use Rattle.parts_cli.proofs.run.run.Goals as goal

-- a count that rose after it did not fall has risen
rose_since : (old mid new : ℕ) → old ≤ mid → Rose mid new → Rose old new
rose_since old mid new later (inl more) = inl (omega (arith, later, more))
rose_since old mid new later (inr most) = inr most

-- a status of which this does not hold is that of a read fault, where this holds of each other
is_read_fault : {P : Type 0} (s : Status) → ((s ≡ ReadFault → ⊥) → P) → (P → ⊥) → s ≡ ReadFault
is_read_fault ReadFault told broken = refl
is_read_fault Done told broken = absurd (broken (told (λ e. cc)))
is_read_fault No told broken = absurd (broken (told (λ e. cc)))
is_read_fault Words told broken = absurd (broken (told (λ e. cc)))
is_read_fault WriteFault told broken = absurd (broken (told (λ e. cc)))
is_read_fault Memory told broken = absurd (broken (told (λ e. cc)))
is_read_fault Unproved told broken = absurd (broken (told (λ e. cc)))

pub returns-in-Ok-clause-says : goal.returns-in-Ok-clause-says
returns-in-Ok-clause-says g c = λ command asks.
    let left = g.S.Source.left c.args.src.now in
    let got = g.K.Sink.got c.args.out.now in
    let unseen = g.S.Source.left c.answer-status.new.src in
    let status = c.answer-status.result in
    subst (λ (x : Command). OfBytes left got (g.K.Sink.got c.flush.new.self) ((promises_of x).says status unseen)) (one_command _ c.in-Some.command command c.in-Some.ensures asks)
    (subst (λ (later : Option (List ℕ)). OfBytes left got later ((promises_of c.in-Some.command).says status unseen)) (sym c.flush.ensures.same) c.answer-status.ensures.says)

pub returns-in-Err-clause-says : goal.returns-in-Err-clause-says
returns-in-Err-clause-says g c = λ command asks.
    let left = g.S.Source.left c.args.src.now in
    let got = g.K.Sink.got c.args.out.now in
    let unseen = g.S.Source.left c.answer-status.new.src in
    subst (λ (x : Command). OfBytes left got (g.K.Sink.got c.flush.new.self) ((promises_of x).says WriteFault unseen)) (one_command _ c.in-Some.command command c.in-Some.ensures asks)
    (subst (λ (later : Option (List ℕ)). OfBytes left got later ((promises_of c.in-Some.command).says WriteFault unseen)) (sym c.flush.ensures.same) c.answer-status.ensures.part)

pub returns-in-Err-clause-complete : goal.returns-in-Err-clause-complete
returns-in-Err-clause-complete g c = λ command asks.
    if_some (g.S.Source.left c.args.src.now) _ (λ input fine reads writes. absurd (writes (rose_since _ _ _ c.answer-status.ensures.writes.later (c.in-Err.ensures.cause refl))))

pub returns-in-Ok-clause-read_says : goal.returns-in-Ok-clause-read_says
returns-in-Ok-clause-read_says g c = λ command asks rose.
    let left = g.S.Source.left c.args.src.now in
    let got = g.K.Sink.got c.args.out.now in
    let unseen = g.S.Source.left c.answer-status.new.src in
    let says = (promises_of c.in-Some.command).says in
    subst (λ (x : Command). OfBytes left got (g.K.Sink.got c.flush.new.self) ((promises_of x).says ReadFault unseen)) (one_command _ c.in-Some.command command c.in-Some.ensures asks)
    (subst (λ (later : Option (List ℕ)). OfBytes left got later (says ReadFault unseen)) (sym c.flush.ensures.same)
    (subst (λ (s : Status). OfBytes left got (g.K.Sink.got c.answer-status.new.out) (says s unseen)) (is_read_fault c.answer-status.result c.answer-status.ensures.reads.told rose) c.answer-status.ensures.says))

pub returns-in-Err-clause-read_says : goal.returns-in-Err-clause-read_says
returns-in-Err-clause-read_says g c = λ command asks rose.
    let left = g.S.Source.left c.args.src.now in
    let got = g.K.Sink.got c.args.out.now in
    let unseen = g.S.Source.left c.answer-status.new.src in
    let says = (promises_of c.in-Some.command).says in
    subst (λ (x : Command). OfBytes left got (g.K.Sink.got c.flush.new.self) ((promises_of x).says ReadFault unseen)) (one_command _ c.in-Some.command command c.in-Some.ensures asks)
    (subst (λ (later : Option (List ℕ)). OfBytes left got later (says ReadFault unseen)) (sym c.flush.ensures.same)
    (subst (λ (s : Status). OfBytes left got (g.K.Sink.got c.answer-status.new.out) (says s unseen)) (is_read_fault c.answer-status.result c.answer-status.ensures.reads.told rose) c.answer-status.ensures.says))
