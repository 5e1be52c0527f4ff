use Rattle.std.proofs.Common.{None, subst}
use Rattle.std.specs.Prelude.{IsTrue}
use Rattle.day_commands.specs.Says.{SaysAt, SaysFirstOf, is_of_text}
use Rattle.day_commands.specs.Taken.{IsDay, Wrote}
use Rattle.crew_io.specs.Results.{on_err}
use Rattle.day_commands.proofs.Said.{same_ok}
use Rattle.day_commands.proofs.rounds.over_text.Goals as goal
use Rattle.day_commands.specs.Fine.{refused_not_fine}

pub returns-in_err-ended-clause-memory : goal.returns-in_err-ended-clause-memory
returns-in_err-ended-clause-memory g c =
    let day : IsDay c.args.text.now c.in_ok-day.day.entries c.in_ok-day.day.stop = record { within = c.requires; day = c.in_ok-day.ensures.says } in
    on_err c.from_residual-in_err-ended.result _
    (subst (λ o. Wrote (g.K.Sink.got c.args.out.now) (g.K.Sink.got c.over_entries.new.out) (SaysFirstOf o c.args.text.now)) c.new-taker.ensures.output (c.in_err-ended.ensures.memory c.args.text.now day))

pub returns-clause-says : goal.returns-clause-says
returns-clause-says g c =
    let day : IsDay c.args.text.now c.in_ok-day.day.entries c.in_ok-day.day.stop = record { within = c.requires; day = c.in_ok-day.ensures.says } in
    subst (λ o. Wrote (g.K.Sink.got c.args.out.now) (g.K.Sink.got c.over_entries.new.out) (SaysAt o c.in_ok-ended.ended None c.args.text.now)) c.new-taker.ensures.output
    (c.in_ok-ended.ensures.says c.args.text.now day)

pub returns-clause-refused : goal.returns-clause-refused
returns-clause-refused g c = λ is fine.
    let w = returns-clause-says g c in
    refused_not_fine c.args.output c.args.text.now w.0 (subst (λ s. SaysAt c.args.output s None c.args.text.now w.0) (same_ok is) w.2) fine

pub returns-clause-others : goal.returns-clause-others
returns-clause-others g c = subst (λ o. IsTrue (is_of_text o c.in_ok-ended.ended)) c.new-taker.ensures.output c.in_ok-ended.ensures.others
