use Rattle.std.proofs.Common.{Ok, Err, nat_eq, ap, subst, sym, ◌∙◌}
use Rattle.std.proofs.lemmas.Bool.{eqb-true, eqb-false}
use Rattle.crew_io.specs.Chains.{writes_none, writes_then}
use Rattle.replan.specs.Planning.{IsEntered, IsNewWriteFault}
use Rattle.day_commands.proofs.Planned.{changed_so, fault_so, round_so}
use Rattle.day_commands.proofs.entries.plan_entry.Goals as goal

pub returns-in-Ok-Changed-clause-taken : goal.returns-in-Ok-Changed-clause-taken
returns-in-Ok-Changed-clause-taken g c =
    let s = c.args.session.now in
    let new = c.entry.new.self in
    let entry = c.args.entry.now in
    let got = g.K.Sink.got c.args.out.now in
    let later = g.K.Sink.got c.entry.new.sink in
    changed_so s new entry got later c.requires.open_yet c.requires.unknown
    (subst (λ r. IsEntered s entry r new got later) (c.in-Ok-Changed.is ∙ ap Ok c.in-Ok-Changed.field-0-is) (c.entry.ensures.entered c.requires.open_yet))

pub returns-in-Ok-Round-clause-taken : goal.returns-in-Ok-Round-clause-taken
returns-in-Ok-Round-clause-taken g c =
    let s = c.args.session.now in
    let new = c.entry.new.self in
    let entry = c.args.entry.now in
    let got = g.K.Sink.got c.args.out.now in
    let later = g.K.Sink.got c.entry.new.sink in
    let e = subst (λ r. IsEntered s entry r new got later) (c.in-Ok-Round.is ∙ ap Ok c.in-Ok-Round.field-0-is) (c.entry.ensures.entered c.requires.open_yet) in
    let counts = c.in-Ok-Round.counts in
    round_so s new entry got later counts (nat_eq counts.bound counts.unassigned) c.requires.open_yet c.requires.unknown e
    (eqb-true counts.bound counts.unassigned) (eqb-false counts.bound counts.unassigned)

pub returns-in-Ok-Round-clause-tells : goal.returns-in-Ok-Round-clause-tells
returns-in-Ok-Round-clause-tells g c =
    writes_then g.K.Sink _ _ _ (λ fault. fault) (writes_none g.K.Sink c.args.out.now) c.entry.ensures.tells (λ e. absurd (cc))
    (λ (fault : IsNewWriteFault c.args.session.now c.entry.result). absurd (let e = sym (c.in-Ok-Round.is ∙ ap Ok c.in-Ok-Round.field-0-is) ∙ fault.1 in cc))

pub returns-in-Err-WriteFault-clause-taken : goal.returns-in-Err-WriteFault-clause-taken
returns-in-Err-WriteFault-clause-taken g c =
    let s = c.args.session.now in
    let new = c.entry.new.self in
    let entry = c.args.entry.now in
    let got = g.K.Sink.got c.args.out.now in
    let later = g.K.Sink.got c.entry.new.sink in
    fault_so s new entry got later
    (subst (λ r. IsEntered s entry r new got later) (c.in-Err-WriteFault.is ∙ ap Err c.in-Err-WriteFault.field-0-is) (c.entry.ensures.entered c.requires.open_yet))
