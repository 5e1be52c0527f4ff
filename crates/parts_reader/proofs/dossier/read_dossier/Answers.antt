use Rattle.std.proofs.Common.{[], refl, subst}
use Rattle.dossier_commands.specs.Input.{IsOutcome}
use Rattle.parts_reader.specs.Input.{front_at}
use Rattle.parts_reader.proofs.Dossiers.{cut, read, refused, stands}
use Rattle.parts_reader.proofs.dossier.read_dossier.Goals as goal

pub returns-in-Yes-clause-says : goal.returns-in-Yes-clause-says
returns-in-Yes-clause-says g c = λ input done begun due p.
    let left = g.S.Source.left c.args.src.now in
    let later = g.S.Source.left c.next_dossier.new.src in
    let b = stands input done begun c.args.reader.now left c.args.lines p c.in_ok-checker.checker c.in_ok-checker.ensures in
    let o = c.in_ok-outcome.ensures.outcome (front_at done begun) input [] b in
    read input done begun c.args.reader.now left c.args.lines p c.in-Yes.verdict c.next_dossier.new.reader later c.next_dossier.new.checker
    (subst (IsOutcome (front_at done begun) input [] c.next_dossier.new.reader later c.next_dossier.new.checker) c.in-Yes.is o)

pub returns-in-No-clause-says : goal.returns-in-No-clause-says
returns-in-No-clause-says g c = λ input done begun due p.
    let left = g.S.Source.left c.args.src.now in
    let later = g.S.Source.left c.next_dossier.new.src in
    let b = stands input done begun c.args.reader.now left c.args.lines p c.in_ok-checker.checker c.in_ok-checker.ensures in
    let o = c.in_ok-outcome.ensures.outcome (front_at done begun) input [] b in
    refused input done begun c.args.reader.now left c.args.lines p due c.in-No.line c.in-No.reason
    (subst (IsOutcome (front_at done begun) input [] c.next_dossier.new.reader later c.next_dossier.new.checker) c.in-No.is o)

pub returns-in-End-clause-says : goal.returns-in-End-clause-says
returns-in-End-clause-says g c = λ input done begun due p.
    let left = g.S.Source.left c.args.src.now in
    let later = g.S.Source.left c.next_dossier.new.src in
    let b = stands input done begun c.args.reader.now left c.args.lines p c.in_ok-checker.checker c.in_ok-checker.ensures in
    let o = c.in_ok-outcome.ensures.outcome (front_at done begun) input [] b in
    let a = subst (IsOutcome (front_at done begun) input [] c.next_dossier.new.reader later c.next_dossier.new.checker) c.in-End.is o in
    absurd (a.accepted.some refl)

pub returns-in-ReadFault-clause-says : goal.returns-in-ReadFault-clause-says
returns-in-ReadFault-clause-says g c = λ input done begun due p.
    let left = g.S.Source.left c.args.src.now in
    let later = g.S.Source.left c.next_dossier.new.src in
    let b = stands input done begun c.args.reader.now left c.args.lines p c.in_ok-checker.checker c.in_ok-checker.ensures in
    let o = c.in_ok-outcome.ensures.outcome (front_at done begun) input [] b in
    cut input done begun c.args.reader.now left c.args.lines p due c.next_dossier.new.reader later
    (subst (IsOutcome (front_at done begun) input [] c.next_dossier.new.reader later c.next_dossier.new.checker) c.in-ReadFault.is o)
