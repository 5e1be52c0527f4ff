use Rattle.std.proofs.Common.{◌∙◌, [], Some, ap, subst}
use Rattle.dossier_commands.specs.Input.{IsOutcome, no_front}
use Rattle.bundle_join.proofs.Judging.{begins, is_found}
use Rattle.bundle_join.proofs.judged.judge_text.Goals as goal

pub returns-in-Yes-clause-is : goal.returns-in-Yes-clause-is
returns-in-Yes-clause-is c = λ d good is.
    let text = c.args.text.now in
    let b = begins text c.in_ok-reader.reader (Some c.new-src.result.left) c.in_ok-checker.checker c.in_ok-reader.ensures (c.new-src.ensures.left ∙ ap Some c.in_ok-copied.ensures) c.in_ok-checker.ensures in
    let n = subst (IsOutcome no_front text [] c.next_dossier.new.reader (Some c.next_dossier.new.src.left) c.next_dossier.new.checker) c.in-Yes.is (c.in_ok-verdict.ensures.outcome no_front text [] b) in
    let f = is_found c.one_dossier_first.ensures text c.in-Yes.verdict c.next_dossier.new.reader (Some c.next_dossier.new.src.left) c.next_dossier.new.checker d good is n in
    record { whole = f.0; says = f.1 }
