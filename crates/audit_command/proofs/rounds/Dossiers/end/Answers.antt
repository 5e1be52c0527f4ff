use Rattle.std.proofs.Common.{subst, sym, ap, ◌∙◌}
use Rattle.audit_command.specs.Reads.{EndsSo, FoundHasLine, found_at_end}
use Rattle.audit_command.proofs.Going.{end_fault, end_has_ended, end_has_line, ends_so, same_fault}
use Rattle.audit_command.proofs.rounds.Dossiers.end.Goals as goal

pub returns-clause-ends : goal.returns-clause-ends
returns-clause-ends g c = λ rest is.
    subst (EndsSo c.args.self.now.rounds rest (g.S.Source.left c.advance-progress.new.src)) (sym c.found_at_end.ensures)
    (ends_so c.args.self.now.reader c.advance-progress.new.self (g.S.Source.left c.args.src.now) (g.S.Source.left c.advance-progress.new.src) c.args.self.now.rounds rest c.advance-progress.result is
    (c.advance-progress.ensures.steps.advances c.requires))

pub returns-clause-line : goal.returns-clause-line
returns-clause-line g c = subst FoundHasLine (sym c.found_at_end.ensures) (end_has_line c.args.self.now.rounds c.advance-progress.result)

pub returns-clause-ended : goal.returns-clause-ended
returns-clause-ended g c = λ rounds e.
    end_has_ended c.args.self.now.reader c.advance-progress.new.self (g.S.Source.left c.args.src.now) (g.S.Source.left c.advance-progress.new.src) c.args.self.now.rounds rounds c.advance-progress.result
    (c.advance-progress.ensures.steps.advances c.requires) (sym c.found_at_end.ensures ∙ e)

pub returns-clause-tells : goal.returns-clause-tells
returns-clause-tells g c =
    same_fault g.S.Source c.args.src.now c.advance-progress.new.src (c.advance-progress.ensures.tells c.requires)
    (λ e. end_fault c.args.self.now.rounds c.advance-progress.result (sym c.found_at_end.ensures ∙ e))
    (λ e. c.found_at_end.ensures ∙ ap (found_at_end c.args.self.now.rounds) e)
