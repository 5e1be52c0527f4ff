use Rattle.std.proofs.Common.{◌≡◌, ◌++◌, Result, Ok, subst, ap, sym, ◌∙◌}
use Rattle.crew_terms.specs.Words.{with_feed, words_of}
use Rattle.crew_io.specs.Lines.{Advances}
use Rattle.cert_checker.specs.Checked.{IsJudged}
use Rattle.crew_io.specs.Draws.{reads_none, reads_then}
use Rattle.crew_io.specs.Results.{err_is_not_ok}
use Rattle.dossier_commands.specs.declared.input.Outcome.{Outcome}
use Rattle.dossier_commands.specs.Input.{HasHandedOut}
use Rattle.dossier_commands.proofs.LineByLine.{end_has_ended, ends_whole, fault_stops, goes_on, is_due, line_is_no_fault, opens_next, refuses, starts, stays_refused, stop_is_fault, stop_opens, stops}
use Rattle.dossier_commands.proofs.HandedOut.{keeps_line, keeps_none, stop_is_no_yes}
use Rattle.dossier_commands.proofs.kept.next_kept.Goals as goal

same_ok : {E : Type 0} {a b : Outcome} → ◌≡◌ {A = Result Outcome E} (Ok a) (Ok b) → a ≡ b
same_ok e = cc

pub lines-init : goal.lines-init
lines-init g c = record {
  so_far = starts c.args.reader.now (g.S.Source.left c.args.src.now) c.args.checker.now c.requires;
  kept = keeps_none c.args.reader.now (g.S.Source.left c.args.src.now) c.clear.new.self.items c.clear.ensures.items;
  tells = reads_none g.S.Source c.args.src.now;
}

pub lines-preserved : goal.lines-preserved
lines-preserved g c =
    let s = c.lines.invariant.so_far in
    let a = subst (λ p. Advances c.lines.reader (g.S.Source.left c.lines.src) p c.advance-progress.new.self (g.S.Source.left c.advance-progress.new.src)) c.in-Line.is (c.advance-progress.ensures.steps.advances s.going.going) in
    let due = is_due c.args.reader.now (g.S.Source.left c.args.src.now) c.args.checker.now c.lines.reader (g.S.Source.left c.lines.src) c.lines.checker s in
    let judged = subst (λ ws. IsJudged c.lines.checker.lines s.due ws c.in_ok-said.said c.line.new.self) (ap words_of c.line-bytes.ensures) (c.in_ok-said.ensures.judged s.due s.reached due) in
    record {
      so_far = goes_on c.args.reader.now (g.S.Source.left c.args.src.now) c.args.checker.now c.lines.reader c.advance-progress.new.self (g.S.Source.left c.lines.src) (g.S.Source.left c.advance-progress.new.src)
          c.lines.checker c.line.new.self c.in_ok-said.said s a judged c.in-More.is;
      kept = subst (λ bytes. HasHandedOut c.args.reader.now (g.S.Source.left c.args.src.now) bytes c.advance-progress.new.self (g.S.Source.left c.advance-progress.new.src)) (sym (c.in_ok-keep_line.ensures ∙ ap (λ x. c.lines.kept.items ++ with_feed x) c.line-bytes.ensures)) (keeps_line c.args.reader.now c.lines.reader c.advance-progress.new.self (g.S.Source.left c.args.src.now) (g.S.Source.left c.lines.src) (g.S.Source.left c.advance-progress.new.src) c.lines.kept.items c.lines.invariant.kept a);
      tells = reads_then g.S.Source _ _ _ (λ fault. fault) c.lines.invariant.tells (c.advance-progress.ensures.tells s.going.going) (λ fault. absurd fault)
          (λ e. line_is_no_fault c.advance-progress.result c.in-Line.is e);
    }

pub returns-in-No-clause-outcome : goal.returns-in-No-clause-outcome
returns-in-No-clause-outcome g c =
    let s = c.lines.invariant.so_far in
    let a = subst (λ p. Advances c.lines.reader (g.S.Source.left c.lines.src) p c.advance-progress.new.self (g.S.Source.left c.advance-progress.new.src)) c.in-Line.is (c.advance-progress.ensures.steps.advances s.going.going) in
    let due = is_due c.args.reader.now (g.S.Source.left c.args.src.now) c.args.checker.now c.lines.reader (g.S.Source.left c.lines.src) c.lines.checker s in
    let judged = subst (λ ws. IsJudged c.lines.checker.lines s.due ws c.in_ok-said.said c.line.new.self) (ap words_of c.line-bytes.ensures) (c.in_ok-said.ensures.judged s.due s.reached due) in
    refuses c.args.reader.now (g.S.Source.left c.args.src.now) c.args.checker.now c.lines.reader c.advance-progress.new.self (g.S.Source.left c.lines.src) (g.S.Source.left c.advance-progress.new.src)
    c.lines.checker c.line.new.self c.in_ok-said.said c.in-No.line c.in-No.reason s a judged c.in-No.is

pub returns-in-No-clause-next : goal.returns-in-No-clause-next
returns-in-No-clause-next g c =
    let s = c.lines.invariant.so_far in
    let due = is_due c.args.reader.now (g.S.Source.left c.args.src.now) c.args.checker.now c.lines.reader (g.S.Source.left c.lines.src) c.lines.checker s in
    stays_refused c.args.reader.now c.advance-progress.new.self c.lines.checker c.line.new.self s.due _ c.in_ok-said.said c.in-No.line c.in-No.reason
    (c.in_ok-said.ensures.judged s.due s.reached due) c.in-No.is

pub returns-in-Whole-clause-outcome : goal.returns-in-Whole-clause-outcome
returns-in-Whole-clause-outcome g c =
    let s = c.lines.invariant.so_far in
    let a = subst (λ p. Advances c.lines.reader (g.S.Source.left c.lines.src) p c.advance-progress.new.self (g.S.Source.left c.advance-progress.new.src)) c.in-Line.is (c.advance-progress.ensures.steps.advances s.going.going) in
    let due = is_due c.args.reader.now (g.S.Source.left c.args.src.now) c.args.checker.now c.lines.reader (g.S.Source.left c.lines.src) c.lines.checker s in
    let judged = subst (λ ws. IsJudged c.lines.checker.lines s.due ws c.in_ok-said.said c.line.new.self) (ap words_of c.line-bytes.ensures) (c.in_ok-said.ensures.judged s.due s.reached due) in
    ends_whole c.args.reader.now (g.S.Source.left c.args.src.now) c.args.checker.now c.lines.reader c.advance-progress.new.self (g.S.Source.left c.lines.src) (g.S.Source.left c.advance-progress.new.src)
    c.lines.checker c.line.new.self c.in_ok-said.said c.in-Whole.verdict c.whole_is_true.ensures s a judged c.in-Whole.is

pub returns-in-Whole-clause-next : goal.returns-in-Whole-clause-next
returns-in-Whole-clause-next g c =
    let s = c.lines.invariant.so_far in
    let a = subst (λ p. Advances c.lines.reader (g.S.Source.left c.lines.src) p c.advance-progress.new.self (g.S.Source.left c.advance-progress.new.src)) c.in-Line.is (c.advance-progress.ensures.steps.advances s.going.going) in
    let due = is_due c.args.reader.now (g.S.Source.left c.args.src.now) c.args.checker.now c.lines.reader (g.S.Source.left c.lines.src) c.lines.checker s in
    let judged = subst (λ ws. IsJudged c.lines.checker.lines s.due ws c.in_ok-said.said c.line.new.self) (ap words_of c.line-bytes.ensures) (c.in_ok-said.ensures.judged s.due s.reached due) in
    let next = opens_next c.whole_is_true-2.ensures c.args.reader.now (g.S.Source.left c.args.src.now) c.args.checker.now c.lines.reader c.advance-progress.new.self (g.S.Source.left c.lines.src) (g.S.Source.left c.advance-progress.new.src)
    c.lines.checker c.line.new.self c.in_ok-said.said c.in-Whole.verdict s a judged c.in-Whole.is in
    next

pub returns-in_default : goal.returns-in_default
returns-in_default g c =
    let s = c.lines.invariant.so_far in
    let a = c.advance-progress.ensures.steps.advances s.going.going in
    record {
      outcome = stops c.args.reader.now (g.S.Source.left c.args.src.now) c.args.checker.now c.lines.reader c.advance-progress.new.self (g.S.Source.left c.lines.src) (g.S.Source.left c.advance-progress.new.src)
          c.lines.checker c.outcome_at_stop-outcome.new.checker c.advance-progress.result c.outcome_at_stop-outcome.result c.first_line_is_first.ensures s a c.in_default.not-Line c.outcome_at_stop-outcome.ensures;
      next = stop_opens c.args.reader.now c.advance-progress.new.self c.lines.checker c.outcome_at_stop-outcome.new.checker c.advance-progress.result c.outcome_at_stop-outcome.result
          (s.due, is_due c.args.reader.now (g.S.Source.left c.args.src.now) c.args.checker.now c.lines.reader (g.S.Source.left c.lines.src) c.lines.checker s) c.outcome_at_stop-outcome.ensures;
      kept = stop_is_no_yes c.lines.checker c.outcome_at_stop-outcome.new.checker c.advance-progress.result c.outcome_at_stop-outcome.result c.outcome_at_stop-outcome.ensures
          c.args.reader.now c.advance-progress.new.self (g.S.Source.left c.args.src.now) (g.S.Source.left c.advance-progress.new.src) c.lines.kept.items;
      ended = end_has_ended c.lines.reader c.advance-progress.new.self (g.S.Source.left c.lines.src) (g.S.Source.left c.advance-progress.new.src)
          c.advance-progress.result c.lines.checker c.outcome_at_stop-outcome.new.checker c.outcome_at_stop-outcome.result a c.outcome_at_stop-outcome.ensures;
      tells = reads_then g.S.Source _ _ _ (λ fault. fault) c.lines.invariant.tells (c.advance-progress.ensures.tells s.going.going)
          (λ is. stop_is_fault c.lines.checker c.outcome_at_stop-outcome.new.checker c.advance-progress.result c.outcome_at_stop-outcome.result c.in_default.not-Line c.outcome_at_stop-outcome.ensures (same_ok is))
          (λ e. ap Ok (fault_stops c.lines.checker c.outcome_at_stop-outcome.new.checker c.advance-progress.result c.outcome_at_stop-outcome.result c.outcome_at_stop-outcome.ensures e));
    }

pub returns-in_err-said-clause-tells : goal.returns-in_err-said-clause-tells
returns-in_err-said-clause-tells g c =
    reads_then g.S.Source _ _ _ (λ fault. fault) c.lines.invariant.tells (c.advance-progress.ensures.tells c.lines.invariant.so_far.going.going)
    (λ e. absurd (err_is_not_ok c.from_residual-in_err-said.result _ c.from_residual-in_err-said.ensures.0 e)) (λ e. absurd (line_is_no_fault c.advance-progress.result c.in-Line.is e))

pub returns-in-Whole-clause-tells : goal.returns-in-Whole-clause-tells
returns-in-Whole-clause-tells g c =
    reads_then g.S.Source _ _ _ (λ fault. fault) c.lines.invariant.tells (c.advance-progress.ensures.tells c.lines.invariant.so_far.going.going) (λ e. absurd (cc))
    (λ e. absurd (line_is_no_fault c.advance-progress.result c.in-Line.is e))

pub returns-in-No-clause-tells : goal.returns-in-No-clause-tells
returns-in-No-clause-tells g c =
    reads_then g.S.Source _ _ _ (λ fault. fault) c.lines.invariant.tells (c.advance-progress.ensures.tells c.lines.invariant.so_far.going.going) (λ e. absurd (cc))
    (λ e. absurd (line_is_no_fault c.advance-progress.result c.in-Line.is e))
