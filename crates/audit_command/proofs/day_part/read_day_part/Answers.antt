use Rattle.std.proofs.Common.{◌≡◌, ◌++◌, Result, Ok, ap, subst, sym, ◌∙◌}
use Rattle.crew_terms.specs.Words.{with_feed}
use Rattle.dossier_commands.specs.Input.{text_of_lines}
use Rattle.crew_io.specs.Draws.{reads_none, reads_then}
use Rattle.crew_io.specs.Lines.{Advances}
use Rattle.crew_io.specs.Results.{err_is_not_ok}
use Rattle.crew_io.specs.declared.lines.Progress.{Progress}
use Rattle.crew_io.specs.declared.lines.Progress.TheVariants as progress
use Rattle.audit_command.specs.Reads.{GoesOnBehind, IsKept, IsPart, part_at}
use Rattle.audit_command.specs.declared.day_part.DayPart.{DayPart}
use Rattle.audit_command.proofs.Parts.{at_mark, at_stop, begins, goes_on_at, goes_on_stop, kept_room, mark_no_fault, one_more, stop_fault}
use Rattle.audit_command.proofs.day_part.read_day_part.Goals as goal

same_part : {E : Type 0} {a b : DayPart} → ◌≡◌ {A = Result DayPart E} (Ok a) (Ok b) → a ≡ b
same_part e = cc

line_no_fault : (answer : Progress) → answer ≡ progress.Line → answer ≡ progress.ReadFault → ⊥
line_no_fault answer line fault = let e = sym line ∙ fault in cc

pub lines-init : goal.lines-init
lines-init g c = record {
  so_far = begins (g.S.Source.left c.args.src.now) c.new.result c.args.reader.now c.requires c.new.ensures.items;
  tells = reads_none g.S.Source c.args.src.now;
}

pub with_line-requires : goal.with_line-requires
with_line-requires g c = kept_room _ _ c.lines.invariant.so_far.kept

pub lines-preserved : goal.lines-preserved
lines-preserved g c =
    let s = c.lines.invariant.so_far in
    let a = subst (λ p. Advances c.lines.reader (g.S.Source.left c.lines.src) p c.advance-progress.new.self (g.S.Source.left c.advance-progress.new.src)) c.in-Line.is (c.advance-progress.ensures.steps.advances s.going) in
    record {
      so_far = one_more (g.S.Source.left c.args.src.now) (g.S.Source.left c.lines.src) (g.S.Source.left c.advance-progress.new.src) c.lines.text c.lines.reader c.advance-progress.new.self s
          c.in_ok-text.text a (λ e. (let t = c.is_behind_day.ensures.1 (c.line.ensures ∙ e) in let f = c.if-is_behind_day.false in cc))
          (subst (λ x. IsKept c.in_ok-text.text (text_of_lines s.lines ++ with_feed x)) c.line-in-lines.ensures (c.in_ok-text.ensures _ s.kept));
      tells = reads_then g.S.Source _ _ _ (λ fault. fault) c.lines.invariant.tells (c.advance-progress.ensures.tells s.going) (λ fault. absurd fault)
          (λ e. line_no_fault c.advance-progress.result c.in-Line.is e);
    }

pub returns-in_default-clause-part : goal.returns-in_default-clause-part
returns-in_default-clause-part g c = λ input e.
    let s = c.lines.invariant.so_far in
    let a = c.advance-progress.ensures.steps.advances s.going in
    subst (λ p. IsPart input p c.advance-progress.new.self (g.S.Source.left c.advance-progress.new.src)) (sym c.part_at_stop.ensures)
    (at_stop (g.S.Source.left c.args.src.now) (g.S.Source.left c.lines.src) (g.S.Source.left c.advance-progress.new.src) c.lines.text c.lines.reader c.advance-progress.new.self s
    c.advance-progress.result a c.in_default.not-Line input e)

pub returns-in_default-clause-goes_on : goal.returns-in_default-clause-goes_on
returns-in_default-clause-goes_on g c =
    subst (λ p. GoesOnBehind p c.advance-progress.new.self) (sym c.part_at_stop.ensures) (goes_on_stop c.advance-progress.result c.advance-progress.new.self)

pub returns-in_default-clause-tells : goal.returns-in_default-clause-tells
returns-in_default-clause-tells g c =
    reads_then g.S.Source _ _ _ (λ fault. fault) c.lines.invariant.tells (c.advance-progress.ensures.tells c.lines.invariant.so_far.going)
    (λ e. stop_fault c.advance-progress.result c.in_default.not-Line (sym c.part_at_stop.ensures ∙ same_part e))
    (λ e. ap Ok (c.part_at_stop.ensures ∙ ap part_at e))

pub returns-then-is_behind_day-clause-part : goal.returns-then-is_behind_day-clause-part
returns-then-is_behind_day-clause-part g c = λ input e.
    let s = c.lines.invariant.so_far in
    let a = subst (λ p. Advances c.lines.reader (g.S.Source.left c.lines.src) p c.advance-progress.new.self (g.S.Source.left c.advance-progress.new.src)) c.in-Line.is (c.advance-progress.ensures.steps.advances s.going) in
    let mark = sym c.line.ensures ∙ c.is_behind_day.ensures.0 c.if-is_behind_day.true in
    subst (λ p. IsPart input p c.advance-progress.new.self (g.S.Source.left c.advance-progress.new.src)) (sym c.part_of.ensures)
    (at_mark (g.S.Source.left c.args.src.now) (g.S.Source.left c.lines.src) (g.S.Source.left c.advance-progress.new.src) c.lines.text c.lines.reader c.advance-progress.new.self s a mark input e)

pub returns-then-is_behind_day-clause-goes_on : goal.returns-then-is_behind_day-clause-goes_on
returns-then-is_behind_day-clause-goes_on g c =
    let s = c.lines.invariant.so_far in
    let a = subst (λ p. Advances c.lines.reader (g.S.Source.left c.lines.src) p c.advance-progress.new.self (g.S.Source.left c.advance-progress.new.src)) c.in-Line.is (c.advance-progress.ensures.steps.advances s.going) in
    subst (λ p. GoesOnBehind p c.advance-progress.new.self) (sym c.part_of.ensures)
    (goes_on_at (g.S.Source.left c.args.src.now) (g.S.Source.left c.lines.src) (g.S.Source.left c.advance-progress.new.src) c.lines.text c.lines.reader c.advance-progress.new.self s a)

pub returns-then-is_behind_day-clause-tells : goal.returns-then-is_behind_day-clause-tells
returns-then-is_behind_day-clause-tells g c =
    reads_then g.S.Source _ _ _ (λ fault. fault) c.lines.invariant.tells (c.advance-progress.ensures.tells c.lines.invariant.so_far.going)
    (λ e. absurd (mark_no_fault c.lines.text (sym c.part_of.ensures ∙ same_part e)))
    (λ e. absurd (line_no_fault c.advance-progress.result c.in-Line.is e))

pub returns-in_err-text-clause-tells : goal.returns-in_err-text-clause-tells
returns-in_err-text-clause-tells g c =
    reads_then g.S.Source _ _ _ (λ fault. fault) c.lines.invariant.tells (c.advance-progress.ensures.tells c.lines.invariant.so_far.going)
    (λ e. absurd (err_is_not_ok c.from_residual.result _ c.from_residual.ensures.0 e)) (λ e. absurd (line_no_fault c.advance-progress.result c.in-Line.is e))
