use Rattle.std.proofs.Common.{◌≡◌, ◌+◌, ◌++◌, ◌∷◌, [], ℕ, List, length, ap, rules, subst, sym, ◌∙◌}
use Rattle.crew_terms.specs.Words.{words_of}
use Rattle.crew_io.specs.Draws.{reads_none, reads_then}
use Rattle.crew_io.specs.Lines.{Advances}
use Rattle.crew_io.specs.declared.lines.Progress.TheVariants.{Line}
use Rattle.late_lines.specs.declared.first_line.FirstLine.TheVariants.{Late, Dossier}
use Rattle.late_lines.specs.declared.first_line.LateLine.{LateLine}
use Rattle.late_lines.specs.Lines.{IsLineFault, IsRead}
use Rattle.late_lines.proofs.SoFar.{SoFar, ends, goes_on, line_is_no_fault, none_is_line, none_of, refuses, starts, stops}
use Rattle.late_lines.proofs.read.read_lates.Goals as goal

pub lines-init : goal.lines-init
lines-init g c = record {
  so_far = subst (λ (ls : List LateLine). SoFar (g.S.Source.left c.args.src.now) ls c.args.reader.now (g.S.Source.left c.args.src.now)) (sym c.new-lates.ensures.items)
      (starts c.args.reader.now (g.S.Source.left c.args.src.now) c.requires);
  tells = reads_none g.S.Source c.args.src.now;
}

pub returns-in-Some-clause-says : goal.returns-in-Some-clause-says
returns-in-Some-clause-says g c = λ input e.
    let s = c.lines.invariant.so_far in
    let n : c.len.result + 1 ≡ length c.lines.lates.items + 1 = search rules in
    stops (g.S.Source.left c.args.src.now) c.lines.lates.items c.lines.reader c.advance-progress.new.self (g.S.Source.left c.lines.src) (g.S.Source.left c.advance-progress.new.src) s
    (c.len.result + 1) n c.advance-progress.result (c.advance-progress.ensures.steps.advances s.going.going) c.in-Some.halt (sym c.halt_of.ensures ∙ c.in-Some.is) input e

pub lines-preserved : goal.lines-preserved
lines-preserved g c =
    let s = c.lines.invariant.so_far in
    let left0 = g.S.Source.left c.args.src.now in
    let left = g.S.Source.left c.lines.src in
    let later = g.S.Source.left c.advance-progress.new.src in
    let line : c.advance-progress.result ≡ Line = none_is_line (c.len.result + 1) c.advance-progress.result (sym c.halt_of.ensures ∙ none_of c.halt_of.result c.in_default.not-Some) in
    let a = subst (λ p. Advances c.lines.reader left p c.advance-progress.new.self later) line (c.advance-progress.ensures.steps.advances s.going.going) in
    let read : IsRead c.deref.result.now (words_of c.line.result.now) (Late c.in-Ok-Late.late) = subst (λ x. IsRead c.deref.result.now (words_of c.line.result.now) x) c.in-Ok-Late.field-0-is c.in-Ok-Late.ensures in
    let may : IsRead c.lines.lates.items (words_of c.advance-progress.new.self.line) (Late c.in-Ok-Late.late) =
    subst (λ ws. IsRead c.lines.lates.items (words_of ws) (Late c.in-Ok-Late.late)) c.line.ensures
    (subst (λ (ls : List LateLine). IsRead ls (words_of c.line.result.now) (Late c.in-Ok-Late.late)) c.deref.ensures.value read) in
    record {
      so_far = subst (λ (ls : List LateLine). SoFar left0 ls c.advance-progress.new.self later) (sym c.in_ok-push-in-Ok-Late.ensures.items)
          (goes_on left0 c.lines.lates.items c.lines.reader c.advance-progress.new.self left later s c.words_of_line.ensures.line a c.in-Ok-Late.late may);
      tells = reads_then g.S.Source _ _ _ (λ fault. fault) c.lines.invariant.tells (c.advance-progress.ensures.tells s.going.going) (λ fault. absurd fault)
          (λ e. line_is_no_fault c.advance-progress.result line e);
    }

pub returns-in-Ok-Dossier-clause-says : goal.returns-in-Ok-Dossier-clause-says
returns-in-Ok-Dossier-clause-says g c = λ input e.
    let s = c.lines.invariant.so_far in
    let left0 = g.S.Source.left c.args.src.now in
    let left = g.S.Source.left c.lines.src in
    let later = g.S.Source.left c.advance-progress.new.src in
    let line : c.advance-progress.result ≡ Line = none_is_line (c.len.result + 1) c.advance-progress.result (sym c.halt_of.ensures ∙ none_of c.halt_of.result c.in_default.not-Some) in
    let a = subst (λ p. Advances c.lines.reader left p c.advance-progress.new.self later) line (c.advance-progress.ensures.steps.advances s.going.going) in
    let read : IsRead c.deref.result.now (words_of c.line.result.now) Dossier = subst (λ x. IsRead c.deref.result.now (words_of c.line.result.now) x) c.in-Ok-Dossier.field-0-is c.in-Ok-Dossier.ensures in
    (ends left0 c.lines.lates.items c.lines.reader c.advance-progress.new.self left later s c.words_of_line.ensures.line a
    (ap words_of (sym c.line.ensures) ∙ read)).1 input e

pub returns-in-Err-clause-says : goal.returns-in-Err-clause-says
returns-in-Err-clause-says g c = λ input e.
    let s = c.lines.invariant.so_far in
    let left0 = g.S.Source.left c.args.src.now in
    let left = g.S.Source.left c.lines.src in
    let later = g.S.Source.left c.advance-progress.new.src in
    let n : c.len.result + 1 ≡ length c.lines.lates.items + 1 = search rules in
    let line : c.advance-progress.result ≡ Line = none_is_line (c.len.result + 1) c.advance-progress.result (sym c.halt_of.ensures ∙ none_of c.halt_of.result c.in_default.not-Some) in
    let a = subst (λ p. Advances c.lines.reader left p c.advance-progress.new.self later) line (c.advance-progress.ensures.steps.advances s.going.going) in
    let fault : IsLineFault c.lines.lates.items (words_of c.advance-progress.new.self.line) c.in-Err.fault =
    subst (λ ws. IsLineFault c.lines.lates.items (words_of ws) c.in-Err.fault) c.line.ensures
    (subst (λ (ls : List LateLine). IsLineFault ls (words_of c.line.result.now) c.in-Err.fault) c.deref.ensures.value c.in-Err.ensures) in
    refuses left0 c.lines.lates.items c.lines.reader c.advance-progress.new.self left later s c.words_of_line.ensures.line a
    (c.len.result + 1) c.in-Err.fault n fault c.reason.result c.reason.ensures input e
