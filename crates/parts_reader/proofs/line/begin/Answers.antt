use Rattle.std.proofs.Common.{◌≡◌, ◌+◌, subst, sym, ◌∙◌}
use Rattle.crew_io.specs.Draws.{reads_none, reads_then}
use Rattle.crew_io.specs.Lines.{Advances}
use Rattle.crew_io.specs.declared.lines.Progress.TheVariants.{Line}
use Rattle.crew_terms.specs.Words.{words_of}
use Rattle.part_lines.specs.Faults.{IsFirstFault}
use Rattle.parts_reader.specs.Input.{Fresh}
use Rattle.parts_reader.specs.Stages.{HaltsAt}
use Rattle.parts_reader.proofs.Places.{line_is_no_fault, no_is_no_fault, none_is_line, none_of, not_true, refuses, stops}
use Rattle.parts_reader.proofs.line.begin.Goals as goal

pub returns-in-Some-clause-says : goal.returns-in-Some-clause-says
returns-in-Some-clause-says g c = λ input done p.
    stops input done Fresh c.args.reader.now c.advance-progress.new.self (g.S.Source.left c.args.src.now) (g.S.Source.left c.advance-progress.new.src) c.args.lines c.requires.limit p tt
    c.advance-progress.result (c.advance-progress.ensures.steps.advances c.requires.going) c.in-Some.halt (sym c.halt_of.ensures ∙ c.in-Some.is)
    (λ _ some e. not_true (c.if-is_over.ensures.1 (some, e)))

pub returns-clause-says : goal.returns-clause-says
returns-clause-says g c = λ input done p.
    let left = g.S.Source.left c.args.src.now in
    let later = g.S.Source.left c.advance-progress.new.src in
    let line : c.advance-progress.result ≡ Line = none_is_line (c.args.lines + 1) c.advance-progress.result (sym c.halt_of.ensures ∙ none_of c.halt_of.result c.in_default.not-Some) in
    let a = subst (λ x. Advances c.args.reader.now left x c.advance-progress.new.self later) line (c.advance-progress.ensures.steps.advances c.requires.going) in
    let how = subst (λ bytes. IsFirstFault (words_of bytes) c.in-Err.fault) c.line.ensures c.in-Err.ensures in
    subst (HaltsAt input done later) (sym c.halt_for.ensures)
    (refuses input done Fresh c.args.reader.now c.advance-progress.new.self left later c.args.lines c.requires.limit p c.in-Err.fault a how)

pub returns-clause-tells : goal.returns-clause-tells
returns-clause-tells g c =
    let line : c.advance-progress.result ≡ Line = none_is_line (c.args.lines + 1) c.advance-progress.result (sym c.halt_of.ensures ∙ none_of c.halt_of.result c.in_default.not-Some) in
    reads_then g.S.Source _ _ _ (λ fault. fault) (reads_none g.S.Source c.args.src.now) (c.advance-progress.ensures.tells c.requires.going)
    (λ e. absurd (no_is_no_fault c.halt_for.result _ _ c.halt_for.ensures e)) (λ e. absurd (line_is_no_fault c.advance-progress.result line e))
