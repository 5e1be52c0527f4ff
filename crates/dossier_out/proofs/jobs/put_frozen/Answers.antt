use Rattle.std.proofs.Common.{◌∷◌, [], length, map, ap, ◌∙◌}
use Rattle.std.specs.Prelude.{codes}
use Rattle.std.specs.Fmt.{decimal}
use Rattle.crew_io.specs.Chains.{puts_then, puts_front, puts_same, first_front}
use Rattle.crew_terms.specs.Words.{line_text}
use Rattle.dossier_terms.specs.Lines.{frozen_line, jobs_from, keep_line}
use Rattle.line_out.specs.Parts.{part_word}
use Rattle.dossier_out.specs.Texts.{text}
use Rattle.dossier_out.proofs.jobs.put_frozen.Goals as goal

pub returns-in_err-put_line : goal.returns-in_err-put_line
returns-in_err-put_line g c =
    let jobs = jobs_from 0 c.args.instance.now.frozen in
    puts_front g.K.Sink (line_text (frozen_line (length jobs))) _ _ _ _ c.from_residual.result c.from_residual.ensures.0
    (puts_same g.K.Sink _ _ _ _ _
    (ap (λ p. line_text (codes "frozen" ∷ part_word p ∷ [])) c.number.ensures ∙ ap (λ n. line_text (codes "frozen" ∷ decimal n ∷ [])) c.count_frozen.ensures)
    c.in_err-put_line.ensures)
    (first_front (line_text (frozen_line (length jobs))) (text (map keep_line jobs)))

pub returns : goal.returns
returns g c =
    let jobs = jobs_from 0 c.args.instance.now.frozen in
    puts_then g.K.Sink (line_text (frozen_line (length jobs))) (text (map keep_line jobs)) _ _ _ _ _
    (puts_same g.K.Sink _ _ _ _ _
    (ap (λ p. line_text (codes "frozen" ∷ part_word p ∷ [])) c.number.ensures ∙ ap (λ n. line_text (codes "frozen" ∷ decimal n ∷ [])) c.count_frozen.ensures)
    c.in_ok-put_line.ensures)
    c.put_kept.ensures
