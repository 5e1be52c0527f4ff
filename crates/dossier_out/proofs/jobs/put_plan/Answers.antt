use Rattle.std.proofs.Common.{◌≡◌, ◌∷◌, [], ℕ, map, ap, ◌∙◌}
use Rattle.std.specs.Prelude.{codes}
use Rattle.std.specs.Fmt.{decimal}
use Rattle.crew_io.specs.Chains.{puts_then, puts_front, puts_same, first_front}
use Rattle.crew_terms.specs.Plan.{unassigned_count}
use Rattle.crew_terms.specs.Words.{line_text}
use Rattle.dossier_terms.specs.Lines.{do_line, jobs_from, plan_line}
use Rattle.line_out.specs.Parts.{part_word}
use Rattle.line_out.specs.declared.Part.{Part}
use Rattle.line_out.specs.declared.Part.TheVariants.{Number}
use Rattle.dossier_out.specs.Texts.{text}
use Rattle.dossier_out.proofs.jobs.put_plan.Goals as goal

line_is : (a b : Part) (n u bound : ℕ) → a ≡ Number n → n ≡ u → b ≡ Number bound → line_text (codes "plan" ∷ part_word a ∷ part_word b ∷ []) ≡ line_text (plan_line u bound)
line_is a b n u bound ea en eb =
    ap (λ x. line_text (codes "plan" ∷ part_word x ∷ part_word b ∷ [])) (ea ∙ ap Number en) ∙ ap (λ x. line_text (codes "plan" ∷ decimal u ∷ part_word x ∷ [])) eb

pub returns-in_err-put_line : goal.returns-in_err-put_line
returns-in_err-put_line g c =
    let p = c.args.plan.now in
    puts_front g.K.Sink (line_text (plan_line (unassigned_count p) c.args.bound)) _ _ _ _ c.from_residual.result c.from_residual.ensures.0
    (puts_same g.K.Sink _ _ _ _ _ (line_is c.number-open.result c.number.result _ (unassigned_count p) c.args.bound c.number-open.ensures c.unassigned.ensures c.number.ensures) c.in_err-put_line.ensures)
    (first_front (line_text (plan_line (unassigned_count p) c.args.bound)) (text (map do_line (jobs_from 0 p))))

pub returns : goal.returns
returns g c =
    let p = c.args.plan.now in
    puts_then g.K.Sink (line_text (plan_line (unassigned_count p) c.args.bound)) (text (map do_line (jobs_from 0 p))) _ _ _ _ _
    (puts_same g.K.Sink _ _ _ _ _ (line_is c.number-open.result c.number.result _ (unassigned_count p) c.args.bound c.number-open.ensures c.unassigned.ensures c.number.ensures) c.in_ok-put_line.ensures)
    c.put_begun.ensures
