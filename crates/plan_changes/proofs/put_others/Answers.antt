use Rattle.std.proofs.Common.{◌++◌, ◌∷◌, [], List, ℕ, map, ap, ◌∙◌}
use Rattle.crew_terms.specs.Words.{line_text}
use Rattle.each_out.specs.Laws.{puts_as}
use Rattle.line_out.specs.Parts.{part_word}
use Rattle.std.specs.Prelude.{codes}
use Rattle.plan_changes.proofs.Words.{two_lists}
use Rattle.plan_changes.proofs.put_others.Goals as goal

pub returns : goal.returns
returns g c =
    let before = c.args.before.now in
    let now = c.args.now.now in
    puts_as g.K.Sink _ _ _ _ _ c.put_line.ensures
    (ap line_text (ap (map part_word) c.deref.ensures.0
    ∙ two_lists _ _ _ _ _ _ _ before.teams now.teams c.new-line.ensures c.push.ensures.items
    (c.push_names.ensures.words ∙ ap (λ (ts : List (List ℕ)). map part_word c.push.new.self.items ++ ts) c.teams.ensures.teams) c.push-2.ensures.items
    (c.push_names-2.ensures.words ∙ ap (λ (ts : List (List ℕ)). map part_word c.push-2.new.self.items ++ ts) c.teams-2.ensures.teams)
    ∙ ap (λ (name : List ℕ). ((name ∷ []) ++ before.teams) ++ (codes "to" ∷ now.teams)) (c.bytes.ensures.bytes ∙ c.task.ensures)))
