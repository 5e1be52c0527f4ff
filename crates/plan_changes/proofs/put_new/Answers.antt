use Rattle.std.proofs.Common.{◌++◌, ◌∷◌, [], List, ℕ, map, ap, ◌∙◌}
use Rattle.crew_terms.specs.Words.{line_text}
use Rattle.each_out.specs.Laws.{puts_as}
use Rattle.field_table.specs.Clocks.{clock_text}
use Rattle.line_out.specs.Parts.{part_word}
use Rattle.std.specs.Prelude.{codes}
use Rattle.plan_changes.proofs.Words.{four_and_list}
use Rattle.plan_changes.proofs.put_new.Goals as goal

pub returns : goal.returns
returns g c =
    let now = c.args.now.now in
    puts_as g.K.Sink _ _ _ _ _ c.put_line.ensures
    (ap line_text (ap (map part_word) c.deref.ensures.0
    ∙ four_and_list _ _ _ _ _ _ _ _ _ _ now.teams c.new-line.ensures c.push.ensures.items c.push-2.ensures.items c.push-3.ensures.items c.push-4.ensures.items
    (c.push_names.ensures.words ∙ ap (λ (ts : List (List ℕ)). map part_word c.push-4.new.self.items ++ ts) c.teams.ensures.teams)
    ∙ ap (λ (name : List ℕ). (name ∷ codes "done" ∷ codes "now" ∷ c.clock-at.result ∷ []) ++ now.teams) (c.bytes.ensures.bytes ∙ c.task.ensures)
    ∙ ap (λ (at : List ℕ). (now.task ∷ codes "done" ∷ codes "now" ∷ at ∷ []) ++ now.teams) (c.clock-at.ensures ∙ ap clock_text c.start.ensures.start)))
