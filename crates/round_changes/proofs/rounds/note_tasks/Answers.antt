use Rattle.std.proofs.Common.{◌≡◌, ◌++◌, ◌∷◌, [], map, ap, sym, ◌∙◌}
use Rattle.std.specs.List.{range_with_len}
use Rattle.crew_terms.specs.declared.Task.{Task}
use Rattle.round_changes.specs.Named.{task_name}
use Rattle.round_changes.proofs.Jobs.{mapped_more}
use Rattle.round_changes.proofs.rounds.note_tasks.Goals as goal

pub loop-j-preserved : goal.loop-j-preserved
loop-j-preserved c =
    let f = task_name c.args.instance.now in
    let j = c.loop-j.j in
    let pushed : c.push.new.self.items ≡ c.loop-j.names.items ++ c.task.result.now.name ∷ [] = c.in_ok-push.ensures.items in
    pushed ∙ ap (λ ns. ns ++ c.task.result.now.name ∷ []) c.loop-j.invariant ∙ ap (λ (t : Task). map f (range_with_len 0 j) ++ t.name ∷ []) c.task.ensures.task ∙ sym (mapped_more f j)
