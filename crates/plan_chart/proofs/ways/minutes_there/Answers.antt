use Rattle.std.proofs.Common.{length, ap, ◌∙◌}
use Rattle.crew_terms.specs.Instance.{minutes_between}
use Rattle.crew_terms.specs.declared.Task.{Task}
use Rattle.plan_chart.specs.Ways.{last_turn, minutes_to, place_after}
use Rattle.plan_chart.proofs.ways.minutes_there.Goals as goal

pub returns-clause-minutes : goal.returns-clause-minutes
unfolding minutes_to
returns-clause-minutes c =
    let i = c.args.instance.now in
    let p = c.args.plan.now in
    c.travel.ensures.minutes
    ∙ ap (λ a. minutes_between i a c.task.result.now.place) (c.place_behind-from.ensures.place ∙ ap (place_after i c.args.k) c.turn_before-turn.ensures.turn)
    ∙ ap (λ (x : Task). minutes_between i (place_after i c.args.k (last_turn p c.args.k c.args.t (length p))) x.place) c.task.ensures.task
