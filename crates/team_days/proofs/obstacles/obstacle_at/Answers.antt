use Rattle.std.proofs.Common.{length, subst, sym, ◌∙◌}
use Rattle.crew_instance.specs.Turns.{AreTurns}
use Rattle.team_days.proofs.Named.{none_is_free}
use Rattle.team_days.proofs.obstacles.obstacle_at.Goals as goal

pub obstacle_in-requires-clause-day : goal.obstacle_in-requires-clause-day
obstacle_in-requires-clause-day c =
    (c.args.plan.now, c.requires.plan, subst (AreTurns c.args.plan.now c.args.k (length c.args.plan.now)) (sym c.as_slice.ensures.value) c.fill_turns.ensures)

pub returns-clause-obstacle : goal.returns-clause-obstacle
returns-clause-obstacle c =
    c.obstacle_in.ensures c.args.plan.now c.requires.plan
    (subst (AreTurns c.args.plan.now c.args.k (length c.args.plan.now)) (sym c.as_slice.ensures.value) c.fill_turns.ensures)

pub returns-clause-free : goal.returns-clause-free
returns-clause-free c =
    let is =
    c.obstacle_in.ensures c.args.plan.now c.requires.plan
    (subst (AreTurns c.args.plan.now c.args.k (length c.args.plan.now)) (sym c.as_slice.ensures.value) c.fill_turns.ensures)
    in
    let free = none_is_free c.args.instance.now c.args.plan.now c.args.k c.args.j c.args.t c.requires.plan c.requires.team in
    ((λ h. free.0 (sym is ∙ h)), (λ h. is ∙ free.1 h))
