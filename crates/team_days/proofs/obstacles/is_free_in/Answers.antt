use Rattle.std.proofs.Common.{sym, ◌∙◌}
use Rattle.team_days.proofs.Named.{none_is_free}
use Rattle.team_days.proofs.obstacles.is_free_in.Goals as goal

pub returns : goal.returns
returns c = λ p feasible are.
    let is = c.obstacle_in.ensures p feasible are in
    let free = none_is_free c.args.instance.now p c.args.k c.args.j c.args.t feasible c.requires.team in
    ((λ h. free.0 (sym is ∙ c.is_free.ensures.0 h)), (λ h. c.is_free.ensures.1 (is ∙ free.1 h)))
