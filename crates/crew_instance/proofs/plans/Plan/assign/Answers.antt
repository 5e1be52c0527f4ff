use Rattle.std.proofs.Common.{Some, ap, ◌∙◌, set}
use Rattle.crew_instance.proofs.plans.Plan.assign.Goals as goal

pub returns-clause-ok : goal.returns-clause-ok
returns-clause-ok c =
    c.assign_list.ensures
    ∙ ap (λ ts. set c.args.self.now c.args.i (Some (record { start = c.args.start; teams = ts }))) c.in_ok-teams.ensures.ok
