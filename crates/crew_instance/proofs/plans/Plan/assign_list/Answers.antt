use Rattle.std.proofs.Common.{Some, ap, ◌∙◌, set}
use Rattle.std.specs.Option.{option_map}
use Rattle.std.proofs.Math.Seq.{map-set}
use Rattle.crew_instance.specs.Kept.{job_in}
use Rattle.crew_instance.proofs.plans.Plan.assign_list.Goals as goal

pub returns : goal.returns
returns c =
    map-set (option_map job_in) c.self.inside.slots.items c.args.i (Some (record { start = c.args.start; teams = c.args.teams }))
    ∙ ap (λ js. set js c.args.i (Some (record { start = c.args.start; teams = c.args.teams.items }))) c.self.view_is
