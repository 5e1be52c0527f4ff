use Rattle.std.proofs.Common.{None, ap, ◌∙◌, set}
use Rattle.std.specs.Option.{option_map}
use Rattle.std.proofs.Math.Seq.{map-set}
use Rattle.crew_instance.specs.Kept.{job_in}
use Rattle.crew_instance.proofs.plans.Plan.clear.Goals as goal

pub returns : goal.returns
returns c = map-set (option_map job_in) c.self.inside.slots.items c.args.i None ∙ ap (λ js. set js c.args.i None) c.self.view_is
