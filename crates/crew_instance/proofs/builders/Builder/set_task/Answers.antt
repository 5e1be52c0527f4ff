use Rattle.std.proofs.Common.{set, arith}
use Rattle.std.proofs.lemmas.Grind.{common_steps}
use Rattle.crew_instance.specs.Kept.{drafted}
use Rattle.crew_instance.proofs.Drafts.{parts_anew}
use Rattle.crew_instance.proofs.builders.Builder.set_task.Goals as goal

pub invariant_of-self : goal.invariant_of-self
invariant_of-self c =
    parts_anew (drafted c.self.inside) c.self.invariant c.self.inside.teams.items (set c.self.inside.tasks.items c.args.j c.args.task) c.new.result (grind (arith, common_steps)) c.new.ensures
