use Rattle.std.proofs.Common.{rules}
use Rattle.crew_instance.specs.Kept.{drafted}
use Rattle.crew_instance.proofs.Drafts.{parts_anew}
use Rattle.crew_instance.proofs.builders.Builder.drop_task.Goals as goal

pub invariant_of-self : goal.invariant_of-self
invariant_of-self c =
    parts_anew (drafted c.self.inside) c.self.invariant c.self.inside.teams.items c.remove.new.self.items c.new.result (search rules) c.new.ensures
