use Rattle.crew_instance.specs.Kept.{drafted}
use Rattle.crew_instance.proofs.Drafts.{default_more}
use Rattle.crew_instance.proofs.builders.Builder.default_travel.Goals as goal

pub invariant_of-self : goal.invariant_of-self
invariant_of-self c = default_more (drafted c.self.inside) c.self.invariant c.args.minutes c.requires
