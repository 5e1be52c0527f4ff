use Rattle.crew_fixtures.specs.Sizes.{HasParts}
use Rattle.crew_fixtures.proofs.builders.far_builder.Given as goal

abbrev pub invariant-loop-gate : goal.invariant-loop-gate
invariant-loop-gate l = HasParts 4 l.fn.teams l.fn.tasks l.day
