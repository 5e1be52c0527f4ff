use Rattle.std.proofs.Common.{◌<◌, length}
use Rattle.plan_builder.proofs.place.dearest.Given as goal

abbrev pub invariant-loop-x : goal.invariant-loop-x
invariant-loop-x l = l.dearest < length l.teams
