use Rattle.std.proofs.Common.{◌≤◌, length}
use Rattle.plan_builder.specs.Schedules.{IsChoiceOf}
use Rattle.plan_builder.proofs.place.choose.Given as goal

abbrev pub invariant-loop-teams : goal.invariant-loop-teams
invariant-loop-teams l = (l.wanted ≤ length l.teams.items) × IsChoiceOf l.teams.items l.fn.teams.items

abbrev pub decreases-loop-teams : goal.decreases-loop-teams
decreases-loop-teams l = length l.teams.items
