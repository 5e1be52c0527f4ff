use Rattle.std.proofs.Common.{◌≡◌, map, take}
use Rattle.plan_check.proofs.Listed.{visit_of}
use Rattle.plan_check.proofs.visits.tasks_of.Given as goal

abbrev pub invariant-loop-turn : goal.invariant-loop-turn
invariant-loop-turn l = l.visits.items ≡ map visit_of (take l.turn-index l.turns)
