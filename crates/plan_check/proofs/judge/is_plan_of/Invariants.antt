use Rattle.std.proofs.Common.{ℕ, ◌<◌, length}
use Rattle.crew_terms.specs.Plan.{Does}
use Rattle.plan_check.proofs.judge.is_plan_of.Given as goal

abbrev pub invariant-loop-j : goal.invariant-loop-j
invariant-loop-j l = (k j t : ℕ) → j < l.j → Does l.plan k j t → k < length l.instance.teams
