use Rattle.std.proofs.Common.{◌<◌, ℕ}
use Rattle.branch_choice.specs.Uses.{HasTwoStarts}
use Rattle.branch_choice.proofs.ends.uses_cut.Given as goal

abbrev pub invariant-loop-task : goal.invariant-loop-task
invariant-loop-task l = (h : ℕ) → h < l.task → HasTwoStarts l.uses h → ⊥
