use Rattle.std.proofs.Common.{◌<◌, ℕ}
use Rattle.branch_choice.specs.Rules.{IsOpenPair}
use Rattle.branch_choice.proofs.pairs.open_team.Given as goal

abbrev pub invariant-loop-k : goal.invariant-loop-k
invariant-loop-k l = (g : ℕ) → g < l.k → IsOpenPair l.limits.limits g l.j → ⊥
