use Rattle.std.proofs.Common.{◌<◌, ℕ}
use Rattle.branch_choice.specs.Rules.{IsOpenPair}
use Rattle.branch_choice.proofs.pairs.open_pair.Given as goal

abbrev pub invariant-loop-j : goal.invariant-loop-j
invariant-loop-j l = (h : ℕ) → h < l.j → (k : ℕ) → IsOpenPair l.limits.limits k h → ⊥
