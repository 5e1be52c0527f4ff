use Rattle.std.proofs.Common.{◌≡◌, ◌<◌, ℕ}
use Rattle.crew_terms.specs.Limits.{window_of}
use Rattle.branch_choice.proofs.windows.window_cut.Given as goal

abbrev pub invariant-loop-j : goal.invariant-loop-j
invariant-loop-j l = (h : ℕ) → h < l.j → (window_of l.limits.limits h).0 ≡ (window_of l.limits.limits h).1
