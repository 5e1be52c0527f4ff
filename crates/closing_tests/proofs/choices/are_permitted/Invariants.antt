use Rattle.std.proofs.Common.{◌<◌, ℕ, pos, get_or}
use Rattle.branch_choice.specs.Uses.{IsPermittedUse}
use Rattle.closing_tests.proofs.choices.are_permitted.Given as goal

abbrev pub invariant-loop-u : goal.invariant-loop-u
invariant-loop-u l = (i : ℕ) → i < l.u-index → IsPermittedUse l.limits.limits (get_or l.uses i (record { team = 0; task = 0; start = 0; num = pos 0 }))
