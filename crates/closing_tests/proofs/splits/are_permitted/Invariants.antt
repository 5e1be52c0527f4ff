use Rattle.std.proofs.Common.{◌<◌, ℕ, pos, get_or}
use Rattle.split_uses.specs.Permitted.{IsPermittedSpan}
use Rattle.closing_tests.proofs.splits.are_permitted.Given as goal

abbrev pub invariant-loop-span : goal.invariant-loop-span
invariant-loop-span l =
    (i : ℕ) → i < l.span-index
    → IsPermittedSpan l.limits.limits (get_or l.spans i (record { one = record { team = 0; task = 0; start = 0; num = pos 0 }; earliest = 0; latest = 0 }))
