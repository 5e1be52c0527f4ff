use Rattle.std.proofs.Common.{IfSome}
use Rattle.split_uses.specs.Permitted.{IsKnownStop}
use Rattle.split_uses.proofs.spans.latest_minutes.Given as goal

abbrev pub invariant-loop-n : goal.invariant-loop-n
invariant-loop-n l = IfSome l.next (IsKnownStop l.limits.limits)
