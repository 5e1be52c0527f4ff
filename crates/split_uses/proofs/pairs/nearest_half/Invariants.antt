use Rattle.std.proofs.Common.{IfSome}
use Rattle.split_uses.specs.Permitted.{IsPermittedScored}
use Rattle.split_uses.proofs.pairs.nearest_half.Given as goal

abbrev pub invariant-loop-span : goal.invariant-loop-span
invariant-loop-span l = IfSome l.best (IsPermittedScored l.limits.limits)
