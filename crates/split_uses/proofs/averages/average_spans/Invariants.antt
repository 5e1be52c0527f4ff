use Rattle.std.proofs.Common.{All}
use Rattle.split_uses.specs.Permitted.{IsPermittedSpan}
use Rattle.split_uses.proofs.averages.average_spans.Given as goal

abbrev pub invariant-loop-n : goal.invariant-loop-n
invariant-loop-n l = All (IsPermittedSpan l.limits.limits) l.spans.items
