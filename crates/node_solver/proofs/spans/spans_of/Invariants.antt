use Rattle.std.proofs.Common.{All}
use Rattle.split_uses.specs.Permitted.{IsPermittedSpan}
use Rattle.node_solver.proofs.spans.spans_of.Given as goal

abbrev pub invariant-loop-share : goal.invariant-loop-share
invariant-loop-share g l = All (IsPermittedSpan l.limits.limits) l.spans.items
