use Rattle.std.proofs.Common.{All, IfSome}
use Rattle.split_uses.specs.Permitted.{IsKnownStop, IsPermittedSpan}
use Rattle.split_uses.proofs.spans.add_spans.Given as goal

abbrev pub invariant-loop-visit : goal.invariant-loop-visit
invariant-loop-visit l = record {
  before : IfSome l.before (IsKnownStop l.limits.limits);
  spans : All (IsPermittedSpan l.limits.limits) l.spans.items;
}
