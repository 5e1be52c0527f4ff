use Rattle.std.proofs.Common.{All}
use Rattle.split_uses.specs.Permitted.{IsPermittedSpan}
use Rattle.tree_rehearsal.proofs.program.Program.spans.Given as goal

abbrev pub invariant-loop-line : goal.invariant-loop-line
invariant-loop-line l = All (IsPermittedSpan l.limits.limits) l.spans.items
