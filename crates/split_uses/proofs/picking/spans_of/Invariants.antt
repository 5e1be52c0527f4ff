use Rattle.std.proofs.Common.{All}
use Rattle.crew_terms.specs.Limits.{Limits}
use Rattle.split_uses.specs.Permitted.{IsPermittedSpan}
use Rattle.split_uses.proofs.picking.spans_of.Given as goal

abbrev pub invariant-loop-span : goal.invariant-loop-span
invariant-loop-span l = (n : Limits) → All (IsPermittedSpan n) l.spans → All (IsPermittedSpan n) l.own.items
