use Rattle.std.proofs.Common.{◌-◌}
use Rattle.crew_io.specs.Draws.{TellsReads}
use Rattle.late_lines.proofs.SoFar.{SoFar}
use Rattle.late_lines.proofs.read.read_lates.Given as goal

abbrev pub invariant-lines : goal.invariant-lines
invariant-lines g l = record {
  so_far : SoFar (g.S.Source.left l.fn.src) l.lates.items l.reader (g.S.Source.left l.src);
  tells : TellsReads g.S.Source l.fn.src l.src ⊥;
}

abbrev pub decreases-lines : goal.decreases-lines
decreases-lines g l = l.reader.limit - l.reader.handed
