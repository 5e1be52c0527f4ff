use Rattle.std.proofs.Common.{◌-◌}
use Rattle.crew_io.specs.Draws.{TellsReads}
use Rattle.dossier_commands.specs.Input.{HasHandedOut}
use Rattle.dossier_commands.proofs.LineByLine.{IsSoFar}
use Rattle.dossier_commands.proofs.kept.next_kept.Given as goal

abbrev pub invariant-lines : goal.invariant-lines
invariant-lines g l = record {
  so_far : IsSoFar l.fn.reader (g.S.Source.left l.fn.src) l.fn.checker l.reader (g.S.Source.left l.src) l.checker;
  kept : HasHandedOut l.fn.reader (g.S.Source.left l.fn.src) l.kept.items l.reader (g.S.Source.left l.src);
  tells : TellsReads g.S.Source l.fn.src l.src ⊥;
}

abbrev pub decreases-lines : goal.decreases-lines
decreases-lines g l = l.reader.limit - l.reader.handed
