use Rattle.std.proofs.Common.{◌-◌}
use Rattle.crew_io.specs.Puts.{TellsWrites}
use Rattle.crew_io.specs.Draws.{TellsReads}
use Rattle.dossier_commands.specs.Input.{IsGoing}
use Rattle.parts_command.proofs.Said.{HasSaidOf}
use Rattle.parts_command.proofs.read.read_all.Given as goal

abbrev pub invariant-bundles : goal.invariant-bundles
invariant-bundles g l = record {
  going : IsGoing l.reader l.lines;
  so_far : HasSaidOf (g.S.Source.left l.fn.src) (g.K.Sink.got l.fn.out) l.reader (g.S.Source.left l.src) (g.K.Sink.got l.out) l.lines;
  reads : TellsReads g.S.Source l.fn.src l.src ⊥;
  writes : TellsWrites g.K.Sink l.fn.out l.out ⊥;
}

abbrev pub decreases-bundles : goal.decreases-bundles
decreases-bundles g l = l.reader.limit - l.reader.handed
