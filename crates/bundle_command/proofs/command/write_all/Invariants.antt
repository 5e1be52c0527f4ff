use Rattle.std.proofs.Common.{◌-◌}
use Rattle.crew_io.specs.Puts.{TellsWrites}
use Rattle.crew_io.specs.Draws.{TellsReads}
use Rattle.dossier_commands.specs.Input.{CanGoOn}
use Rattle.bundle_command.proofs.Said.{HasSaidOf}
use Rattle.bundle_command.proofs.command.write_all.Given as goal

abbrev pub invariant-dossiers : goal.invariant-dossiers
invariant-dossiers g l = record {
  going : CanGoOn l.reader l.checker;
  so_far : HasSaidOf l.job (g.S.Source.left l.fn.src) (g.K.Sink.got l.fn.out) l.proved l.reader (g.S.Source.left l.src) (g.K.Sink.got l.out) l.checker;
  reads : TellsReads g.S.Source l.fn.src l.src ⊥;
  writes : TellsWrites g.K.Sink l.fn.out l.out ⊥;
}

abbrev pub decreases-dossiers : goal.decreases-dossiers
decreases-dossiers g l = l.reader.limit - l.reader.handed
