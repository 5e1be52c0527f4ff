use Rattle.std.proofs.Common.{◌-◌}
use Rattle.crew_io.specs.Puts.{TellsWrites}
use Rattle.crew_io.specs.Draws.{TellsReads}
use Rattle.sheet_commands.specs.Input.{CanGoOn}
use Rattle.sheet_commands.proofs.Said.{HasSaidOf}
use Rattle.sheet_commands.proofs.read.read_all.Given as goal

abbrev pub invariant-sheets : goal.invariant-sheets
invariant-sheets g l = record {
  going : CanGoOn l.reader l.checker;
  so_far : HasSaidOf (g.S.Source.left l.fn.src) (g.K.Sink.got l.fn.out) l.reader (g.S.Source.left l.src) (g.K.Sink.got l.out) l.checker;
  reads : TellsReads g.S.Source l.fn.src l.src ⊥;
  writes : TellsWrites g.K.Sink l.fn.out l.out ⊥;
}

abbrev pub decreases-sheets : goal.decreases-sheets
decreases-sheets g l = l.reader.limit - l.reader.handed
