use Rattle.std.proofs.Common.{◌-◌}
use Rattle.crew_io.specs.Draws.{TellsReads}
use Rattle.audit_command.proofs.Parts.{IsInDay}
use Rattle.audit_command.proofs.day_part.read_day_part.Given as goal

abbrev pub invariant-lines : goal.invariant-lines
invariant-lines g l = record {
  so_far : IsInDay (g.S.Source.left l.fn.src) l.text l.reader (g.S.Source.left l.src);
  tells : TellsReads g.S.Source l.fn.src l.src ⊥;
}

abbrev pub decreases-lines : goal.decreases-lines
decreases-lines g l = l.reader.limit - l.reader.handed
