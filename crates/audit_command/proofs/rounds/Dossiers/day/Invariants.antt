use Rattle.std.proofs.Common.{take}
use Rattle.crew_io.specs.Draws.{TellsReads}
use Rattle.audit_command.proofs.Going.{IsSoFar}
use Rattle.audit_command.proofs.rounds.Dossiers.day.Given as goal

abbrev pub invariant-loop-n : goal.invariant-loop-n
invariant-loop-n g l = record {
  so_far : IsSoFar l.fn.self (g.S.Source.left l.fn.src) (take l.n l.entries) l.self (g.S.Source.left l.src);
  tells : TellsReads g.S.Source l.fn.src l.src ⊥;
}
