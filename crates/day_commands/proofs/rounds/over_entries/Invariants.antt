use Rattle.std.proofs.Common.{◌≡◌, take}
use Rattle.crew_io.specs.Puts.{TellsWrites}
use Rattle.day_commands.specs.Taken.{output_of, planning_of}
use Rattle.day_commands.proofs.Said.{SoFar}
use Rattle.day_commands.proofs.rounds.over_entries.Given as goal

abbrev pub invariant-loop-n : goal.invariant-loop-n
invariant-loop-n g l = record {
  output : output_of l.taker ≡ output_of l.fn.taker;
  so_far : SoFar (output_of l.fn.taker) (take l.n l.entries) l.all_proved (planning_of l.taker) (g.K.Sink.got l.fn.out) (g.K.Sink.got l.out);
  tells : TellsWrites g.K.Sink l.fn.out l.out ⊥;
}
