use Rattle.std.proofs.Common.{◌≡◌, ◌-◌, length}
use Rattle.crew_io.specs.declared.lines.TheConstants.{ROOM}
use Rattle.crew_io.proofs.Stream.{IsSame}
use Rattle.crew_io.proofs.lines.LineReader.read_line.Given as goal

abbrev pub invariant-loop-self : goal.invariant-loop-self
invariant-loop-self g l = record {
  same : IsSame l.fn.self (g.S.Source.left l.fn.src) l.self (g.S.Source.left l.src);
  faults : g.S.Source.faults l.src ≡ g.S.Source.faults l.fn.src;
  steady : g.S.Source.steady l.fn.src → g.S.Source.steady l.src;
}

abbrev pub decreases-loop-self : goal.decreases-loop-self
decreases-loop-self g l = ROOM - length l.self.held
