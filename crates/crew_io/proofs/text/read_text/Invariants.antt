use Rattle.std.proofs.Common.{◌-◌, ◌≡◌, ◌≤◌, vec_len}
use Rattle.std.specs.Prelude.{slice_range}
use Rattle.crew_io.specs.Lines.{with_left}
use Rattle.crew_io.proofs.text.read_text.Given as goal

abbrev pub invariant-loop-len : goal.invariant-loop-len
invariant-loop-len g l = record {
  held : l.len ≤ vec_len l.room;
  within : vec_len l.room ≤ l.most;
  so_far : with_left (slice_range l.room.items 0 l.len) (g.S.Source.left l.src) ≡ g.S.Source.left l.fn.src;
  faults : g.S.Source.faults l.src ≡ g.S.Source.faults l.fn.src;
  steady : g.S.Source.steady l.fn.src → g.S.Source.steady l.src;
}

abbrev pub decreases-loop-len : goal.decreases-loop-len
decreases-loop-len g l = l.most - l.len
