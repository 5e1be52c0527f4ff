use Rattle.std.proofs.Common.{◌≡◌, ◌++◌, map, take}
use Rattle.std.specs.Prelude.{All}
use Rattle.day_explain.specs.Telling.{IsOneLine, placed_at, placed_of}
use Rattle.day_explain.proofs.told.tell_faults.Given as goal

abbrev pub invariant-loop-fault : goal.invariant-loop-fault
invariant-loop-fault l = record {
  so_far : map placed_of l.told.items ≡ map placed_of l.fn.told.items ++ map (placed_at l.faulty.span.line) (take l.fault-index l.faults);
  lines : All IsOneLine l.fn.told.items → All IsOneLine l.told.items;
}
