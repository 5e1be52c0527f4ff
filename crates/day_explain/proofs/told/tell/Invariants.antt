use Rattle.std.proofs.Common.{◌≡◌, map, take}
use Rattle.std.specs.Prelude.{All}
use Rattle.day_explain.specs.Telling.{IsOneLine, faults_placed, placed_of}
use Rattle.day_explain.proofs.told.tell.Given as goal

abbrev pub invariant-loop-faulty : goal.invariant-loop-faulty
invariant-loop-faulty l = record {
  so_far : map placed_of l.told.items ≡ faults_placed (take l.faulty-index l.records);
  lines : All IsOneLine l.told.items;
}
