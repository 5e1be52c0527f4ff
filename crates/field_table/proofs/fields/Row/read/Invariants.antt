use Rattle.std.proofs.Common.{◌≡◌, length, take, drop}
use Rattle.field_table.specs.Fields.{AllAccept}
use Rattle.field_table.proofs.fields.Row.read.Given as goal

abbrev pub invariant-loop-i : goal.invariant-loop-i
invariant-loop-i g l = record {
  whole : length l.values ≡ g.row.N;
  accepted : AllAccept (take l.i l.self.fields) (take l.i (drop 1 (g.W.Words.words l.words))) (take l.i l.values);
}
