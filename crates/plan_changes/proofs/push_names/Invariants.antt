use Rattle.std.proofs.Common.{◌≡◌, ◌+◌, ◌++◌, take, map}
use Rattle.arrayvec.specs.ArrayVec.{array_vec_len}
use Rattle.line_out.specs.Parts.{part_word}
use Rattle.plan_changes.proofs.push_names.Given as goal

abbrev pub invariant-loop-name : goal.invariant-loop-name
invariant-loop-name l = record {
  room : array_vec_len l.line ≡ array_vec_len l.fn.line + l.name-index;
  so_far : map part_word l.line.items ≡ map part_word l.fn.line.items ++ take l.name-index l.names;
}
