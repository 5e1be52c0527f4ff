use Rattle.std.proofs.Common.{◌≡◌, ◌+◌, ◌∷◌, [], take, map}
use Rattle.std.specs.Prelude.{codes, slice_index_or}
use Rattle.std.specs.Fmt.{decimal}
use Rattle.arrayvec.specs.ArrayVec.{array_vec_len}
use Rattle.line_out.specs.Parts.{part_word}
use Rattle.cert_write.proofs.instance.put_travel.Given as goal

abbrev pub invariant-loop-b : goal.invariant-loop-b
invariant-loop-b g l = record {
  room : array_vec_len l.line ≡ l.b + 1;
  so_far : map part_word l.line.items ≡ codes "travel" ∷ map decimal (take l.b (slice_index_or l.instance.travel l.a []));
}
