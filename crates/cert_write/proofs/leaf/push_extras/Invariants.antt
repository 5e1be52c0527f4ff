use Rattle.std.proofs.Common.{◌≡◌, ◌≤◌, ◌+◌, ◌++◌, map}
use Rattle.crew_terms.specs.declared.TheConstants.{MOST_TEAMS}
use Rattle.arrayvec.specs.ArrayVec.{array_vec_len}
use Rattle.line_out.specs.Parts.{part_word}
use Rattle.cert_write.specs.declared.leaf.TheConstants.{MOST_PARTS}
use Rattle.cert_write.proofs.Leaves.{prices_below}
use Rattle.cert_write.proofs.leaf.push_extras.Given as goal

abbrev pub invariant-loop-k : goal.invariant-loop-k
invariant-loop-k l = record {
  room : array_vec_len l.line + MOST_TEAMS ≤ MOST_PARTS + l.k;
  so_far : map part_word l.line.items ≡ map part_word l.fn.line.items ++ prices_below l.limits.limits l.prices l.j l.k;
}
