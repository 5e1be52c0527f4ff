use Rattle.std.proofs.Common.{◌≡◌, ◌≤◌, ◌+◌, ◌++◌, ◌∷◌, take, map}
use Rattle.std.specs.Prelude.{codes}
use Rattle.arrayvec.specs.ArrayVec.{array_vec_len}
use Rattle.line_out.specs.Parts.{part_word}
use Rattle.roster_print.proofs.Words.{others}
use Rattle.roster_print.proofs.push_partners.Given as goal

abbrev pub invariant-loop-g : goal.invariant-loop-g
invariant-loop-g l = record {
  room : array_vec_len l.line ≤ array_vec_len l.fn.line + 1 + l.g-index;
  so_far : map part_word l.line.items ≡ map part_word l.fn.line.items ++ codes "with" ∷ others l.instance l.k (take l.g-index l.teams);
}
