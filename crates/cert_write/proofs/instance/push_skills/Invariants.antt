use Rattle.std.proofs.Common.{◌≡◌, ◌≤◌, ◌+◌, ◌++◌, map}
use Rattle.std.specs.Fmt.{decimal}
use Rattle.crew_terms.specs.declared.TheConstants.{SKILLS}
use Rattle.arrayvec.specs.ArrayVec.{array_vec_len}
use Rattle.line_out.specs.Parts.{part_word}
use Rattle.cert_write.specs.declared.instance.TheConstants.{MOST_PARTS}
use Rattle.cert_write.proofs.Instances.{skills_below}
use Rattle.cert_write.proofs.instance.push_skills.Given as goal

abbrev pub invariant-loop-s : goal.invariant-loop-s
invariant-loop-s l = record {
  room : array_vec_len l.line + SKILLS ≤ MOST_PARTS + l.s;
  so_far : map part_word l.line.items ≡ map part_word l.fn.line.items ++ map decimal (skills_below l.skills l.s);
}
