use Rattle.std.proofs.Common.{◌<◌, ◌+◌, ◌-◌, vec_len, vec_capacity}
use Rattle.crew_terms.specs.declared.TheConstants.{LONGEST_LINE}
use Rattle.field_table.proofs.cuts.make_room.Given as goal

abbrev pub invariant-loop-cuts : goal.invariant-loop-cuts
invariant-loop-cuts l = LONGEST_LINE < vec_capacity l.cuts

abbrev pub decreases-loop-cuts : goal.decreases-loop-cuts
decreases-loop-cuts l = l.length + 1 - vec_len l.cuts
