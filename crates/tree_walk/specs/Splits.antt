-- the two children of a split
use Rattle.std.specs.Prelude.{Option, None, Some}
use Rattle.crew_terms.specs.declared.Choice.{Choice}
use Rattle.crew_terms.specs.declared.Side.{Side}
use Rattle.crew_terms.specs.declared.Side.TheVariants.{First, Second}
use Rattle.node_limits.specs.declared.walks.Branch.{Branch}

-- the second child of a split, behind its first
abbrev pub second_child : Choice → Side → Option Branch
second_child choice First = Some (record { choice = choice; side = Second })
second_child choice Second = None

-- the second child of the same split, where the branch is the first
abbrev pub second_of : Branch → Option Branch
second_of b = second_child b.choice b.side
