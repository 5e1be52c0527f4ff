-- laws of the children of a node
use Rattle.std.proofs.Common.{subst, sym}
use Rattle.crew_terms.specs.Limits.{Limits}
use Rattle.crew_terms.specs.Nodes.{child_instance}
use Rattle.crew_terms.specs.Rules.{IsInstance}
use Rattle.crew_terms.specs.Tree.{child}
use Rattle.crew_terms.specs.declared.Choice.{Choice}
use Rattle.crew_terms.specs.declared.Side.{Side}

-- the instance of a child is an instance too
pub child_is : (n : Limits) (choice : Choice) (side : Side) → IsInstance n.instance → IsInstance (child n choice side).instance
child_is n choice side = subst IsInstance (sym (child_instance n choice side))
