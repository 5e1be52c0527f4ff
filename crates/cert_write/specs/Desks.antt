-- what a dossier's tree is written with
use Rattle.std.specs.Prelude.{◌≡◌, List, []}
use Rattle.crew_terms.specs.Branches.{depth}
use Rattle.crew_terms.specs.Instance.{Instance}
use Rattle.crew_terms.specs.Limits.{root_limits}
use Rattle.branch_tree.specs.Trees.{IsCountIn}
use Rattle.branch_tree.specs.declared.tree.Node.{Node}
use Rattle.node_limits.specs.Trail.{Trail}
use Rattle.tree_walk.specs.Way.{IsAt, Walked}
use Rattle.cert_write.specs.Tables.{IsRoomOf}
use Rattle.cert_write.specs.declared.desk.Desk.{Desk}
use Rattle.cert_write.specs.declared.tables.Room.{Room}

-- at the root of the instance, with room for all of the tree
pub record AreReady (i : Instance) (tree : List Node) (limits : Trail) (walk : Walked) (space : Room) : Type 0 where
  pub root : limits.limits ≡ root_limits i
  pub past : limits.past ≡ []
  pub start : walk.above ≡ []
  pub at : IsAt (root_limits i) limits walk []
  pub deep : IsCountIn depth tree walk.depth
  pub spare : limits.spare ≡ walk.depth
  pub room : IsRoomOf i space

-- the same of a desk
abbrev pub IsReady : Instance → List Node → Desk → Type 0
IsReady i tree desk = AreReady i tree desk.limits desk.walk desk.room
