use Rattle.std.proofs.Common.{◌≡◌, ◌≤◌, drop, length, map}
use Rattle.crew_terms.specs.Limits.{root_limits}
use Rattle.branch_tree.specs.Trees.{BranchTree}
use Rattle.dossier_terms.specs.Dossier.{Written}
use Rattle.cert_write.specs.Causes.{cause_of}
use Rattle.cert_write.specs.Tables.{IsRoomOf}
use Rattle.cert_write.specs.Walks.{IsAmid, IsDue}
use Rattle.cert_write.proofs.tree.put_nodes.Given as goal

abbrev pub invariant-loop-at : goal.invariant-loop-at
invariant-loop-at g l = record {
  instance : l.limits.limits.instance ≡ l.instance;
  room : IsRoomOf l.instance l.room;
  few : l.written ≤ length l.causes;
  amid : (given : BranchTree) (written : Written) → IsDue (root_limits l.instance) l.tree (map cause_of l.causes) given written
      → IsAmid g.K.Sink (root_limits l.instance) written (drop l.at l.tree) (map cause_of (drop l.written l.causes)) l.limits l.walk l.fn.out l.out;
}
