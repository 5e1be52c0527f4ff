-- a desk at the root
use Rattle.std.proofs.Common.{◌≡◌, ℕ, List, [], max, ap, sym, subst, ◌∙◌, arith}
use Rattle.crew_terms.specs.Branches.{depth}
use Rattle.crew_terms.specs.Instance.{Instance}
use Rattle.crew_terms.specs.Limits.{root_limits}
use Rattle.branch_tree.specs.Trees.{IsCountIn}
use Rattle.branch_tree.specs.declared.tree.Node.{Node}
use Rattle.node_limits.specs.Trail.{Trail, unchanged}
use Rattle.tree_walk.specs.Way.{IsAt, Walked}
use Rattle.cert_write.specs.Desks.{AreReady}
use Rattle.cert_write.specs.Tables.{IsRoomOf}
use Rattle.cert_write.specs.declared.tables.Room.{Room}

pub ready : (i : Instance) (tree : List Node) (first limits : Trail) (walk : Walked) (room : Room) (levels : ℕ) → first ≡ unchanged (root_limits i) → limits ≡ record first { spare = max first.spare levels }
    → IsCountIn depth tree levels → ((t : Trail) → t.past ≡ [] → IsAt t.limits t walk []) → walk.above ≡ [] → walk.depth ≡ levels → IsRoomOf i room → AreReady i tree limits walk room
ready i tree first limits walk room levels root reserved count at start deep space =
    let is : limits ≡ record { limits = root_limits i; past = []; spare = max 0 levels } = reserved ∙ (let f : Trail → Trail = λ t. record t { spare = max t.spare levels } in ap f root) in
    let here : limits.limits ≡ root_limits i = ap (λ (t : Trail). t.limits) is in
    let past : limits.past ≡ [] = ap (λ (t : Trail). t.past) is in
    let spare : limits.spare ≡ max 0 levels = ap (λ (t : Trail). t.spare) is in
    record {
      root = here;
      past = past;
      start = start;
      at = subst (λ n. IsAt n limits walk []) here (at limits past);
      deep = subst (IsCountIn depth tree) (sym deep) count;
      spare = omega (arith, spare, deep);
      room = space;
    }
