use Rattle.std.proofs.Common.{◌≡◌, List, [], ap, subst, sym, refl, ◌∙◌, arith}
use Rattle.std.specs.Box.{with_value}
use Rattle.std.specs.Global.{Box}
use Rattle.node_limits.specs.Rest.{trail_over}
use Rattle.node_limits.specs.Trail.{Trail}
use Rattle.crew_terms.specs.declared.TreeCounts.{TreeCounts}
use Rattle.dossier_terms.specs.Reading.{Begun, Nodes, Above}
use Rattle.cert_checker.specs.Due.{IsAtNode, IsRoomOf, IsRoot, draft_of}
use Rattle.cert_checker.specs.declared.due.BegunDossier.{BegunDossier}
use Rattle.cert_checker.specs.declared.due.TreeDraft.{TreeDraft}
use Rattle.cert_checker.proofs.PoolRows.{rest_is_root, root_woke}
use Rattle.cert_checker.proofs.TreeRows.{at_root}
use Rattle.cert_checker.proofs.tree.begin_tree.Goals as goal

-- the root of the tree is due
abbrev IsRootDue : Begun → TreeCounts → TreeDraft → Type 0
IsRootDue b claimed t = (above : List Above) × IsAtNode t above × (Nodes b claimed [] ≡ Nodes (draft_of t.draft.value) t.claimed above)

pub returns : goal.returns
returns c =
    let claimed = c.args.claimed in
    let held = c.deref_mut-held.result.now in
    let same : held ≡ c.args.draft.value = c.deref_mut-held.ensures.value in
    let i = held.base.instance in
    let given : IsRoot i held.limits = subst (λ (d : BegunDossier). IsRoot d.base.instance d.limits) (sym same) c.requires.root in
    let woke : c.wake-limits.result ≡ trail_over i held.limits = c.wake-limits.ensures ∙ ap (trail_over i) c.take.ensures.taken in
    let first = root_woke i held.limits c.wake-limits.result given woke in
    let t = c.reserve.new.self in
    let kept = c.in_ok-reserve.ensures.ok in
    let limits = ap (λ (x : Trail). x.limits) kept ∙ first.0 in
    let past = ap (λ (x : Trail). x.past) kept ∙ first.1 in
    let room = ap (λ (x : Trail). x.spare) kept in
    let rest = c.rest.result in
    let root = rest_is_root i t rest limits past c.rest.ensures.same c.rest.ensures.over in
    let rested : rest.spare ≡ t.spare = ap (λ (x : Trail). x.spare) c.rest.ensures.same in
    let walk = c.in_ok-walk.walk in
    let over = c.in_ok-tree.ensures in
    let tree = c.in_ok-tree.tree.value in
    let draft : Box BegunDossier = with_value c.args.draft (record held { limits = rest }) in
    let opened : TreeDraft = record tree { draft = draft; claimed = claimed; walk = walk; unshown = 0 } in
    let ready : IsRoomOf opened = subst IsRoomOf over.is over.room in
    let node : IsAtNode opened [] = record {
      claimed = c.requires.counts;
      over = root.over;
      at = at_root i rest walk root c.in_ok-walk.ensures.root;
      depth = c.in_ok-walk.ensures.depth;
      spare = omega arith;
      unshown = refl;
      unassigned = over.unassigned;
      reader = ready.leaves;
      sums = ready.shares;
    } in
    subst (IsRootDue (draft_of c.args.draft.value) claimed) (sym over.is)
    ([], node, ap (λ (d : BegunDossier). Nodes (draft_of d) claimed []) (sym same))
