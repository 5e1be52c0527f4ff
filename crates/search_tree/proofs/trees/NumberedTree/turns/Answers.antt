use Rattle.std.proofs.Common.{◌≡◌, ◌≤◌, ◌<◌, ◌++◌, ℕ, List, [], ◌∷◌, length, get_or, arith, sym, subst, ap, ◌∙◌, append_assoc}
use Rattle.std.specs.Prelude.{reverse}
use Rattle.std.proofs.lemmas.List.{get_or_default, reverse-append}
use Rattle.crew_terms.specs.declared.Choice.{Choice}
use Rattle.search_tree.specs.declared.nodes.Node.{Node}
use Rattle.node_limits.specs.declared.walks.Branch.{Branch}
use Rattle.search_tree.specs.Numbered.{AreNumbered, node_of, root_node}
use Rattle.search_tree.specs.Ways.{choice_in, turn_to, turns_of, turns_up}
use Rattle.search_tree.proofs.Opening.{last_turn}
use Rattle.search_tree.proofs.trees.NumberedTree.turns.Goals as goal

-- one turn less is left
stepped : (nodes : List Node) (n at : ℕ) (turns more : List Branch) (node above : Node) → AreNumbered nodes → 0 < at → at < length nodes
    → node ≡ get_or nodes at node → above ≡ get_or nodes node.above above
    → more ≡ turns ++ record { choice = choice_in above.content; side = node.side } ∷ []
    → turns_of nodes n ≡ turns_of nodes at ++ reverse turns
    → (node.above < length nodes) × (turns_of nodes n ≡ turns_of nodes node.above ++ reverse more)
stepped nodes n at turns more node above a some l is up pushed so_far =
    let k = a.parents at some l in
    let behind = k.behind in
    let same : node ≡ node_of nodes at = is ∙ get_or_default nodes at node (root_node 0) l in
    let known : node.above < length nodes = let e = ap (λ (x : Node). x.above) same in omega arith in
    let over : above ≡ node_of nodes node.above = up ∙ get_or_default nodes node.above above (root_node 0) known in
    let turn : Branch = record { choice = choice_in above.content; side = node.side } in
    let is_turn : turn_to nodes at ≡ turn =
    ap (λ (x : Node). record { choice = choice_in (node_of nodes x.above).content; side = x.side }) (sym same)
    ∙ ap (λ (x : Node). record { choice = choice_in x.content; side = node.side }) (sym over) in
    let end : turns_of nodes at ≡ turns_of nodes node.above ++ turn ∷ [] =
    last_turn nodes a at some l
    ∙ ap (λ (x : ℕ). turns_of nodes x ++ turn_to nodes at ∷ []) (ap (λ (x : Node). x.above) (sym same))
    ∙ ap (λ (t : Branch). turns_of nodes node.above ++ t ∷ []) is_turn in (
      known,
      so_far ∙ ap (λ (x : List Branch). x ++ reverse turns) end ∙ append_assoc (turns_of nodes node.above) (turn ∷ []) (reverse turns)
          ∙ ap (λ (x : List Branch). turns_of nodes node.above ++ x) (sym (ap reverse pushed ∙ reverse-append turns (turn ∷ []))),
    )

-- no turn is left at the root
ended : (nodes : List Node) (n at : ℕ) (turns out : List Branch) → at ≤ 0 → turns_of nodes n ≡ turns_of nodes at ++ reverse turns → out ≡ reverse turns
    → out ≡ turns_of nodes n
unfolding turns_up
ended nodes n at turns out root so_far is =
    let zeroth : at ≡ 0 = omega arith in
    is ∙ sym (so_far ∙ ap (λ (m : ℕ). turns_of nodes m ++ reverse turns) zeroth)

pub loop-at-preserved : goal.loop-at-preserved
loop-at-preserved c =
    let now : List Node = c.args.self.now in
    let was : AreNumbered now = subst AreNumbered c.self.view_is c.self.invariant.numbered in
    let is = subst (λ (xs : List Node). c.index-node.result.now ≡ get_or xs c.loop-at.at c.index-node.result.now) c.self.view_is c.index-node.ensures in
    let up = subst (λ (xs : List Node). c.index.result.now ≡ get_or xs c.index-node.result.now.above c.index.result.now) c.self.view_is c.index.ensures in
    let pushed : c.push.new.self.items ≡ c.loop-at.turns.items ++ record { choice = choice_in c.index.result.now.content; side = c.index-node.result.now.side } ∷ [] =
    c.in_ok-push.ensures.items
    ∙ ap (λ (k : Choice). c.loop-at.turns.items ++ record { choice = k; side = c.index-node.result.now.side } ∷ []) c.choice_of.ensures in
    let r = stepped now c.args.n c.loop-at.at c.loop-at.turns.items c.push.new.self.items c.index-node.result.now c.index.result.now was
    c.loop-at-test.true c.loop-at.invariant.known is up pushed c.loop-at.invariant.so_far in
    record { known = r.0; so_far = r.1 }

pub returns : goal.returns
returns c =
    ended c.args.self.now c.args.n c.loop-at.at c.loop-at.turns.items c.reverse.new.self.items c.loop-at-test.false
    c.loop-at.invariant.so_far c.reverse.ensures.items
