-- what is numbered stays so where a leaf is closed or split
use Rattle.std.proofs.Common.{◌≡◌, ◌≢◌, ◌≤◌, ◌<◌, ◌+◌, ◌-◌, ◌++◌, ◌∙◌, ◌⊎◌, inl, inr, ℕ, zero, suc, List, [], ◌∷◌, None, Some, length, set, refl, ap, sym, subst, arith, get_or-set_other, get_or-set_same, length-append}
use Rattle.std.proofs.lemmas.Bool.{cases_eq, cases_lt}
use Rattle.std.proofs.lemmas.List.{length-set, get_or_append_left, get_or-append-add}
use Rattle.crew_terms.specs.Leaf.{Prices}
use Rattle.crew_terms.specs.Branches.{LeafNode, SplitNode}
use Rattle.crew_terms.specs.declared.Side.{Side}
use Rattle.crew_terms.specs.declared.Side.TheVariants.{First, Second}
use Rattle.crew_terms.specs.declared.Choice.{Choice}
use Rattle.search_terms.specs.SearchTree.{SearchTree, SplitCause, OpenLeaf, ClosedLeaf, Split}
use Rattle.search_terms.specs.Ways.{replaced}
use Rattle.search_tree.specs.declared.nodes.Content.{Content}
use Rattle.search_tree.specs.declared.nodes.Content.TheVariants as content
use Rattle.search_tree.specs.declared.nodes.Node.{Node}
use Rattle.search_tree.specs.Numbered.{AreNumbered, HasSplit, IsChild, IsOpenNode, node_of, child_of, root_node, leaf_below, with_content, split_at, grown, tree_at, tree_of, way_of, way_up}
use Rattle.search_tree.proofs.Levels.{root_way, child_way}
use Rattle.search_tree.proofs.Changing.{ChangesAt, tree_changed}

-- nodes with another content of the leaf j, and with its children behind them, if it has any
pub record Goes (nodes after : List Node) (j : ℕ) : Type 0 where
  pub changes : ChangesAt nodes after j
  pub leaf : (side : Side) → child_of (node_of nodes j).content side ≡ None
  pub same_above : (n : ℕ) → n < length nodes → (node_of after n).above ≡ (node_of nodes n).above
  pub same_side : (n : ℕ) → n < length nodes → (node_of after n).side ≡ (node_of nodes n).side
  pub children : (side : Side) (m : ℕ) → child_of (node_of after j).content side ≡ Some m → (length nodes ≤ m) × IsChild after j side m
  pub leaves : (n : ℕ) (side : Side) → length nodes ≤ n → n < length after → child_of (node_of after n).content side ≡ None
  pub behind : (n : ℕ) → length nodes ≤ n → n < length after → IsChild after (node_of after n).above (node_of after n).side n

child_after : (nodes after : List Node) (j : ℕ) → Goes nodes after j → (n m : ℕ) (side : Side) → n < length nodes → n ≢ j
    → child_of (node_of nodes n).content side ≡ Some m → IsChild after n side m
child_after nodes after j g n m side l ne is =
    let k = g.changes.numbered.children n m side l is in
    let longer = g.changes.longer in
    let known = k.known in
    record {
      behind = k.behind;
      known = omega arith;
      above = g.same_above m known ∙ k.above;
      turned = g.same_side m known ∙ k.turned;
      child = ap (λ (x : Node). child_of x.content side) (g.changes.others n l ne) ∙ is;
    }

children_after : (nodes after : List Node) (j : ℕ) → Goes nodes after j → (n m : ℕ) (side : Side) → n < length after
    → child_of (node_of after n).content side ≡ Some m → IsChild after n side m
children_after nodes after j g n m side l is = at (cases_lt n (length nodes)) (cases_eq n j)
  where
    at : (n < length nodes) ⊎ (length nodes ≤ n) → (n ≡ j) ⊎ (n ≢ j) → IsChild after n side m
    at (inl known) (inl e) = subst (λ x. IsChild after x side m) (sym e)
        (g.children side m (ap (λ x. child_of (node_of after x).content side) (sym e) ∙ is)).1
    at (inl known) (inr ne) = child_after nodes after j g n m side known ne
        (ap (λ (x : Node). child_of x.content side) (sym (g.changes.others n known ne)) ∙ is)
    at (inr past) e = let x : None ≡ Some m = sym (g.leaves n side past l) ∙ is in cc

parents_after : (nodes after : List Node) (j : ℕ) → Goes nodes after j → (m : ℕ) → 0 < m → m < length after
    → IsChild after (node_of after m).above (node_of after m).side m
parents_after nodes after j g m some l = at (cases_lt m (length nodes))
  where
    at : (m < length nodes) ⊎ (length nodes ≤ m) → IsChild after (node_of after m).above (node_of after m).side m
    at (inr past) = g.behind m past l
    at (inl known) =
        let k = g.changes.numbered.parents m some known in
        let b = k.behind in
        let a = (node_of nodes m).above in
        let s = (node_of nodes m).side in
        let ne : a ≢ j = λ e. let x : None ≡ Some m = sym (g.leaf s) ∙ ap (λ n. child_of (node_of nodes n).content s) (sym e) ∙ k.child in cc in
        let one : IsChild after a s m = child_after nodes after j g a m s (omega arith) ne k.child in
        let two : IsChild after (node_of after m).above s m = subst (λ n. IsChild after n s m) (sym (g.same_above m known)) one in
        subst (λ (t : Side). IsChild after (node_of after m).above t m) (sym (g.same_side m known)) two

pub numbered_after : (nodes after : List Node) (j : ℕ) → Goes nodes after j → AreNumbered after
numbered_after nodes after j g =
    let longer = g.changes.longer in
    let some = g.changes.numbered.some in
    record { some = omega arith; children = children_after nodes after j g; parents = parents_after nodes after j g }

pub way_after : (nodes after : List Node) (j : ℕ) → Goes nodes after j → (f m : ℕ) → m < length nodes → way_up f after m ≡ way_up f nodes m
unfolding way_up
way_after nodes after j g f zero l = root_way after f ∙ sym (root_way nodes f)
way_after nodes after j g zero (suc m) l = refl
way_after nodes after j g (suc f) (suc m) l =
    let k = g.changes.numbered.parents (suc m) (omega arith) l in
    let b = k.behind in
    ap (λ (x : ℕ). way_up f after x ++ (node_of after (suc m)).side ∷ []) (g.same_above (suc m) l)
    ∙ ap (λ (s : Side). way_up f after (node_of nodes (suc m)).above ++ s ∷ []) (g.same_side (suc m) l)
    ∙ ap (λ (w : List Side). w ++ (node_of nodes (suc m)).side ∷ [])
    (way_after nodes after j g f (node_of nodes (suc m)).above (omega arith))

-- ---- the content of a leaf

leaf_open : (nodes : List Node) (j : ℕ) → IsOpenNode nodes j → (side : Side) → child_of (node_of nodes j).content side ≡ None
leaf_open nodes j o First = ap (λ (k : Content). child_of k First) o.2
leaf_open nodes j o Second = ap (λ (k : Content). child_of k Second) o.2

-- ---- a leaf is closed

pub closes : (nodes : List Node) (j prices : ℕ) → AreNumbered nodes → IsOpenNode nodes j → Goes nodes (with_content nodes j (content.Closed prices)) j
closes nodes j prices numbered o =
    let new : Node = record (node_of nodes j) { content = content.Closed prices } in
    let after : List Node = set nodes j new in
    let len : length after ≡ length nodes = length-set nodes j new in
    let here : node_of after j ≡ new = get_or-set_same nodes j new (root_node 0) o.0 in
    let others : (n : ℕ) → n ≢ j → node_of after n ≡ node_of nodes n = λ n ne. get_or-set_other nodes j n new (root_node 0) ne in
    record {
      changes = record { numbered = numbered; known = o.0; longer = omega arith; others = λ n l ne. others n ne };
      leaf = leaf_open nodes j o;
      same_above = λ n l. elim (cases_eq n j) [ inl e ↦ subst (λ x. (node_of after x).above ≡ (node_of nodes x).above) (sym e) (ap (λ (x : Node). x.above) here) | inr ne ↦ ap (λ (x : Node). x.above) (others n ne) ];
      same_side = λ n l. elim (cases_eq n j) [ inl e ↦ subst (λ x. (node_of after x).side ≡ (node_of nodes x).side) (sym e) (ap (λ (x : Node). x.side) here) | inr ne ↦ ap (λ (x : Node). x.side) (others n ne) ];
      children = λ side m is. let x : None ≡ Some m = sym (closed_none prices side) ∙ ap (λ (x : Node). child_of x.content side) (sym here) ∙ is in cc;
      leaves = λ n side past l. absurd (omega arith);
      behind = λ n past l. absurd (omega arith);
    }
  where
    closed_none : (p : ℕ) (side : Side) → child_of (content.Closed p) side ≡ None
    closed_none p First = refl
    closed_none p Second = refl

-- the tree of a node is made from its content
made : (p : ℕ → Prices) (c : ℕ → SplitCause) (after : List Node) (j f : ℕ) (new : Node) → 0 < f → node_of after j ≡ new
    → tree_at p c f after j ≡ grown p c new.content (tree_at p c (f - 1) after)
unfolding tree_at
made p c after j zero new h e = absurd (omega arith)
made p c after j (suc f) new h e =
    let less : suc f - 1 ≡ f = omega arith in
    ap (λ (x : Node). grown p c x.content (tree_at p c f after)) e ∙ ap (λ (g : ℕ). grown p c new.content (tree_at p c g after)) (sym less)

pub closed_tree : (p : ℕ → Prices) (c : ℕ → SplitCause) (nodes : List Node) (j prices : ℕ) → AreNumbered nodes → IsOpenNode nodes j
    → tree_of p c (with_content nodes j (content.Closed prices)) ≡ replaced (tree_of p c nodes) (way_of nodes j) (LeafNode (ClosedLeaf (p prices)))
closed_tree p c nodes j prices numbered o =
    let new : Node = record (node_of nodes j) { content = content.Closed prices } in
    let len : length (set nodes j new) ≡ length nodes = length-set nodes j new in
    let known = o.0 in
    tree_changed p c nodes (set nodes j new) j (LeafNode (ClosedLeaf (p prices))) (closes nodes j prices numbered o).changes
    (λ f h. made p c (set nodes j new) j f new (omega arith) (get_or-set_same nodes j new (root_node 0) known))

-- ---- a leaf is split

pub has_split : (nodes : List Node) (j : ℕ) (choice : Choice) (cause prices : ℕ) → j < length nodes
    → HasSplit nodes (split_at nodes j choice cause prices) j choice cause prices
has_split nodes j choice cause prices known =
    let pair : List Node = leaf_below j First prices ∷ leaf_below j Second prices ∷ [] in
    let longer : List Node = nodes ++ pair in
    let same : node_of longer j ≡ node_of nodes j = get_or_append_left nodes pair (root_node 0) j known in
    let new : Node = record (node_of longer j) { content = content.Split choice cause (length nodes) } in
    let len : length longer ≡ length nodes + 2 = length-append nodes pair in
    let count : length (set longer j new) ≡ length longer = length-set longer j new in
    let zeroth : length nodes + 0 ≡ length nodes = omega arith in
    let far : length nodes ≢ j = λ e. absurd (omega arith) in
    let further : length nodes + 1 ≢ j = λ e. absurd (omega arith) in
    record {
      count = omega arith;
      here = get_or-set_same longer j new (root_node 0) (omega arith)
          ∙ ap (λ (x : Node). record x { content = content.Split choice cause (length nodes) }) same;
      first = get_or-set_other longer j (length nodes) new (root_node 0) far
          ∙ subst (λ m. node_of longer m ≡ leaf_below j First prices) zeroth (get_or-append-add nodes pair 0 (root_node 0));
      second = get_or-set_other longer j (length nodes + 1) new (root_node 0) further
          ∙ get_or-append-add nodes pair 1 (root_node 0);
      others = λ n l ne. get_or-set_other longer j n new (root_node 0) ne ∙ get_or_append_left nodes pair (root_node 0) n l;
    }

-- a number of the two behind is one of them
two_behind : (l n : ℕ) → l ≤ n → n < l + 2 → (n ≡ l) ⊎ (n ≡ l + 1)
two_behind l n h k = at (cases_eq n l)
  where
    at : (n ≡ l) ⊎ (n ≢ l) → (n ≡ l) ⊎ (n ≡ l + 1)
    at (inl e) = inl e
    at (inr ne) = inr (omega arith)

-- a leaf has no children
no_child : (k : Node) (above prices : ℕ) (on side : Side) → k ≡ leaf_below above on prices → child_of k.content side ≡ None
no_child k above prices on First e = ap (λ (x : Node). child_of x.content First) e
no_child k above prices on Second e = ap (λ (x : Node). child_of x.content Second) e

-- the child of the split on a side
split_child : (nodes after : List Node) (j : ℕ) (choice : Choice) (cause prices : ℕ) → j < length nodes → HasSplit nodes after j choice cause prices
    → (side : Side) (m : ℕ) → child_of (content.Split choice cause (length nodes)) side ≡ Some m → (length nodes ≤ m) × IsChild after j side m
split_child nodes after j choice cause prices known h First m is =
    let e : length nodes ≡ m = let x : Some (length nodes) ≡ Some m = is in cc x in
    let count = h.count in
    let child : child_of (node_of after j).content First ≡ Some (length nodes) = ap (λ (x : Node). child_of x.content First) h.here in
    subst (λ x. (length nodes ≤ x) × IsChild after j First x) e (
      omega arith,
      record {
        behind = known;
        known = omega arith;
        above = ap (λ (x : Node). x.above) h.first;
        turned = ap (λ (x : Node). x.side) h.first;
        child = child;
      },
    )
split_child nodes after j choice cause prices known h Second m is =
    let e : length nodes + 1 ≡ m = let x : Some (length nodes + 1) ≡ Some m = is in cc x in
    let count = h.count in
    let child : child_of (node_of after j).content Second ≡ Some (length nodes + 1) = ap (λ (x : Node). child_of x.content Second) h.here in
    subst (λ x. (length nodes ≤ x) × IsChild after j Second x) e (
      omega arith,
      record {
        behind = omega arith;
        known = omega arith;
        above = ap (λ (x : Node). x.above) h.second;
        turned = ap (λ (x : Node). x.side) h.second;
        child = child;
      },
    )

-- each node behind is a child of the split
behind_split : (nodes after : List Node) (j : ℕ) (choice : Choice) (cause prices : ℕ) → j < length nodes → HasSplit nodes after j choice cause prices
    → (n : ℕ) → length nodes ≤ n → n < length after → IsChild after (node_of after n).above (node_of after n).side n
behind_split nodes after j choice cause prices known h n past l =
    let count = h.count in
    at (two_behind (length nodes) n past (omega arith))
  where
    is_first : IsChild after (node_of after (length nodes)).above (node_of after (length nodes)).side (length nodes)
    is_first = subst (λ (k : Node). IsChild after k.above k.side (length nodes)) (sym h.first)
        (split_child nodes after j choice cause prices known h First (length nodes) refl).1

    is_second : IsChild after (node_of after (length nodes + 1)).above (node_of after (length nodes + 1)).side (length nodes + 1)
    is_second = subst (λ (k : Node). IsChild after k.above k.side (length nodes + 1)) (sym h.second)
        (split_child nodes after j choice cause prices known h Second (length nodes + 1) refl).1

    at : (n ≡ length nodes) ⊎ (n ≡ length nodes + 1) → IsChild after (node_of after n).above (node_of after n).side n
    at (inl e) = subst (λ x. IsChild after (node_of after x).above (node_of after x).side x) (sym e) is_first
    at (inr e) = subst (λ x. IsChild after (node_of after x).above (node_of after x).side x) (sym e) is_second

leaves_behind : (nodes after : List Node) (j : ℕ) (choice : Choice) (cause prices : ℕ) → HasSplit nodes after j choice cause prices
    → (n : ℕ) (side : Side) → length nodes ≤ n → n < length after → child_of (node_of after n).content side ≡ None
leaves_behind nodes after j choice cause prices h n side past l =
    let count = h.count in
    at (two_behind (length nodes) n past (omega arith))
  where
    at : (n ≡ length nodes) ⊎ (n ≡ length nodes + 1) → child_of (node_of after n).content side ≡ None
    at (inl e) = no_child (node_of after n) j prices First side (ap (λ x. node_of after x) e ∙ h.first)
    at (inr e) = no_child (node_of after n) j prices Second side (ap (λ x. node_of after x) e ∙ h.second)

pub splits_leaf : (nodes after : List Node) (j : ℕ) (choice : Choice) (cause prices : ℕ) → AreNumbered nodes → IsOpenNode nodes j
    → HasSplit nodes after j choice cause prices → Goes nodes after j
splits_leaf nodes after j choice cause prices numbered o h =
    let count = h.count in
    record {
      changes = record { numbered = numbered; known = o.0; longer = omega arith; others = h.others };
      leaf = leaf_open nodes j o;
      same_above = λ n l. elim (cases_eq n j) [ inl e ↦ subst (λ x. (node_of after x).above ≡ (node_of nodes x).above) (sym e) (ap (λ (x : Node). x.above) h.here) | inr ne ↦ ap (λ (x : Node). x.above) (h.others n l ne) ];
      same_side = λ n l. elim (cases_eq n j) [ inl e ↦ subst (λ x. (node_of after x).side ≡ (node_of nodes x).side) (sym e) (ap (λ (x : Node). x.side) h.here) | inr ne ↦ ap (λ (x : Node). x.side) (h.others n l ne) ];
      children = λ side m is. split_child nodes after j choice cause prices o.0 h side m (ap (λ (x : Node). child_of x.content side) (sym h.here) ∙ is);
      leaves = leaves_behind nodes after j choice cause prices h;
      behind = behind_split nodes after j choice cause prices o.0 h;
    }

pub split_tree : (p : ℕ → Prices) (c : ℕ → SplitCause) (nodes : List Node) (j : ℕ) (choice : Choice) (cause prices : ℕ) → AreNumbered nodes → IsOpenNode nodes j
    → tree_of p c (split_at nodes j choice cause prices) ≡ replaced (tree_of p c nodes) (way_of nodes j)
    (SplitNode (record { choice = choice; cause = c cause }) (LeafNode (OpenLeaf (p prices))) (LeafNode (OpenLeaf (p prices))))
split_tree p c nodes j choice cause prices numbered o =
    let after = split_at nodes j choice cause prices in
    let h : HasSplit nodes after j choice cause prices = has_split nodes j choice cause prices o.0 in
    let count = h.count in
    let known = o.0 in
    let split : Split = record { choice = choice; cause = c cause } in
    let leaf : SearchTree = LeafNode (OpenLeaf (p prices)) in
    tree_changed p c nodes after j (SplitNode split leaf leaf) (splits_leaf nodes after j choice cause prices numbered o h).changes
    (λ f e. made p c after j f (record (node_of nodes j) { content = content.Split choice cause (length nodes) }) (omega arith) h.here
    ∙ ap (λ (t : SearchTree). SplitNode split t (tree_at p c (f - 1) after (length nodes + 1)))
    (made p c after (length nodes) (f - 1) (leaf_below j First prices) (omega arith) h.first)
    ∙ ap (λ (t : SearchTree). SplitNode split leaf t)
    (made p c after (length nodes + 1) (f - 1) (leaf_below j Second prices) (omega arith) h.second))

-- ---- the ways of the two new leaves

new_way : (nodes after : List Node) (j m : ℕ) (side : Side) → Goes nodes after j → m < length after → child_of (node_of after j).content side ≡ Some m
    → way_of after m ≡ way_of nodes j ++ side ∷ []
new_way nodes after j m side g l is =
    let known = g.changes.known in
    let longer = g.changes.longer in
    child_way after (numbered_after nodes after j g) j m side (omega arith) is
    ∙ ap (λ (w : List Side). w ++ side ∷ []) (way_after nodes after j g j j known)

pub first_way : (nodes : List Node) (j cause prices : ℕ) (choice : Choice) → AreNumbered nodes → IsOpenNode nodes j
    → way_of (split_at nodes j choice cause prices) (length nodes) ≡ way_of nodes j ++ First ∷ []
first_way nodes j cause prices choice a o =
    let after : List Node = split_at nodes j choice cause prices in
    let h : HasSplit nodes after j choice cause prices = has_split nodes j choice cause prices o.0 in
    let count = h.count in
    new_way nodes after j (length nodes) First (splits_leaf nodes after j choice cause prices a o h) (omega arith)
    (ap (λ (x : Node). child_of x.content First) h.here)

pub second_way : (nodes : List Node) (j cause prices : ℕ) (choice : Choice) → AreNumbered nodes → IsOpenNode nodes j
    → way_of (split_at nodes j choice cause prices) (length nodes + 1) ≡ way_of nodes j ++ Second ∷ []
second_way nodes j cause prices choice a o =
    let after : List Node = split_at nodes j choice cause prices in
    let h : HasSplit nodes after j choice cause prices = has_split nodes j choice cause prices o.0 in
    let count = h.count in
    new_way nodes after j (length nodes + 1) Second (splits_leaf nodes after j choice cause prices a o h) (omega arith)
    (ap (λ (x : Node). child_of x.content Second) h.here)
