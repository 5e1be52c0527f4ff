use Rattle.std.proofs.Common.{◌≡◌, ◌≢◌, ◌+◌, ◌++◌, ◌∷◌, [], ◌∙◌, ℤ, List, ap, sym, subst, refl, arith, length}
use Rattle.crew_terms.specs.Branches.{LeafNode, SplitNode}
use Rattle.crew_terms.specs.Leaf.{Prices}
use Rattle.crew_terms.specs.Limits.{Limits, root_limits}
use Rattle.crew_terms.specs.Plan.{unassigned_count}
use Rattle.crew_terms.specs.Tree.{child}
use Rattle.crew_terms.specs.declared.Side.{Side}
use Rattle.crew_terms.specs.declared.Side.TheVariants.{First, Second}
use Rattle.search_tree.specs.States.{DecidesProved, limits_of}
use Rattle.search_tree.specs.Keyed.{Before, IsFirst, IsSecond, IsWaiting}
use Rattle.search_terms.specs.Search.{Extends, IsSplit, Splits}
use Rattle.search_terms.specs.SearchTree.{OpenLeaf, SearchTree, Split}
use Rattle.search_terms.specs.Ways.{limits_at, prices_at, replaced}
use Rattle.search_tree.specs.declared.nodes.Node.{Node}
use Rattle.search_tree.specs.Numbered.{HasSplit, tree_of, way_of}
use Rattle.search_tree.proofs.step_laws.steps_at_split.Goals as goal

-- what is decided of the same node and prices
moved : (n m : Limits) (p q : Prices) (b : ℤ) → m ≡ n → q ≡ p → DecidesProved n p b → DecidesProved m q b
moved n m p q b limits prices h =
    subst (λ (y : Limits). DecidesProved y q b) (sym limits) (subst (λ (y : Prices). DecidesProved n y b) (sym prices) h)

pub returns-clause-step : goal.returns-clause-step
returns-clause-step x = λ i pivots left key n own number cause bound bounds choice p q c d plan better columns more old new keyed w is turned same improves extends splits.
    let o = keyed.leaves key n bound w in
    let way = way_of old.nodes n in
    let t = tree_of p c old.nodes in
    let limits : limits_at (root_limits i) t way ≡ limits_of i old n =
    x.ways_are_of_nodes.ensures.limits p c old.nodes n (root_limits i) keyed.numbered o.0 in
    let prices : prices_at t way ≡ p own = x.ways_are_of_nodes.ensures.prices p c old.nodes n own keyed.numbered o.0 is in
    let split : Split = record { choice = choice; cause = d cause } in
    let leaf : SearchTree = LeafNode (OpenLeaf (q number)) in
    let it : IsSplit (unassigned_count better) pivots more (limits_at (root_limits i) t way) (prices_at t way) (q number) split =
    subst (λ (m : Limits). IsSplit (unassigned_count better) pivots more m (prices_at t way) (q number) split) (sym limits)
    (subst (λ (y : Prices). IsSplit (unassigned_count better) pivots more (limits_of i old n) y (q number) split) (sym prices) splits) in
    record {
      leads = x.ways_are_of_nodes.ensures.leads p c old.nodes n own keyed.numbered o.0 is;
      plan = improves;
      extends = subst (λ (m : Limits). Extends m columns more) (sym limits) extends;
      new = SplitNode split leaf leaf;
      becomes = Splits split (q number) it refl;
      tree = turned.tree q d ∙ ap (λ (y : SearchTree). replaced y way (SplitNode split leaf leaf)) same;
      left = refl;
    }

pub returns-clause-bounds : goal.returns-clause-bounds
returns-clause-bounds x = λ i key n number cause bound bounds choice p q c d old new keyed after w turned same decides first second other m b v.
    let root : Limits = root_limits i in
    let here = keyed.leaves key n bound w in
    let t = tree_of p c old.nodes in
    let u = tree_of q d new.nodes in
    let way = way_of old.nodes n in
    let split : Split = record { choice = choice; cause = d cause } in
    let leaf : SearchTree = LeafNode (OpenLeaf (q number)) in
    let grown : SearchTree = SplitNode split leaf leaf in
    let to : u ≡ replaced t way grown = turned.tree q d ∙ ap (λ (y : SearchTree). replaced y way grown) same in
    let leads = x.ways_are_of_nodes.ensures.leads p c old.nodes n here.1 keyed.numbered here.0 here.2 in
    let above : limits_at root t way ≡ limits_of i old n = x.ways_are_of_nodes.ensures.limits p c old.nodes n root keyed.numbered here.0 in
    let has : HasSplit old.nodes new.nodes n choice cause number =
    subst (λ (y : List Node). HasSplit old.nodes y n choice cause number) (sym turned.nodes) (x.splits_are_put.ensures old.nodes n cause number choice here.0) in
    let count : length new.nodes ≡ length old.nodes + 2 = has.count in
    elim (turned.before other m b v) [
      | Before apart was ↦
          let there = keyed.leaves other m b was in
          let off : way_of old.nodes m ≢ way = λ e.
          let one : m ≡ n = x.ways_are_of_nodes.ensures.one old.nodes m n keyed.numbered there.0 here.0 e in
          apart (keyed.one other key n b bound (subst (λ j. IsWaiting old other j b) one was) w) in
          let stays = x.ways_are_leaves.ensures.others root t way (way_of old.nodes m) grown leads
          (x.ways_are_of_nodes.ensures.leads p c old.nodes m there.1 keyed.numbered there.0 there.2) off in
          let same_way : way_of new.nodes m ≡ way_of old.nodes m = turned.ways m there.0 in
          let limits : limits_at root u (way_of new.nodes m) ≡ limits_at root t (way_of old.nodes m) =
          ap (λ (y : List Side). limits_at root u y) same_way ∙ ap (λ (y : SearchTree). limits_at root y (way_of old.nodes m)) to ∙ stays.limits in
          let prices : prices_at u (way_of new.nodes m) ≡ prices_at t (way_of old.nodes m) =
          ap (λ (y : List Side). prices_at u y) same_way ∙ ap (λ (y : SearchTree). prices_at y (way_of old.nodes m)) to ∙ stays.prices in
          moved (limits_at root t (way_of old.nodes m)) (limits_at root u (way_of new.nodes m)) (prices_at t (way_of old.nodes m))
          (prices_at u (way_of new.nodes m)) b limits prices (decides other m b was)
      | IsFirst apart at value ↦
          let j = length old.nodes in
          let go : way_of new.nodes j ≡ way ++ First ∷ [] =
          ap (λ (y : List Node). way_of y j) turned.nodes ∙ x.split_ways.ensures.first old.nodes n cause number choice keyed.numbered (here.0, here.1, here.2) in
          let limits : limits_at root u (way_of new.nodes j) ≡ child (limits_of i old n) choice First =
          ap (λ (y : List Side). limits_at root u y) go ∙ ap (λ (y : SearchTree). limits_at root y (way ++ First ∷ [])) to
          ∙ x.ways_are_leaves.ensures.children root t way First split (q number) (q number) leads ∙ ap (λ (y : Limits). child y choice First) above in
          let prices : prices_at u (way_of new.nodes j) ≡ q number =
          x.ways_are_of_nodes.ensures.prices q d new.nodes j number after.numbered (omega arith) (ap (λ (y : Node). y.content) has.first) in
          subst (λ k. DecidesProved (limits_at root u (way_of new.nodes k)) (prices_at u (way_of new.nodes k)) b) (sym at)
          (subst (λ (z : ℤ). DecidesProved (limits_at root u (way_of new.nodes j)) (prices_at u (way_of new.nodes j)) z) (sym value)
          (moved (child (limits_of i old n) choice First) (limits_at root u (way_of new.nodes j)) (q number) (prices_at u (way_of new.nodes j))
          bounds.0 limits prices first))
      | IsSecond apart at value ↦
          let j = length old.nodes + 1 in
          let go : way_of new.nodes j ≡ way ++ Second ∷ [] =
          ap (λ (y : List Node). way_of y j) turned.nodes ∙ x.split_ways.ensures.second old.nodes n cause number choice keyed.numbered (here.0, here.1, here.2) in
          let limits : limits_at root u (way_of new.nodes j) ≡ child (limits_of i old n) choice Second =
          ap (λ (y : List Side). limits_at root u y) go ∙ ap (λ (y : SearchTree). limits_at root y (way ++ Second ∷ [])) to
          ∙ x.ways_are_leaves.ensures.children root t way Second split (q number) (q number) leads ∙ ap (λ (y : Limits). child y choice Second) above in
          let prices : prices_at u (way_of new.nodes j) ≡ q number =
          x.ways_are_of_nodes.ensures.prices q d new.nodes j number after.numbered (omega arith) (ap (λ (y : Node). y.content) has.second) in
          subst (λ k. DecidesProved (limits_at root u (way_of new.nodes k)) (prices_at u (way_of new.nodes k)) b) (sym at)
          (subst (λ (z : ℤ). DecidesProved (limits_at root u (way_of new.nodes j)) (prices_at u (way_of new.nodes j)) z) (sym value)
          (moved (child (limits_of i old n) choice Second) (limits_at root u (way_of new.nodes j)) (q number) (prices_at u (way_of new.nodes j))
          bounds.1 limits prices second))
    ]
