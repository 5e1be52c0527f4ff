use Rattle.std.proofs.Common.{◌≡◌, ◌+◌, ◌-◌, ◌++◌, ◌∙◌, ◌∷◌, [], List, Some, length, refl, ap, sym, subst, append_assoc, arith}
use Rattle.std.specs.Prelude.{unwrap_or}
use Rattle.std.proofs.lemmas.List.{append-nil, length-append, length-set}
use Rattle.crew_terms.specs.Leaf.{Prices}
use Rattle.crew_terms.specs.Limits.{Limits, Route, root_limits}
use Rattle.crew_terms.specs.Plan.{unassigned_count}
use Rattle.crew_terms.specs.declared.Side.{Side}
use Rattle.search_tree.specs.States.{limits_of, state_in}
use Rattle.search_tree.specs.Aged.{leaves_without}
use Rattle.search_tree.specs.Numbers.{HaveNumbers}
use Rattle.search_core.specs.Searching.{Searching, cause_at, price_at, state_of, way_to}
use Rattle.search_core.specs.Steps.{after_step}
use Rattle.search_terms.specs.Proven.{PricesProve}
use Rattle.crew_terms.specs.Branches.{LeafNode}
use Rattle.search_terms.specs.BestFirst.{ComeOf, NoLeaf}
use Rattle.search_terms.specs.Caused.{AreLooseShown}
use Rattle.search_terms.specs.Search.{Closes, IsSearchStep, Then}
use Rattle.search_terms.specs.SearchTree.{ClosedLeaf, SearchTree}
use Rattle.search_terms.specs.Ways.{replaced}
use Rattle.search_tree.specs.declared.nodes.Content.TheVariants as content
use Rattle.search_tree.specs.declared.nodes.Node.{Node}
use Rattle.search_tree.specs.Numbered.{node_of, tree_of, way_of}
use Rattle.search_tree.specs.Ways.{turns_of}
use Rattle.search_core.proofs.Exploring.{after_instance}
use Rattle.search_core.proofs.StepLemmas.{handed_shapes, improves, now_is, price_last, price_stays, same_shape, way_is}
use Rattle.search_core.proofs.Showing.{shown_closed}
use Rattle.search_core.proofs.stepping.closings_are_steps.Goals as goal

pub returns : goal.returns
returns x = λ s key n own pivots bound columns more found kept keyed prices inst is some was now w extends plan closing put.
    let i = s.instance in
    let root : Limits = root_limits i in
    let N : Limits = limits_of i s.keyed n in
    let t : Searching = after_step s found keyed prices s.causes in
    let fit = is.fitting in
    let taken = put.taken in
    let last = length s.prices in
    let same : N.instance ≡ i = after_instance root (turns_of s.keyed.nodes n) in
    let tree : (held : List Route) → tree_of (price_at prices) (cause_at held s.causes) s.keyed.nodes ≡ tree_of (price_at s.prices) (cause_at held s.causes) s.keyed.nodes =
    λ held. x.same_numbers_same_tree.ensures last (length s.causes) (price_at prices) (price_at s.prices) (cause_at held s.causes) (cause_at held s.causes)
    s.keyed.nodes fit.some fit.numbers
    (λ k l. ap (λ (ps : List Prices). price_at ps k) put.put ∙ price_stays s.prices (kept ∷ []) k l) (λ k l. refl) in
    let price : price_at prices last ≡ kept = ap (λ (ps : List Prices). price_at ps last) put.put ∙ price_last s.prices kept in
    let proved : PricesProve N (price_at prices last) (unassigned_count (unwrap_or found s.plan)) =
    subst (λ (p : Prices). PricesProve N p (unassigned_count (unwrap_or found s.plan))) (sym price)
    (subst (λ m. PricesProve N kept m) (now_is s.plan found) closing.proved) in
    let less : s.left - 1 + 1 ≡ s.left = omega arith in
    let step : (held : List Route) → IsSearchStep i (way_of s.keyed.nodes n) pivots columns more (state_of held s) (state_of held t) =
    λ held. subst (λ left. IsSearchStep i (way_of s.keyed.nodes n) pivots columns more
    (state_in (price_at s.prices) (cause_at held s.causes) s.plan left s.keyed) (state_of held t)) less
    (x.steps_at_closed.ensures.step i pivots (s.left - 1) key n last bound (price_at s.prices) (price_at prices)
    (cause_at held s.causes) (cause_at held s.causes) s.plan (unwrap_or found s.plan) columns more s.keyed keyed was w taken (tree held)
    (improves i N.instance s.plan found same plan) extends proved) in
    let way : way_to s key ≡ way_of s.keyed.nodes n = way_is s key n bound w in
    let grown = ap length put.put in
    let one = length-append s.prices (kept ∷ []) in
    let nodes : length keyed.nodes ≡ length s.keyed.nodes =
    ap length taken.nodes ∙ length-set s.keyed.nodes n (record (node_of s.keyed.nodes n) { content = content.Closed last }) in
    let budget = fit.room in
    let most = fit.most_prices in
    let least = fit.most_causes in (
      record {
        run = λ held. Then (state_of held s) (state_of held t) (way_of s.keyed.nodes n) pivots columns more (is.run held) (step held);
        bounds = λ held. x.steps_at_closed.ensures.bounds i key n last bound (price_at s.prices) (price_at prices)
            (cause_at held s.causes) (cause_at held s.causes) s.keyed keyed was now w taken (tree held) (is.bounds held);
        fitting = record {
          some = omega arith;
          numbers = subst (λ (ns : List Node). HaveNumbers (length prices) (length s.causes) ns) (sym taken.nodes)
              (x.numbers_stay.ensures.closed (length prices) (length s.causes) n last s.keyed.nodes
              (x.numbers_stay.ensures.more last (length s.causes) (length prices) (length s.causes) s.keyed.nodes (omega arith) (omega arith) fit.numbers)
              (omega arith));
          shapes = handed_shapes root s.prices prices kept (Some kept) put.put fit.shapes (same_shape N root kept same closing.shape);
          few = fit.few;
          room = omega arith;
          most_prices = omega arith;
          most_causes = omega arith;
        };
      },
      record {
        instance = refl;
        budget = refl;
        priced = λ old rest.
            let held = more ++ rest in
            let way = way_of s.keyed.nodes n in
            let open_node = was.leaves key n bound w in
            let has = x.run_leaves.ensures i s.budget s.left key n open_node.1 bound (price_at s.prices) (cause_at held s.causes) s.plan s.keyed inst (is.run held) was w open_node.2 in
            let new : SearchTree = LeafNode (ClosedLeaf (price_at prices last)) in
            let changed : IsSearchStep i way pivots columns more (state_of held s) (state_of held t) = record (step held) {
              new = new;
              becomes = Closes (price_at prices last)
                  (subst (λ (m : Limits). PricesProve m (price_at prices last) (unassigned_count (unwrap_or found s.plan))) (sym has.limits) proved) refl;
              tree = taken.tree (price_at prices) (cause_at held s.causes) ∙ ap (λ (u : SearchTree). replaced u way new) (tree held);
            } in
            let more_is : columns ++ (extends.added ++ rest) ≡ held = sym (append_assoc columns extends.added rest) ∙ ap (λ (xs : List Route). xs ++ rest) (sym extends.all) in
            x.loose_splits_stay_shown.ensures.step i way pivots columns more (state_of held s) (state_of held t) changed inst tt
            (subst (λ (cs : List Route). AreLooseShown root (state_of cs s).tree) more_is (old (extends.added ++ rest)));
        shown = shown_closed s columns more N.instance N found extends plan key n keyed prices kept put;
        step = λ held. subst (λ (y : List Side). IsSearchStep i y pivots columns more (state_of held s) (state_of held t)) (sym way) (step held);
        aged = λ held. record {
          new = [];
          come = subst (λ (y : List Side). ComeOf root y (state_of held s).tree (state_of held t).tree []) (sym way)
              (NoLeaf (price_at prices last) (taken.tree (price_at prices) (cause_at held s.causes)
              ∙ ap (λ (u : SearchTree). replaced u (way_of s.keyed.nodes n) (LeafNode (ClosedLeaf (price_at prices last)))) (tree held)));
          leaves = x.leaves_keep_order.ensures.taken s.keyed keyed key n last was taken ∙ sym (append-nil (leaves_without s.keyed key));
        };
        stay = λ other ne o.
            let v = taken.stays other o.0 o.1 ne o.2 in
            ((o.0, o.1, v), way_is t other o.0 o.1 v ∙ taken.ways o.0 (was.leaves other o.0 o.1 o.2).0 ∙ sym (way_is s other o.0 o.1 o.2));
        gone = λ o. (taken.before key o.0 o.1 o.2).0 refl;
      },
    )
