use Rattle.std.proofs.Common.{◌≡◌, ◌<◌, ◌+◌, ◌-◌, ◌++◌, ◌∙◌, ◌∷◌, [], ℕ, ℤ, List, length, refl, ap, sym, subst, append_assoc, arith}
use Rattle.std.specs.Prelude.{unwrap_or}
use Rattle.std.proofs.lemmas.List.{length-append, length-set}
use Rattle.crew_terms.specs.Leaf.{Prices}
use Rattle.crew_terms.specs.Instance.{Instance}
use Rattle.crew_terms.specs.Limits.{Limits, Route, root_limits, tasks_in}
use Rattle.crew_terms.specs.Plan.{unassigned_count}
use Rattle.crew_terms.specs.Tree.{child}
use Rattle.crew_terms.specs.declared.Side.{Side}
use Rattle.crew_terms.specs.declared.Side.TheVariants.{First, Second}
use Rattle.search_core.specs.Handed.{prices_or}
use Rattle.search_tree.specs.States.{DecidesProved, limits_of, state_in}
use Rattle.search_tree.specs.Aged.{leaves_of, leaves_without}
use Rattle.search_tree.specs.Keyed.{Before, IsFirst, IsSecond}
use Rattle.search_tree.specs.Numbers.{HasNumber, HaveNumbers}
use Rattle.node_solver.specs.Plans.{now_after}
use Rattle.search_core.specs.Counts.{few_unassigned}
use Rattle.search_core.specs.Searching.{Searching, cause_at, price_at, split_cause, state_of, way_to}
use Rattle.search_core.specs.Settled.{number_of}
use Rattle.search_core.specs.Shown.{IsShownCause, numbered}
use Rattle.search_core.specs.Steps.{after_step}
use Rattle.search_core.specs.declared.causes.Cause.{Cause}
use Rattle.crew_terms.specs.Branches.{LeafNode, SplitNode}
use Rattle.node_solver.specs.Causes.{cause_of}
use Rattle.search_terms.specs.BestFirst.{AgedLeaf, ComeOf, IsBoundIn, TwoLeaves}
use Rattle.search_terms.specs.Caused.{AreLooseShown, IsLooseShown, LooseProves}
use Rattle.search_terms.specs.Earned.{IsEarned, Why as Reason}
use Rattle.search_terms.specs.Search.{IsHandedOn, IsSearchStep, IsSplit, Splits, Then}
use Rattle.search_terms.specs.SearchTree.{OpenLeaf, SearchTree, Split, SplitCause}
use Rattle.search_terms.specs.Ways.{limits_at, prices_at, replaced}
use Rattle.search_tree.specs.declared.nodes.Content.{Content}
use Rattle.search_tree.specs.declared.nodes.Node.{Node}
use Rattle.search_tree.specs.Numbered.{leaf_below, tree_of, way_of, with_children}
use Rattle.search_tree.specs.Ways.{turns_of}
use Rattle.search_core.proofs.Exploring.{after_instance}
use Rattle.search_core.proofs.StepLemmas.{cause_last, cause_stays, earned_any, handed_known, handed_more, handed_price, handed_shapes, improves, now_is, price_stays, same_shape, way_is}
use Rattle.search_core.proofs.Pricing.{proves_grown}
use Rattle.search_core.proofs.Showing.{plan_less, same_limits, shown_split}
use Rattle.search_core.proofs.stepping.splits_are_steps.Goals as goal

-- the prices of before stay
old_price : (prices after more : List Prices) (k : ℕ) → after ≡ prices ++ more → k < length prices → price_at after k ≡ price_at prices k
old_price prices after more k is l = ap (λ (ps : List Prices). price_at ps k) is ∙ price_stays prices more k l

old_cause : (held : List Route) (causes after more : List Cause) (k : ℕ) → after ≡ causes ++ more → k < length causes
    → cause_at held after k ≡ cause_at held causes k
old_cause held causes after more k is l = ap (λ (cs : List Cause). cause_at held cs k) is ∙ cause_stays held causes more k l

-- the leaves that come of a split
abbrev two_leaves : List Side → ℤ × ℤ → List AgedLeaf
two_leaves way bounds = record { way = way ++ First ∷ []; bound = bounds.0 } ∷ record { way = way ++ Second ∷ []; bound = bounds.1 } ∷ []

pub returns : goal.returns
returns x = λ s key n own pivots bound columns more found choice why handed keyed prices causes inst is some was now w content_is extends plan splits put.
    let i = s.instance in
    let root : Limits = root_limits i in
    let N : Limits = limits_of i s.keyed n in
    let t : Searching = after_step s found keyed prices causes in
    let fit = is.fitting in
    let turned = put.turned in
    let better = unwrap_or found s.plan in
    let last = length s.causes in
    let number = number_of own (length s.prices) handed.prices in
    let same : N.instance ≡ i = after_instance root (turns_of s.keyed.nodes n) in
    let known : own < length s.prices = subst (λ (k : Content). HasNumber (length s.prices) (length s.causes) k) content_is (fit.numbers n) in
    let price : price_at prices number ≡ prices_or (price_at s.prices own) handed.prices = handed_price s.prices prices own handed.prices put.put known in
    let tree : (held : List Route) → tree_of (price_at prices) (cause_at held causes) s.keyed.nodes ≡ tree_of (price_at s.prices) (cause_at held s.causes) s.keyed.nodes =
    λ held. x.same_numbers_same_tree.ensures (length s.prices) (length s.causes) (price_at prices) (price_at s.prices) (cause_at held causes) (cause_at held s.causes)
    s.keyed.nodes fit.some fit.numbers (λ k l. old_price s.prices prices _ k put.put l) (λ k l. old_cause held s.causes causes _ k put.cause_put l) in
    let the_cause : Cause = record { now = now_after (unassigned_count s.plan) found; why = why } in
    let cause : (held : List Route) → cause_at held causes last ≡ split_cause held the_cause =
    λ held. ap (λ (cs : List Cause). cause_at held cs last) put.cause_put ∙ cause_last held s.causes the_cause in
    let count : now_after (unassigned_count s.plan) found ≡ unassigned_count better = now_is s.plan found in
    let split : (held : List Route) → IsSplit (unassigned_count better) pivots more N (price_at s.prices own) (price_at prices number)
    (record { choice = choice; cause = cause_at held causes last }) =
    λ held. subst (λ m. IsSplit m pivots more N (price_at s.prices own) (price_at prices number) (record { choice = choice; cause = cause_at held causes last })) count
    (subst (λ (y : SplitCause). IsSplit (now_after (unassigned_count s.plan) found) pivots more N (price_at s.prices own) (price_at prices number)
    (record { choice = choice; cause = y })) (sym (cause held)) (record {
      valid = splits.valid;
      some = splits.some;
      count = refl;
      found = splits.found;
      earned = earned_any N (now_after (unassigned_count s.plan) found) pivots splits.found more more held why splits.earned;
      on = subst (λ (p : Prices). IsHandedOn N (price_at s.prices own) splits.found p) (sym price) splits.on.on;
    })) in
    let has = x.run_leaves.ensures i s.budget s.left key n own bound (price_at s.prices) (cause_at [] s.causes) s.plan s.keyed inst (is.run []) was w content_is in
    let at : (p : ℕ → Prices) → limits_at root (tree_of p numbered s.keyed.nodes) (way_of s.keyed.nodes n) ≡ N =
    λ p. same_limits p (price_at s.prices) numbered (cause_at [] s.causes) (length s.keyed.nodes) s.keyed.nodes 0 (way_of s.keyed.nodes n) root ∙ has.limits in
    let here : IsShownCause more (unassigned_count better) N the_cause = record {
      some = splits.some;
      known = let all : tasks_in N ≡ length i.tasks = ap (λ (j : Instance). length j.tasks) same in
          let few = few_unassigned i s.plan (x.run_keeps.ensures.plan i s.budget (state_of [] s) (is.run [])) in
          let fewer = plan_less N.instance s.plan found plan in
          omega (arith, all, few, fewer, count);
      enough = omega (arith, count);
      why = splits.shown;
    } in
    let less : s.left - 1 + 1 ≡ s.left = omega arith in
    let step : (held : List Route) → IsSearchStep i (way_of s.keyed.nodes n) pivots columns more (state_of held s) (state_of held t) =
    λ held. subst (λ left. IsSearchStep i (way_of s.keyed.nodes n) pivots columns more
    (state_in (price_at s.prices) (cause_at held s.causes) s.plan left s.keyed) (state_of held t)) less
    (x.steps_at_split.ensures.step i pivots (s.left - 1) key n own number last bound handed.bounds choice (price_at s.prices) (price_at prices)
    (cause_at held s.causes) (cause_at held causes) s.plan better columns more s.keyed keyed was w content_is turned (tree held)
    (improves i N.instance s.plan found same plan) extends (split held)) in
    let way : way_to s key ≡ way_of s.keyed.nodes n = way_is s key n bound w in
    let grown = handed_more s.prices prices handed.prices put.put in
    let at_least = grown.0 in
    let at_most = grown.1 in
    let cause_grown : length causes ≡ length s.causes + 1 = ap length put.cause_put ∙ length-append s.causes (the_cause ∷ []) in
    let fresh = handed_known s.prices prices own handed.prices put.put known in
    let pair : List Node = leaf_below n First number ∷ leaf_below n Second number ∷ [] in
    let nodes : length keyed.nodes ≡ length s.keyed.nodes + 2 =
    ap length turned.nodes ∙ length-set (with_children s.keyed.nodes n number) n _ ∙ length-append s.keyed.nodes pair in
    let budget = fit.room in
    let most = fit.most_prices in
    let least = fit.most_causes in
    let positive = fit.some in (
      record {
        run = λ held. Then (state_of held s) (state_of held t) (way_of s.keyed.nodes n) pivots columns more (is.run held) (step held);
        bounds = λ held. x.steps_at_split.ensures.bounds i key n number last bound handed.bounds choice (price_at s.prices) (price_at prices)
            (cause_at held s.causes) (cause_at held causes) s.keyed keyed was now w turned (tree held) (is.bounds held)
            (subst (λ (p : Prices). DecidesProved (child N choice First) p handed.bounds.0) (sym price) splits.on.first)
            (subst (λ (p : Prices). DecidesProved (child N choice Second) p handed.bounds.1) (sym price) splits.on.second);
        fitting = record {
          some = omega arith;
          numbers = subst (λ (ns : List Node). HaveNumbers (length prices) (length causes) ns) (sym turned.nodes)
              (x.numbers_stay.ensures.split (length prices) (length causes) n number last choice s.keyed.nodes
              (x.numbers_stay.ensures.more (length s.prices) last (length prices) (length causes) s.keyed.nodes at_least (omega arith) fit.numbers)
              fresh (omega arith));
          shapes = handed_shapes root s.prices prices (price_at s.prices own) handed.prices put.put fit.shapes
              (same_shape N root (prices_or (price_at s.prices own) handed.prices) same splits.on.shape);
          few = fit.few;
          room = omega arith;
          most_prices = omega arith;
          most_causes = omega arith;
        };
      },
      record {
        instance = refl;
        budget = refl;
        priced = λ old rest.
            let held = more ++ rest in
            let way = way_of s.keyed.nodes n in
            let has = x.run_leaves.ensures i s.budget s.left key n own bound (price_at s.prices) (cause_at held s.causes) s.plan s.keyed inst (is.run held) was w content_is in
            let the_split : Split = record { choice = choice; cause = cause_at held causes last } in
            let new : SearchTree = SplitNode the_split (LeafNode (OpenLeaf (price_at prices number))) (LeafNode (OpenLeaf (price_at prices number))) in
            let why_is = ap (λ (y : SplitCause). y.why) (cause held) in
            let valid : IsSplit (unassigned_count better) pivots more N (price_at s.prices own) (price_at prices number) the_split = record {
              valid = splits.valid;
              some = let one = splits.some in omega (arith, one, count);
              count = ap (λ (y : SplitCause). y.now) (cause held) ∙ count;
              found = splits.found;
              earned = subst (λ (y : Reason). IsEarned N (unassigned_count better) splits.found pivots more y) (sym why_is)
                  (subst (λ m. IsEarned N m splits.found pivots more (cause_of held why)) count
                  (earned_any N (now_after (unassigned_count s.plan) found) pivots splits.found more more held why splits.earned));
              on = subst (λ (p : Prices). IsHandedOn N (price_at s.prices own) splits.found p) (sym price) splits.on.on;
            } in
            let near = subst (λ (y : Reason). LooseProves N splits.found y) (sym why_is)
            (proves_grown N (now_after (unassigned_count s.plan) found) more rest why splits.found splits.shown splits.near) in
            let shows = x.loose_splits_stay_shown.ensures.new (unassigned_count better) pivots more N (price_at s.prices own) (price_at prices number) the_split valid has.node.limits near in
            let changed : IsSearchStep i way pivots columns more (state_of held s) (state_of held t) = record (step held) {
              new = new;
              becomes = Splits the_split (price_at prices number)
                  (subst (λ (m : Limits). IsSplit (unassigned_count better) pivots more m (prices_at (state_of held s).tree way) (price_at prices number) the_split) (sym has.limits)
                  (subst (λ (p : Prices). IsSplit (unassigned_count better) pivots more N p (price_at prices number) the_split) (sym has.prices) valid)) refl;
              tree = turned.tree (price_at prices) (cause_at held causes) ∙ ap (λ (u : SearchTree). replaced u way new) (tree held);
            } in
            let more_is : columns ++ (extends.added ++ rest) ≡ held = sym (append_assoc columns extends.added rest) ∙ ap (λ (xs : List Route). xs ++ rest) (sym extends.all) in
            x.loose_splits_stay_shown.ensures.step i way pivots columns more (state_of held s) (state_of held t) changed inst
            (subst (λ (m : Limits). IsLooseShown m new the_split.cause.why) (sym has.limits) shows, tt, tt)
            (subst (λ (cs : List Route). AreLooseShown root (state_of cs s).tree) more_is (old (extends.added ++ rest)));
        shown = shown_split s columns more N.instance N found extends plan key n own choice the_cause handed keyed prices causes put at here;
        step = λ held. subst (λ (y : List Side). IsSearchStep i y pivots columns more (state_of held s) (state_of held t)) (sym way) (step held);
        aged = λ held.
            let at_way = way_of s.keyed.nodes n in
            let has = x.run_leaves.ensures i s.budget s.left key n own bound (price_at s.prices) (cause_at held s.causes) s.plan s.keyed inst (is.run held) was w content_is in
            let the_split : Split = record { choice = choice; cause = cause_at held causes last } in
            let new : SearchTree = SplitNode the_split (LeafNode (OpenLeaf (price_at prices number))) (LeafNode (OpenLeaf (price_at prices number))) in
            let low : IsBoundIn (child (limits_at root (state_of held s).tree at_way) choice First) (price_at prices number) handed.bounds.0 =
            subst (λ (m : Limits). IsBoundIn (child m choice First) (price_at prices number) handed.bounds.0) (sym has.limits)
            (subst (λ (p : Prices). IsBoundIn (child N choice First) p handed.bounds.0) (sym price) splits.on.low) in
            let high : IsBoundIn (child (limits_at root (state_of held s).tree at_way) choice Second) (price_at prices number) handed.bounds.1 =
            subst (λ (m : Limits). IsBoundIn (child m choice Second) (price_at prices number) handed.bounds.1) (sym has.limits)
            (subst (λ (p : Prices). IsBoundIn (child N choice Second) p handed.bounds.1) (sym price) splits.on.high) in
            let tree_is = turned.tree (price_at prices) (cause_at held causes) ∙ ap (λ (u : SearchTree). replaced u at_way new) (tree held) in
            record {
              new = two_leaves (way_to s key) handed.bounds;
              come = subst (λ (y : List Side). ComeOf root y (state_of held s).tree (state_of held t).tree (two_leaves y handed.bounds)) (sym way)
                  (TwoLeaves the_split (price_at prices number) handed.bounds.0 handed.bounds.1 tree_is low high);
              leaves = subst (λ (y : List Side). leaves_of keyed ≡ leaves_without s.keyed key ++ two_leaves y handed.bounds) (sym way)
                  (x.leaves_keep_order.ensures.turned s.keyed keyed key n last number bound choice handed.bounds was w turned);
            };
        stay = λ other ne o.
            let v = turned.stays other o.0 o.1 ne o.2 in
            ((o.0, o.1, v), way_is t other o.0 o.1 v ∙ turned.ways o.0 (was.leaves other o.0 o.1 o.2).0 ∙ sym (way_is s other o.0 o.1 o.2));
        gone = λ o. elim (turned.before key o.0 o.1 o.2) [
          | Before apart same ↦ apart refl
          | IsFirst apart at value ↦ apart refl
          | IsSecond apart at value ↦ apart refl
        ];
      },
    )
