use Rattle.std.proofs.Common.{◌≡◌, ◌<◌, ◌∙◌, [], ℕ, List, length, map, refl, ap, sym, subst, arith, rules}
use Rattle.std.specs.Prelude.{All, ◌==◌}
use Rattle.branch_tree.specs.Entries.{EachSplitOf}
use Rattle.branch_tree.specs.Trees.{preorder}
use Rattle.crew_terms.specs.Leaf.{Prices}
use Rattle.crew_terms.specs.Limits.{root_limits}
use Rattle.crew_terms.specs.Plan.{unassigned_count}
use Rattle.search_tree.specs.Numbers.{HaveNumbers}
use Rattle.potentials.specs.Prices.{ArePricesOf}
use Rattle.search_core.specs.Kept.{searching}
use Rattle.search_core.specs.Ordered.{cause_with}
use Rattle.search_core.specs.Searching.{Searching, cause_at, price_at, split_cause, state_of}
use Rattle.search_core.specs.Shown.{AreShown, IsShownCause, numbered}
use Rattle.search_core.specs.Steps.{IsOutcome, IsShownOutcome}
use Rattle.search_core.specs.declared.causes.Cause.{Cause}
use Rattle.search_core.specs.declared.causes.Outcome.{Outcome}
use Rattle.search_terms.specs.Search.{IsBound, best}
use Rattle.search_tree.specs.Numbered.{tree_of}
use Rattle.search_core.specs.Outline.{handed_out, outline_with}
use Rattle.search_core.proofs.HandingOut.{causes_held, same_splits}
use Rattle.search_core.proofs.Showing.{shown_outline}
use Rattle.search_core.proofs.searches.Search.close.Goals as goal

pub outline_with-requires-clause-numbers : goal.outline_with-requires-clause-numbers
outline_with-requires-clause-numbers c =
    let a = c.self.inside in
    let same : c.deref.result.now ≡ a.prices.items = search rules in (
      length a.causes.items,
      subst (λ (ps : List Prices). HaveNumbers (length ps) (length a.causes.items) a.keyed.nodes) (sym same) c.self.invariant.search.fitting.numbers,
    )

pub outline_with-requires-clause-few : goal.outline_with-requires-clause-few
outline_with-requires-clause-few c = λ p d.
    let a = c.self.inside in
    let ns = a.keyed.nodes in
    let same = same_splits p (price_at a.prices.items) d (cause_at [] a.causes.items) (length ns) ns 0 in
    let count = c.run_keeps.ensures.count a.limits.limits.instance a.budget (state_of [] (searching a)) (c.self.invariant.search.run []) in
    let few = c.self.invariant.search.fitting.few in
    omega arith

pub in_order-requires : goal.in_order-requires
in_order-requires c =
    let a = c.self.inside in
    let same : c.deref.result.now ≡ a.prices.items = search rules in
    let numbers : c.deref-2.result.now ≡ c.in_ok-outline.outline.causes.items = search rules in
    let causes : c.deref-3.result.now ≡ a.causes.items = search rules in
    subst (λ (cs : List Cause). All (λ k. k < length cs) c.deref-2.result.now) (sym causes)
    (subst (λ (ks : List ℕ). All (λ k. k < length a.causes.items) ks) (sym numbers)
    (c.in_ok-outline.ensures.known (length a.causes.items)
    (subst (λ (ps : List Prices). HaveNumbers (length ps) (length a.causes.items) a.keyed.nodes) (sym same) c.self.invariant.search.fitting.numbers)))

pub returns-clause-outcome : goal.returns-clause-outcome
returns-clause-outcome c = λ columns.
    let a = c.self.inside in
    let o : Outcome = record { plan = a.plan; bound = c.bound-bound.result; tree = c.in_ok-outline.outline.tree; causes = c.in_ok-causes.causes } in
    let same : c.deref.result.now ≡ a.prices.items = search rules in
    let numbers : c.deref-2.result.now ≡ c.in_ok-outline.outline.causes.items = search rules in
    let causes : c.deref-3.result.now ≡ a.causes.items = search rules in
    let count : c.best-bare.result ≡ best (state_of columns (searching a)) =
    subst (λ (s : Searching). c.best-bare.result ≡ best (state_of columns s)) (sym c.self.view_is) (c.best-bare.ensures columns) in
    let f = cause_at columns a.causes.items in
    subst (λ (s : Searching). IsOutcome s.instance columns (state_of columns s) o) c.self.view_is (record {
      plan = refl;
      bound = subst (λ (s : Searching). IsBound s.instance (state_of columns s) c.bound-bound.result) (sym c.self.view_is) (c.bound-bound.ensures columns);
      tree = c.in_ok-outline.ensures.tree f
          ∙ ap (λ (ps : List Prices). preorder (outline_with (c.best-bare.result == 0) (tree_of (price_at ps) f a.keyed.nodes))) same
          ∙ ap (λ (n : ℕ). preorder (outline_with (n == 0) (tree_of (price_at a.prices.items) f a.keyed.nodes))) count;
      prices = c.in_ok-outline.ensures.prices (root_limits a.limits.limits.instance)
          (subst (λ (ps : List Prices). All (ArePricesOf (root_limits a.limits.limits.instance)) ps) (sym same) c.self.invariant.search.fitting.shapes);
      causes = ap (λ (cs : List Cause). map (split_cause columns) cs) (c.in_ok-causes.ensures
          ∙ ap (λ (cs : List Cause). map (cause_with cs) c.deref-2.result.now) causes
          ∙ ap (λ (ks : List ℕ). map (cause_with a.causes.items) ks) numbers)
          ∙ causes_held columns a.causes.items c.in_ok-outline.outline.causes.items
          ∙ c.in_ok-outline.ensures.causes (price_at a.prices.items) f;
    })

pub returns-clause-shown : goal.returns-clause-shown
returns-clause-shown c = λ columns shown.
    let a = c.self.inside in
    let root = root_limits a.limits.limits.instance in
    let o : Outcome = record { plan = a.plan; bound = c.bound-bound.result; tree = c.in_ok-outline.outline.tree; causes = c.in_ok-causes.causes } in
    let numbers : c.deref-2.result.now ≡ c.in_ok-outline.outline.causes.items = search rules in
    let causes : c.deref-3.result.now ≡ a.causes.items = search rules in
    let ks = c.in_ok-outline.outline.causes.items in
    let p = price_at a.prices.items in
    let kept : AreShown columns (searching a) = subst (AreShown columns) (sym c.self.view_is) shown in
    let items : c.in_ok-causes.causes.items ≡ map (cause_with a.causes.items) ks =
    c.in_ok-causes.ensures
    ∙ ap (λ (cs : List Cause). map (cause_with cs) c.deref-2.result.now) causes
    ∙ ap (λ (ks : List ℕ). map (cause_with a.causes.items) ks) numbers in
    let each = shown_outline columns (unassigned_count a.plan) root a.keyed.nodes p (cause_at columns a.causes.items)
    (best (state_of columns (searching a)) == 0) a.causes.items ks (c.in_ok-outline.ensures.causes p numbered) (kept p) in
    subst (λ (s : Searching). IsShownOutcome s.instance columns (state_of columns s) o) c.self.view_is
    (subst (λ (cs : List Cause). EachSplitOf (IsShownCause columns (unassigned_count a.plan)) root (handed_out (state_of columns (searching a))) cs) (sym items) each)
