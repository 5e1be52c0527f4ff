use Rattle.std.proofs.Common.{◌≡◌, ◌≤◌, ◌<◌, ◌∙◌, ◌-◌, [], ℕ, ℤ, List, ap, refl, sym, subst, rules}
use Rattle.std.specs.Int.{w128}
use Rattle.std.specs.Prelude.{FitsSigned}
use Rattle.std.proofs.lemmas.Int.{to_z-of_z}
use Rattle.std.proofs.lemmas.List.{get_or_default}
use Rattle.crew_terms.specs.Leaf.{IsOnRequired, Prices}
use Rattle.crew_terms.specs.Limits.{Limits, Route, root_limits, tasks_in}
use Rattle.crew_terms.specs.Plan.{unassigned_count}
use Rattle.crew_terms.specs.declared.Choice.{Choice}
use Rattle.search_core.specs.declared.handing.Handed.{Handed}
use Rattle.search_tree.specs.States.{DecidesProved, HasLeaf, limits_of}
use Rattle.search_tree.specs.Keyed.{IsWaiting, Keyed}
use Rattle.node_solver.specs.Plans.{now_after}
use Rattle.node_solver.specs.declared.step.Why.{Why}
use Rattle.potentials.specs.Prices.{ArePricesOf}
use Rattle.search_core.specs.Findings.{IsClosing, IsEnding, IsFinding, IsHandedSplit}
use Rattle.search_core.specs.Kept.{IsKeptSearch, searching}
use Rattle.search_core.specs.Searching.{Searching, cause_at, limits_of_key, price_at, state_of}
use Rattle.search_core.specs.Settled.{IsPut, IsPutClosed, IsPutSplit}
use Rattle.search_core.specs.Steps.{IsKeyStep, after_step}
use Rattle.search_core.specs.declared.causes.Cause.{Cause}
use Rattle.search_core.specs.declared.finding.Ending.{Ending}
use Rattle.search_core.specs.declared.finding.Ending.TheVariants.{Closed, Split}
use Rattle.search_core.specs.declared.finding.Finding.{Finding}
use Rattle.search_core.specs.declared.searches.Search.TheInside.{Inside}
use Rattle.search_terms.specs.Inside.{IsNode}
use Rattle.search_terms.specs.Search.{Extends}
use Rattle.search_terms.specs.Ways.{limits_at}
use Rattle.search_tree.specs.Numbered.{tree_of}
use Rattle.node_limits.specs.Walks.{limits_after}
use Rattle.search_core.proofs.Keeping.{kept_with, same_search, search_of}
use Rattle.search_core.proofs.Sites.{IsSite, own_known, site, site_limits, site_turns}
use Rattle.search_core.proofs.StepLemmas.{way_is}
use Rattle.search_core.proofs.searches.Search.step_with.Goals as goal

-- the limits of the node of a key
key_limits : (a : Inside) (s : Searching) (key n own : ℕ) (bound : ℤ) → searching a ≡ s → IsWaiting a.keyed key n bound
    → HasLeaf a.limits.limits.instance (price_at a.prices.items) (cause_at [] a.causes.items) a.keyed n own
    → limits_of_key [] s key ≡ limits_of a.limits.limits.instance a.keyed n
key_limits a s key n own bound same w leaf =
    ap (λ (x : Searching). limits_of_key [] x key) (sym same)
    ∙ ap (λ y. limits_at (root_limits a.limits.limits.instance) (tree_of (price_at a.prices.items) (cause_at [] a.causes.items) a.keyed.nodes) y)
    (way_is (searching a) key n bound w)
    ∙ leaf.limits

-- what was found, said of the search's own words
found_at : (n m : Limits) (best count pivots most : ℕ) (columns more : List Route) (p q : Prices) (f : Finding) → n ≡ m → best ≡ count → pivots ≡ most
    → p ≡ q → IsFinding n best pivots columns more p f → IsFinding m count most columns more q f
found_at n m best count pivots most columns more p q f a b d e h =
    subst (λ (x : Limits). IsFinding x count most columns more q f) a
    (subst (λ x. IsFinding n x most columns more q f) b
    (subst (λ x. IsFinding n best x columns more q f) d
    (subst (λ (x : Prices). IsFinding n best pivots columns more x f) e h)))

-- the two ways in which a node ends
either : (n : Limits) (now pivots : ℕ) (more : List Route) (own : Prices) (old new : Keyed) (prices after : List Prices) (causes also : List Cause)
    (key m o : ℕ) (P : Type 0) (e : Ending) → IsEnding n now pivots more own e → IsPut old new prices after causes also key m o now e
    → ((kept : Prices) → IsClosing n now kept → IsPutClosed old new prices after key m kept → also ≡ causes → P)
    → ((choice : Choice) (why : Why) (handed : Handed) → IsHandedSplit n now pivots more own choice why handed
    → IsPutSplit old new prices after causes also key m o choice (record { now = now; why = why }) handed → P) → P
either n now pivots more own old new prices after causes also key m o P (Closed kept) ending put closes splits = closes kept ending put.0 put.1
either n now pivots more own old new prices after causes also key m o P (Split choice why handed) ending put closes splits =
    splits choice why handed ending put

pub explore-requires-clause-can : goal.explore-requires-clause-can
explore-requires-clause-can g c =
    let a = c.self.inside in
    let leaf = c.leaf-leaf.result in
    let turns = c.deref.ensures.value ∙ c.in_ok-turns.ensures in
    let has = c.run_leaves.ensures a.limits.limits.instance a.budget a.left c.args.key leaf.node leaf.prices leaf.bound (price_at a.prices.items)
    (cause_at [] a.causes.items) a.plan a.keyed c.instance.ensures.is_instance (c.self.invariant.search.run []) c.leaf-leaf.ensures.keyed
    c.leaf-leaf.ensures.waits c.leaf-leaf.ensures.prices in
    site_turns a leaf.node leaf.prices c.deref.result.now c.self.invariant turns has

pub explore-requires-clause-node : goal.explore-requires-clause-node
explore-requires-clause-node g c =
    let a = c.self.inside in
    let leaf = c.leaf-leaf.result in
    let turns = c.deref.ensures.value ∙ c.in_ok-turns.ensures in
    let has = c.run_leaves.ensures a.limits.limits.instance a.budget a.left c.args.key leaf.node leaf.prices leaf.bound (price_at a.prices.items)
    (cause_at [] a.causes.items) a.plan a.keyed c.instance.ensures.is_instance (c.self.invariant.search.run []) c.leaf-leaf.ensures.keyed
    c.leaf-leaf.ensures.waits c.leaf-leaf.ensures.prices in
    subst IsNode (sym (site_limits a leaf.node c.deref.result.now c.self.invariant turns)) has.node

pub explore-requires-clause-own : goal.explore-requires-clause-own
explore-requires-clause-own g c =
    let a = c.self.inside in
    let i = a.limits.limits.instance in
    let leaf = c.leaf-leaf.result in
    let turns = c.deref.ensures.value ∙ c.in_ok-turns.ensures in
    let has = c.run_leaves.ensures i a.budget a.left c.args.key leaf.node leaf.prices leaf.bound (price_at a.prices.items)
    (cause_at [] a.causes.items) a.plan a.keyed c.instance.ensures.is_instance (c.self.invariant.search.run []) c.leaf-leaf.ensures.keyed
    c.leaf-leaf.ensures.waits c.leaf-leaf.ensures.prices in
    let known = own_known a leaf.node leaf.prices c.self.invariant c.leaf-leaf.ensures.prices in
    let keepable = c.run_keeps.ensures.plan i a.budget (state_of [] (searching a)) (c.self.invariant.search.run []) in
    let price = c.index-own.result.now in
    let here : IsSite (limits_of i a.keyed leaf.node) price leaf.bound (unassigned_count a.plan) =
    site a c.args.key leaf.node leaf.prices leaf.bound price c.self.invariant c.leaf-leaf.ensures.waits has known c.index-own.ensures keepable in
    let at = site_limits a leaf.node c.deref.result.now c.self.invariant turns in
    subst (λ (n : Limits). ArePricesOf n price) (sym at) here.shape

pub explore-requires-clause-required : goal.explore-requires-clause-required
explore-requires-clause-required g c =
    let a = c.self.inside in
    let i = a.limits.limits.instance in
    let leaf = c.leaf-leaf.result in
    let turns = c.deref.ensures.value ∙ c.in_ok-turns.ensures in
    let has = c.run_leaves.ensures i a.budget a.left c.args.key leaf.node leaf.prices leaf.bound (price_at a.prices.items)
    (cause_at [] a.causes.items) a.plan a.keyed c.instance.ensures.is_instance (c.self.invariant.search.run []) c.leaf-leaf.ensures.keyed
    c.leaf-leaf.ensures.waits c.leaf-leaf.ensures.prices in
    let known = own_known a leaf.node leaf.prices c.self.invariant c.leaf-leaf.ensures.prices in
    let keepable = c.run_keeps.ensures.plan i a.budget (state_of [] (searching a)) (c.self.invariant.search.run []) in
    let price = c.index-own.result.now in
    let here : IsSite (limits_of i a.keyed leaf.node) price leaf.bound (unassigned_count a.plan) =
    site a c.args.key leaf.node leaf.prices leaf.bound price c.self.invariant c.leaf-leaf.ensures.waits has known c.index-own.ensures keepable in
    let at = site_limits a leaf.node c.deref.result.now c.self.invariant turns in
    subst (λ (n : Limits). IsOnRequired n price) (sym at) here.required

pub explore-requires-clause-bound : goal.explore-requires-clause-bound
explore-requires-clause-bound g c =
    let a = c.self.inside in
    let i = a.limits.limits.instance in
    let leaf = c.leaf-leaf.result in
    let turns = c.deref.ensures.value ∙ c.in_ok-turns.ensures in
    let has = c.run_leaves.ensures i a.budget a.left c.args.key leaf.node leaf.prices leaf.bound (price_at a.prices.items)
    (cause_at [] a.causes.items) a.plan a.keyed c.instance.ensures.is_instance (c.self.invariant.search.run []) c.leaf-leaf.ensures.keyed
    c.leaf-leaf.ensures.waits c.leaf-leaf.ensures.prices in
    let known = own_known a leaf.node leaf.prices c.self.invariant c.leaf-leaf.ensures.prices in
    let keepable = c.run_keeps.ensures.plan i a.budget (state_of [] (searching a)) (c.self.invariant.search.run []) in
    let price = c.index-own.result.now in
    let here : IsSite (limits_of i a.keyed leaf.node) price leaf.bound (unassigned_count a.plan) =
    site a c.args.key leaf.node leaf.prices leaf.bound price c.self.invariant c.leaf-leaf.ensures.waits has known c.index-own.ensures keepable in
    let at = site_limits a leaf.node c.deref.result.now c.self.invariant turns in
    let range : FitsSigned w128 leaf.bound = search rules in
    subst (λ (z : ℤ). DecidesProved (limits_after a.limits.limits c.deref.result.now) price z) (sym (to_z-of_z w128 leaf.bound range))
    (subst (λ (n : Limits). DecidesProved n price leaf.bound) (sym at) here.decides)

pub explore-requires-clause-best : goal.explore-requires-clause-best
explore-requires-clause-best g c =
    let a = c.self.inside in
    let i = a.limits.limits.instance in
    let leaf = c.leaf-leaf.result in
    let turns = c.deref.ensures.value ∙ c.in_ok-turns.ensures in
    let has = c.run_leaves.ensures i a.budget a.left c.args.key leaf.node leaf.prices leaf.bound (price_at a.prices.items)
    (cause_at [] a.causes.items) a.plan a.keyed c.instance.ensures.is_instance (c.self.invariant.search.run []) c.leaf-leaf.ensures.keyed
    c.leaf-leaf.ensures.waits c.leaf-leaf.ensures.prices in
    let known = own_known a leaf.node leaf.prices c.self.invariant c.leaf-leaf.ensures.prices in
    let keepable = c.run_keeps.ensures.plan i a.budget (state_of [] (searching a)) (c.self.invariant.search.run []) in
    let price = c.index-own.result.now in
    let here : IsSite (limits_of i a.keyed leaf.node) price leaf.bound (unassigned_count a.plan) =
    site a c.args.key leaf.node leaf.prices leaf.bound price c.self.invariant c.leaf-leaf.ensures.waits has known c.index-own.ensures keepable in
    let at = site_limits a leaf.node c.deref.result.now c.self.invariant turns in
    subst (λ (n : Limits). unassigned_count a.plan ≤ tasks_in n) (sym at) here.few

pub returns-in_err-plan-clause-columns : goal.returns-in_err-plan-clause-columns
returns-in_err-plan-clause-columns g c =
    let a = c.self.inside in
    let i = a.limits.limits.instance in
    let leaf = c.leaf-leaf.result in
    let turns = c.deref.ensures.value ∙ c.in_ok-turns.ensures in
    let has = c.run_leaves.ensures i a.budget a.left c.args.key leaf.node leaf.prices leaf.bound (price_at a.prices.items)
    (cause_at [] a.causes.items) a.plan a.keyed c.instance.ensures.is_instance (c.self.invariant.search.run []) c.leaf-leaf.ensures.keyed
    c.leaf-leaf.ensures.waits c.leaf-leaf.ensures.prices in
    let known = own_known a leaf.node leaf.prices c.self.invariant c.leaf-leaf.ensures.prices in
    let keepable = c.run_keeps.ensures.plan i a.budget (state_of [] (searching a)) (c.self.invariant.search.run []) in
    let price = c.index-own.result.now in
    let here : IsSite (limits_of i a.keyed leaf.node) price leaf.bound (unassigned_count a.plan) =
    site a c.args.key leaf.node leaf.prices leaf.bound price c.self.invariant c.leaf-leaf.ensures.waits has known c.index-own.ensures keepable in
    let at = site_limits a leaf.node c.deref.result.now c.self.invariant turns in
    subst (λ (n : Limits). Extends n (g.C.Columns.columns c.args.columns.now) (g.C.Columns.columns c.explore.new.columns))
    (at ∙ sym (key_limits a c.args.self.now c.args.key leaf.node leaf.prices leaf.bound c.self.view_is c.leaf-leaf.ensures.waits has)) c.explore.ensures.extends

pub returns-in_err-put_ending-clause-columns : goal.returns-in_err-put_ending-clause-columns
returns-in_err-put_ending-clause-columns g c =
    let a = c.self.inside in
    let i = a.limits.limits.instance in
    let leaf = c.leaf-leaf.result in
    let turns = c.deref.ensures.value ∙ c.in_ok-turns.ensures in
    let has = c.run_leaves.ensures i a.budget a.left c.args.key leaf.node leaf.prices leaf.bound (price_at a.prices.items)
    (cause_at [] a.causes.items) a.plan a.keyed c.instance.ensures.is_instance (c.self.invariant.search.run []) c.leaf-leaf.ensures.keyed
    c.leaf-leaf.ensures.waits c.leaf-leaf.ensures.prices in
    let known = own_known a leaf.node leaf.prices c.self.invariant c.leaf-leaf.ensures.prices in
    let keepable = c.run_keeps.ensures.plan i a.budget (state_of [] (searching a)) (c.self.invariant.search.run []) in
    let price = c.index-own.result.now in
    let here : IsSite (limits_of i a.keyed leaf.node) price leaf.bound (unassigned_count a.plan) =
    site a c.args.key leaf.node leaf.prices leaf.bound price c.self.invariant c.leaf-leaf.ensures.waits has known c.index-own.ensures keepable in
    let at = site_limits a leaf.node c.deref.result.now c.self.invariant turns in
    subst (λ (n : Limits). Extends n (g.C.Columns.columns c.args.columns.now) (g.C.Columns.columns c.explore.new.columns))
    (at ∙ sym (key_limits a c.args.self.now c.args.key leaf.node leaf.prices leaf.bound c.self.view_is c.leaf-leaf.ensures.waits has)) c.explore.ensures.extends

pub returns-clause-columns : goal.returns-clause-columns
returns-clause-columns g c =
    let a = c.self.inside in
    let i = a.limits.limits.instance in
    let leaf = c.leaf-leaf.result in
    let turns = c.deref.ensures.value ∙ c.in_ok-turns.ensures in
    let has = c.run_leaves.ensures i a.budget a.left c.args.key leaf.node leaf.prices leaf.bound (price_at a.prices.items)
    (cause_at [] a.causes.items) a.plan a.keyed c.instance.ensures.is_instance (c.self.invariant.search.run []) c.leaf-leaf.ensures.keyed
    c.leaf-leaf.ensures.waits c.leaf-leaf.ensures.prices in
    let known = own_known a leaf.node leaf.prices c.self.invariant c.leaf-leaf.ensures.prices in
    let keepable = c.run_keeps.ensures.plan i a.budget (state_of [] (searching a)) (c.self.invariant.search.run []) in
    let price = c.index-own.result.now in
    let here : IsSite (limits_of i a.keyed leaf.node) price leaf.bound (unassigned_count a.plan) =
    site a c.args.key leaf.node leaf.prices leaf.bound price c.self.invariant c.leaf-leaf.ensures.waits has known c.index-own.ensures keepable in
    let at = site_limits a leaf.node c.deref.result.now c.self.invariant turns in
    subst (λ (n : Limits). Extends n (g.C.Columns.columns c.args.columns.now) (g.C.Columns.columns c.explore.new.columns))
    (at ∙ sym (key_limits a c.args.self.now c.args.key leaf.node leaf.prices leaf.bound c.self.view_is c.leaf-leaf.ensures.waits has)) c.explore.ensures.extends

pub invariant_of-self-2 : goal.invariant_of-self-2
invariant_of-self-2 g c =
    let a = c.self.inside in
    let i = a.limits.limits.instance in
    let leaf = c.leaf-leaf.result in
    let turns = c.deref.ensures.value ∙ c.in_ok-turns.ensures in
    let has = c.run_leaves.ensures i a.budget a.left c.args.key leaf.node leaf.prices leaf.bound (price_at a.prices.items)
    (cause_at [] a.causes.items) a.plan a.keyed c.instance.ensures.is_instance (c.self.invariant.search.run []) c.leaf-leaf.ensures.keyed
    c.leaf-leaf.ensures.waits c.leaf-leaf.ensures.prices in
    let known = own_known a leaf.node leaf.prices c.self.invariant c.leaf-leaf.ensures.prices in
    let keepable = c.run_keeps.ensures.plan i a.budget (state_of [] (searching a)) (c.self.invariant.search.run []) in
    let price = c.index-own.result.now in
    let here : IsSite (limits_of i a.keyed leaf.node) price leaf.bound (unassigned_count a.plan) =
    site a c.args.key leaf.node leaf.prices leaf.bound price c.self.invariant c.leaf-leaf.ensures.waits has known c.index-own.ensures keepable in
    let at = site_limits a leaf.node c.deref.result.now c.self.invariant turns in
    let s : Searching = searching a in
    let found = c.in_ok-plan.field-0.plan in
    let columns = g.C.Columns.columns c.args.columns.now in
    let more = g.C.Columns.columns c.explore.new.columns in
    let own : price ≡ price_at a.prices.items leaf.prices =
    c.index-own.ensures ∙ get_or_default a.prices.items leaf.prices price (record { pi = []; rho = [] }) known in
    let finding : IsFinding (limits_of i a.keyed leaf.node) (unassigned_count a.plan) c.args.pivots columns more (price_at a.prices.items leaf.prices) c.in_ok-plan.field-0 =
    found_at (limits_after a.limits.limits c.deref.result.now) (limits_of i a.keyed leaf.node) (unassigned_count a.plan) (unassigned_count a.plan)
    c.at-effort.result.pivots c.args.pivots columns more price (price_at a.prices.items leaf.prices) c.in_ok-plan.field-0 at refl
    c.at-effort.ensures own c.in_ok-plan.ensures.found in
    let now = now_after (unassigned_count a.plan) found in
    let count : c.count_after-now.result ≡ now = c.count_after-now.ensures ∙ ap (λ b. now_after b found) c.unassigned-best.ensures in
    let keyed = c.put_ending.new.keyed in
    let prices = c.put_ending.new.prices.items in
    let causes = c.put_ending.new.causes.items in
    let put : IsPut a.keyed keyed a.prices.items prices a.causes.items causes c.args.key leaf.node leaf.prices now c.in_ok-plan.field-0.ending =
    subst (λ m. IsPut a.keyed keyed a.prices.items prices a.causes.items causes c.args.key leaf.node leaf.prices m c.in_ok-plan.field-0.ending) count
    (c.in_ok-put_ending.ensures.put leaf.node leaf.bound c.leaf-leaf.ensures.waits) in
    let left : 0 < a.left = rw (ap (λ (x : Searching). x.left) (sym c.self.view_is)) at c.requires.left in
    let t : Searching = after_step s found keyed prices causes in
    let step : IsKeptSearch t × IsKeyStep c.args.key c.args.pivots columns more s t =
    either (limits_of i a.keyed leaf.node) now c.args.pivots more (price_at a.prices.items leaf.prices) a.keyed keyed a.prices.items prices a.causes.items causes
    c.args.key leaf.node leaf.prices (IsKeptSearch t × IsKeyStep c.args.key c.args.pivots columns more s t) c.in_ok-plan.field-0.ending finding.ending put
    (λ kept closing closed same. subst (λ (cs : List Cause). IsKeptSearch (after_step s found keyed prices cs)
    × IsKeyStep c.args.key c.args.pivots columns more s (after_step s found keyed prices cs)) (sym same)
    (c.closings_are_steps.ensures s c.args.key leaf.node leaf.prices c.args.pivots leaf.bound columns more found kept keyed prices
    c.instance.ensures.is_instance c.self.invariant.search left c.leaf-leaf.ensures.keyed c.in_ok-put_ending.ensures.keyed c.leaf-leaf.ensures.waits
    finding.extends finding.plan closing closed))
    (λ choice why handed split is_put. c.splits_are_steps.ensures s c.args.key leaf.node leaf.prices c.args.pivots leaf.bound columns more found choice why handed
    keyed prices causes c.instance.ensures.is_instance c.self.invariant.search left c.leaf-leaf.ensures.keyed c.in_ok-put_ending.ensures.keyed
    c.leaf-leaf.ensures.waits c.leaf-leaf.ensures.prices finding.extends finding.plan split is_put) in
    let same = same_search c.explore.new.limits.limits.instance i a.budget c.keep_plan.new.plan _ _ (a.left - 1) keyed keyed prices prices causes causes
    (ap (λ (n : Limits). n.instance) c.explore.ensures.back.limits) c.keep_plan.ensures refl refl refl refl in
    kept_with a _ c.self.invariant c.explore.ensures.back c.explore.ensures.room (subst IsKeptSearch (sym same) step.0)

pub returns-clause-ok : goal.returns-clause-ok
returns-clause-ok g c =
    let a = c.self.inside in
    let i = a.limits.limits.instance in
    let leaf = c.leaf-leaf.result in
    let turns = c.deref.ensures.value ∙ c.in_ok-turns.ensures in
    let has = c.run_leaves.ensures i a.budget a.left c.args.key leaf.node leaf.prices leaf.bound (price_at a.prices.items)
    (cause_at [] a.causes.items) a.plan a.keyed c.instance.ensures.is_instance (c.self.invariant.search.run []) c.leaf-leaf.ensures.keyed
    c.leaf-leaf.ensures.waits c.leaf-leaf.ensures.prices in
    let known = own_known a leaf.node leaf.prices c.self.invariant c.leaf-leaf.ensures.prices in
    let keepable = c.run_keeps.ensures.plan i a.budget (state_of [] (searching a)) (c.self.invariant.search.run []) in
    let price = c.index-own.result.now in
    let here : IsSite (limits_of i a.keyed leaf.node) price leaf.bound (unassigned_count a.plan) =
    site a c.args.key leaf.node leaf.prices leaf.bound price c.self.invariant c.leaf-leaf.ensures.waits has known c.index-own.ensures keepable in
    let at = site_limits a leaf.node c.deref.result.now c.self.invariant turns in
    let s : Searching = searching a in
    let found = c.in_ok-plan.field-0.plan in
    let columns = g.C.Columns.columns c.args.columns.now in
    let more = g.C.Columns.columns c.explore.new.columns in
    let own : price ≡ price_at a.prices.items leaf.prices =
    c.index-own.ensures ∙ get_or_default a.prices.items leaf.prices price (record { pi = []; rho = [] }) known in
    let finding : IsFinding (limits_of i a.keyed leaf.node) (unassigned_count a.plan) c.args.pivots columns more (price_at a.prices.items leaf.prices) c.in_ok-plan.field-0 =
    found_at (limits_after a.limits.limits c.deref.result.now) (limits_of i a.keyed leaf.node) (unassigned_count a.plan) (unassigned_count a.plan)
    c.at-effort.result.pivots c.args.pivots columns more price (price_at a.prices.items leaf.prices) c.in_ok-plan.field-0 at refl
    c.at-effort.ensures own c.in_ok-plan.ensures.found in
    let now = now_after (unassigned_count a.plan) found in
    let count : c.count_after-now.result ≡ now = c.count_after-now.ensures ∙ ap (λ b. now_after b found) c.unassigned-best.ensures in
    let keyed = c.put_ending.new.keyed in
    let prices = c.put_ending.new.prices.items in
    let causes = c.put_ending.new.causes.items in
    let put : IsPut a.keyed keyed a.prices.items prices a.causes.items causes c.args.key leaf.node leaf.prices now c.in_ok-plan.field-0.ending =
    subst (λ m. IsPut a.keyed keyed a.prices.items prices a.causes.items causes c.args.key leaf.node leaf.prices m c.in_ok-plan.field-0.ending) count
    (c.in_ok-put_ending.ensures.put leaf.node leaf.bound c.leaf-leaf.ensures.waits) in
    let left : 0 < a.left = rw (ap (λ (x : Searching). x.left) (sym c.self.view_is)) at c.requires.left in
    let t : Searching = after_step s found keyed prices causes in
    let step : IsKeptSearch t × IsKeyStep c.args.key c.args.pivots columns more s t =
    either (limits_of i a.keyed leaf.node) now c.args.pivots more (price_at a.prices.items leaf.prices) a.keyed keyed a.prices.items prices a.causes.items causes
    c.args.key leaf.node leaf.prices (IsKeptSearch t × IsKeyStep c.args.key c.args.pivots columns more s t) c.in_ok-plan.field-0.ending finding.ending put
    (λ kept closing closed same. subst (λ (cs : List Cause). IsKeptSearch (after_step s found keyed prices cs)
    × IsKeyStep c.args.key c.args.pivots columns more s (after_step s found keyed prices cs)) (sym same)
    (c.closings_are_steps.ensures s c.args.key leaf.node leaf.prices c.args.pivots leaf.bound columns more found kept keyed prices
    c.instance.ensures.is_instance c.self.invariant.search left c.leaf-leaf.ensures.keyed c.in_ok-put_ending.ensures.keyed c.leaf-leaf.ensures.waits
    finding.extends finding.plan closing closed))
    (λ choice why handed split is_put. c.splits_are_steps.ensures s c.args.key leaf.node leaf.prices c.args.pivots leaf.bound columns more found choice why handed
    keyed prices causes c.instance.ensures.is_instance c.self.invariant.search left c.leaf-leaf.ensures.keyed c.in_ok-put_ending.ensures.keyed
    c.leaf-leaf.ensures.waits c.leaf-leaf.ensures.prices finding.extends finding.plan split is_put) in
    let same = same_search c.explore.new.limits.limits.instance i a.budget c.keep_plan.new.plan _ _ (a.left - 1) keyed keyed prices prices causes causes
    (ap (λ (n : Limits). n.instance) c.explore.ensures.back.limits) c.keep_plan.ensures refl refl refl refl in
    let after : Searching =
    search_of c.explore.new.limits.limits.instance a.budget c.keep_plan.new.plan (a.left - 1) keyed prices causes in
    subst (λ (x : Searching). IsKeyStep c.args.key c.args.pivots columns more x after) c.self.view_is
    (subst (λ (x : Searching). IsKeyStep c.args.key c.args.pivots columns more s x) (sym same) step.1)
