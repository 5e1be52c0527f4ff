use Rattle.std.proofs.Common.{◌≤◌, ℕ, ℤ, zero, suc, sym, subst, arith, rules}
use Rattle.std.specs.Int.{w128}
use Rattle.std.specs.Prelude.{FitsSigned}
use Rattle.std.proofs.lemmas.Int.{ints, to_z-of_z}
use Rattle.crew_terms.specs.Leaf.{Proves}
use Rattle.search_tree.specs.States.{IsLeastCount}
use Rattle.search_core.specs.Counts.{few_unassigned}
use Rattle.search_core.specs.Kept.{searching}
use Rattle.search_core.specs.Searching.{Searching, cause_at, price_at, state_of}
use Rattle.search_terms.specs.Search.{IsBound}
use Rattle.search_core.proofs.searches.Search.bound.Goals as goal

-- less is proved too
less_proves : (b : ℤ) (l m : ℕ) → l ≤ m → Proves b m → Proves b l
less_proves b zero m le p = tt
less_proves b (suc l) zero le p = absurd (omega arith)
less_proves b (suc l) (suc m) le p = omega (arith, ints)

pub returns-in-Some : goal.returns-in-Some
returns-in-Some c = λ columns.
    let a = c.self.inside in
    let i = a.limits.limits.instance in
    let b = c.leaf.result.bound in
    let range : FitsSigned w128 b = search rules in
    let same = to_z-of_z w128 b range in
    let best = c.unassigned-best.ensures in
    let least = c.min.ensures in
    let few = few_unassigned i a.plan (c.run_keeps.ensures.plan i a.budget (state_of columns (searching a)) (c.self.invariant.search.run columns)) in
    let most = c.most_proved.ensures.most in
    let count : IsLeastCount i a.plan b c.min.result = record {
      most = omega arith;
      known = few;
      proves = less_proves b c.min.result c.most_proved.result (omega arith) (subst (λ (z : ℤ). Proves z c.most_proved.result) same c.most_proved.ensures.proves);
      greatest = λ l le p.
          let g = c.most_proved.ensures.greatest l (omega arith) (subst (λ (z : ℤ). Proves z l) (sym same) p) in
          omega arith;
    } in
    subst (λ (s : Searching). IsBound s.instance (state_of columns s) c.min.result) c.self.view_is
    (c.least_bounds.ensures.some i a.left c.in-Some.key c.leaf.result.node c.min.result b (price_at a.prices.items) (cause_at columns a.causes.items)
    a.plan a.keyed c.leaf.ensures.keyed (c.self.invariant.search.bounds columns) c.in-Some.ensures.least c.leaf.ensures.waits count)

pub returns-in-None : goal.returns-in-None
returns-in-None c = λ columns.
    let a = c.self.inside in
    let i = a.limits.limits.instance in
    subst (λ (s : Searching). IsBound s.instance (state_of columns s) c.unassigned-best.result) c.self.view_is
    (subst (λ (b : ℕ). IsBound i (state_of columns (searching a)) b) (sym c.unassigned-best.ensures)
    (c.least_bounds.ensures.none i a.left (price_at a.prices.items) (cause_at columns a.causes.items) a.plan a.keyed c.len.ensures.keyed
    c.in-None.ensures.none))
