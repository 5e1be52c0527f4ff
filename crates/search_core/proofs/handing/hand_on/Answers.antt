use Rattle.std.proofs.Common.{◌≡◌, ◌≤◌, ℤ, refl, sym, subst, arith}
use Rattle.std.specs.Int.{w128}
use mir.Val.{of_z, to_z}
use Rattle.std.proofs.lemmas.Int.{to_z-of_z}
use Rattle.crew_terms.specs.Leaf.{Prices, Proves}
use Rattle.crew_terms.specs.Tree.{child}
use Rattle.crew_terms.specs.declared.Side.TheVariants.{First, Second}
use Rattle.search_tree.specs.States.{DecidesProved}
use Rattle.potentials.specs.Prices.{ArePricesOf}
use Rattle.search_terms.specs.BestFirst.{IsBoundIn}
use Rattle.search_terms.specs.Search.{Found, Own}
use Rattle.search_core.proofs.Turning.{as_much}
use Rattle.search_core.proofs.handing.hand_on.Goals as goal

pub returns-then-proved-most_proved-clause-handed : goal.returns-then-proved-most_proved-clause-handed
returns-then-proved-most_proved-clause-handed c =
    let n = c.args.limits.now.limits in
    let found = c.args.found.now in
    let kept : c.in_ok-kept.kept ≡ found = c.in_ok-kept.ensures in
    let same : to_z w128 (of_z w128 c.args.bound) ≡ c.args.bound = to_z-of_z w128 c.args.bound c.ranges.bound in
    let le : c.most_proved.result ≤ c.proved.result.count = c.if-proved-most_proved.true in
    record {
      on = Found (as_much n c.args.own.now found c.args.bound c.proved.result.count c.most_proved.result c.requires.bound c.proved.ensures.count
          (λ l k p. c.most_proved.ensures.greatest l k (subst (λ (z : ℤ). Proves z l) (sym same) p)) le (λ m l. c.less_is_proved.ensures n found l m)) kept;
      shape = subst (λ (p : Prices). ArePricesOf n p) (sym kept) c.requires.found;
      low = subst (λ (p : Prices). IsBoundIn (child n c.args.choice First) p c.child_bounds-bounds.result.0) (sym kept)
          c.child_bounds-bounds.ensures.low;
      high = subst (λ (p : Prices). IsBoundIn (child n c.args.choice Second) p c.child_bounds-bounds.result.1) (sym kept)
          c.child_bounds-bounds.ensures.high;
      first = subst (λ (p : Prices). DecidesProved (child n c.args.choice First) p c.child_bounds-bounds.result.0) (sym kept)
          c.child_bounds-bounds.ensures.first;
      second = subst (λ (p : Prices). DecidesProved (child n c.args.choice Second) p c.child_bounds-bounds.result.1) (sym kept)
          c.child_bounds-bounds.ensures.second;
    }

pub returns-clause-handed : goal.returns-clause-handed
returns-clause-handed c =
    let n = c.args.limits.now.limits in
    let o = c.most_proved.result in
    let kept : c.in_ok-prices.prices ≡ c.args.own.now = c.in_ok-prices.ensures in
    let same : to_z w128 (of_z w128 c.args.bound) ≡ c.args.bound = to_z-of_z w128 c.args.bound c.ranges.bound in
    let less = c.if-proved-most_proved.false in
    record {
      on = Own o c.most_proved.ensures.most ((c.requires.bound o c.most_proved.ensures.most).1 (subst (λ (z : ℤ). Proves z o) same c.most_proved.ensures.proves))
          (λ p. let g = c.proved.ensures.count.greatest o c.most_proved.ensures.most p in omega arith) refl;
      shape = c.requires.own;
      low = subst (λ (p : Prices). IsBoundIn (child n c.args.choice First) p c.child_bounds-bounds-2.result.0) kept
          c.child_bounds-bounds-2.ensures.low;
      high = subst (λ (p : Prices). IsBoundIn (child n c.args.choice Second) p c.child_bounds-bounds-2.result.1) kept
          c.child_bounds-bounds-2.ensures.high;
      first = subst (λ (p : Prices). DecidesProved (child n c.args.choice First) p c.child_bounds-bounds-2.result.0) kept
          c.child_bounds-bounds-2.ensures.first;
      second = subst (λ (p : Prices). DecidesProved (child n c.args.choice Second) p c.child_bounds-bounds-2.result.1) kept
          c.child_bounds-bounds-2.ensures.second;
    }
