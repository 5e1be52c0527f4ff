use Rattle.std.proofs.Common.{◌≡◌, ℤ, sym, subst}
use Rattle.std.specs.Int.{w128}
use mir.Val.{of_z, to_z}
use Rattle.std.proofs.lemmas.Int.{to_z-of_z}
use Rattle.crew_terms.specs.Leaf.{Proves}
use Rattle.search_core.proofs.Turning.{as_much}
use Rattle.search_core.proofs.starts.start_of.Goals as goal

pub returns-then-proved-most_proved-clause-as_much : goal.returns-then-proved-most_proved-clause-as_much
returns-then-proved-most_proved-clause-as_much c =
    let n = c.args.limits.now.limits in
    let found = c.in-Some.prices in
    let same : to_z w128 (of_z w128 c.args.bound) ≡ c.args.bound = to_z-of_z w128 c.args.bound c.ranges.bound in
    as_much n c.args.own.now found c.args.bound c.proved.result.count c.most_proved.result c.requires.bound c.proved.ensures.count
    (λ l k p. c.most_proved.ensures.greatest l k (subst (λ (z : ℤ). Proves z l) (sym same) p)) c.if-proved-most_proved.true
    (λ m l. c.less_is_proved.ensures n found l m)
