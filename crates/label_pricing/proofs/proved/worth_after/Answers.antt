use Rattle.std.proofs.Common.{rules, pos, subst, sym, w64}
use Rattle.std.specs.Prelude.{FitsSigned, slice_index_or}
use Rattle.std.proofs.lemmas.Int.{to_z-of_z}
use Rattle.crew_terms.specs.Leaf.{IsWorth, earned}
use Rattle.label_pricing.proofs.proved.worth_after.Goals as goal

pub returns-in-Some-clause-worth : goal.returns-in-Some-clause-worth
returns-in-Some-clause-worth c =
    let n = c.args.limits.now.limits in
    let like = c.in-Some.ensures in
    let worth = slice_index_or c.args.worths.now c.in-Some.h (pos 0) in
    let fits : FitsSigned w64 (slice_index_or c.args.worths.now c.in-Some.h (pos 0)) = search rules in
    subst (IsWorth n c.args.k (earned c.args.prices.now c.args.k)) (sym (to_z-of_z w64 worth fits))
    (c.alike_teams_earn_alike.ensures.worths n c.in-Some.h c.args.k c.args.prices.now worth like.1 c.requires.priced (c.requires.worths c.in-Some.h like.0))
