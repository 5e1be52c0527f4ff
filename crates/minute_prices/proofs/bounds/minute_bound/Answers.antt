use Rattle.std.proofs.Common.{◌^◌, ◌≡◌, ◌*◌, ◌-ℤ◌, ◌∙◌, ap, subst, length, rules, refl}
use Rattle.std.specs.Int.{w128}
use Rattle.std.specs.Prelude.{FitsSigned}
use Rattle.std.proofs.lemmas.Int.{to_z-of_z}
use Rattle.crew_terms.specs.Leaf.{worth_of}
use Rattle.crew_terms.specs.Total.{total}
use Rattle.potentials.specs.Sums.{IsBoundedBy}
use Rattle.minute_prices.proofs.Sums.{bound_fits}
use Rattle.minute_prices.proofs.bounds.minute_bound.Goals as goal

pub returns : goal.returns
returns c =
    let i = c.args.instance.now in
    let terms = c.sum_of_terms-terms in
    let worths = c.sum_of_worths in
    let t : FitsSigned w128 terms.result = search rules in
    let w : FitsSigned w128 worths.result = search rules in
    let all : FitsSigned w128 (terms.result -ℤ worths.result) =
    bound_fits (length i.tasks) (length i.teams) terms.result worths.result c.tasks.ensures.limits.parts.few_tasks c.tasks.ensures.limits.parts.few_teams terms.ensures.range
    (subst (λ m. IsBoundedBy (2 ^ 63 * m) worths.result) c.requires.worths worths.ensures.range) in
    let a = terms.ensures.sum in
    let d : worths.result ≡ total (length i.teams) (worth_of c.args.worths.now) = worths.ensures.sum ∙ ap (λ m. total m (worth_of c.args.worths.now)) c.requires.worths in
    simp to_z-of_z (rw (a, d) refl)
