use Rattle.std.proofs.Common.{◌<◌, ◌∙◌, subst, sym, arith, length, ap}
use Rattle.std.specs.Prelude.{Contains}
use Rattle.crew_terms.specs.Instance.{Instance}
use Rattle.crew_terms.specs.Limits.{tasks_in, teams_in}
use Rattle.search_terms.specs.declared.Place.TheVariants.{Missed}
use Rattle.master_tests.proofs.asked.extra.Goals as goal

pub extra-requires : goal.extra-requires
extra-requires c =
    let n = c.args.limits.now.limits in
    let k = c.args.k in
    let j = c.args.j in
    let teams = c.teams.ensures.count ∙ ap (λ (i : Instance). length i.teams) c.instance-instance.ensures.instance in
    let tasks = c.tasks.ensures.count ∙ ap (λ (i : Instance). length i.tasks) c.instance-instance.ensures.instance in
    let team : k < teams_in n = omega arith in
    let task : j < tasks_in n = omega arith in
    let required = sym c.in-Required.ensures in
    subst (λ l. Contains l (Missed k j)) (sym c.requires) ((c.places_are.ensures.pairs n k j).1 (team, task, required))
