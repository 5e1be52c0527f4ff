use Rattle.std.proofs.Common.{◌<◌, ◌∙◌, subst, sym, arith, length, ap}
use Rattle.std.specs.Prelude.{Contains}
use Rattle.crew_terms.specs.Instance.{Instance}
use Rattle.crew_terms.specs.Limits.{tasks_in}
use Rattle.search_terms.specs.declared.Place.TheVariants.{Shortage}
use Rattle.master_tests.proofs.asked.price.Goals as goal

pub price-requires : goal.price-requires
price-requires c =
    let count = c.tasks.ensures.count ∙ ap (λ (i : Instance). length i.tasks) c.instance.ensures.instance in
    let lt : c.args.j < tasks_in c.args.limits.now.limits = omega arith in
    subst (λ l. Contains l (Shortage c.args.j)) (sym c.requires) ((c.places_are.ensures.tasks c.args.limits.now.limits c.args.j).1 lt)
