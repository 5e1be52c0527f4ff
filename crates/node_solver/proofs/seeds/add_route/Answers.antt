use Rattle.std.proofs.Common.{◌<◌, List, length, All, sym, subst}
use Rattle.crew_terms.specs.declared.TheConstants.{MOST_TASKS}
use Rattle.crew_terms.specs.declared.Visit.{Visit}
use Rattle.node_solver.proofs.Growing.{column_tasks}
use Rattle.node_solver.proofs.seeds.add_route.Goals as goal

pub add-requires-clause-tasks : goal.add-requires-clause-tasks
add-requires-clause-tasks g c =
    subst (All (λ (v : Visit). v.task < MOST_TASKS)) (sym c.visits.ensures)
    (column_tasks c.args.limits.now.limits c.args.route.now c.requires c.instance.ensures.is_instance.parts.few_tasks)

pub add-requires-clause-some : goal.add-requires-clause-some
add-requires-clause-some g c = subst (λ (vs : List Visit). 0 < length vs) (sym c.visits.ensures) c.requires.some
