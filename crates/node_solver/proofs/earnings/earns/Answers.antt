use Rattle.std.proofs.Common.{◌<◌, All, length, sym, subst, arith}
use Rattle.std.proofs.lemmas.List.Elements.{All-weaker}
use Rattle.crew_terms.specs.Limits.{tasks_in}
use Rattle.crew_terms.specs.declared.Visit.{Visit}
use Rattle.column_arena.specs.Columns.{column_of}
use Rattle.master_run.specs.Legal.{tasks_known}
use Rattle.node_solver.proofs.earnings.earns.Goals as goal

pub earnings-requires-clause-tasks : goal.earnings-requires-clause-tasks
earnings-requires-clause-tasks g c =
    let n = c.args.limits.now.limits in
    let r = column_of (g.C.Columns.columns c.args.columns.now) c.args.id in
    let priced = λ (v : Visit). v.task < length c.args.prices.now.pi in
    subst (All priced) (sym c.visits.ensures)
    (All-weaker (λ (v : Visit). v.task < tasks_in n) priced (λ v below. omega (arith, c.requires.prices.tasks)) r.visits (tasks_known n r.team r.visits c.requires.legal.route))
