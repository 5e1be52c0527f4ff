use Rattle.std.proofs.Common.{ap, sym, subst, ◌∙◌}
use Rattle.crew_terms.specs.Plan.{empty_plan}
use Rattle.crew_terms.specs.Verdict.{IsPlanOf}
use Rattle.dossier_terms.specs.Reading.{routes_due}
use Rattle.cert_checker.specs.Due.{Awaits, IsBegun, draft_of}
use Rattle.cert_checker.proofs.PoolRows.{begun, empty_is_plan}
use Rattle.cert_checker.proofs.pool.begin_pool.Goals as goal

pub due_routes-requires : goal.due_routes-requires
due_routes-requires c =
    let i = c.args.base.instance in
    subst IsBegun (sym c.in_ok-draft.ensures.ok) (record {
      plan = subst (IsPlanOf i) (sym (c.in_ok-plan.ensures ∙ ap empty_plan c.tasks.ensures.count)) (empty_is_plan i);
      root = c.in_ok-limits.ensures;
    })

pub returns : goal.returns
returns c =
    subst (λ d. Awaits c.due_routes.result (routes_due d c.args.routes))
    (ap draft_of c.in_ok-draft.ensures.ok ∙ begun c.args.base.form c.args.base.instance c.args.base.nodes c.args.kept c.new.result c.in_ok-plan.plan c.new.ensures (c.in_ok-plan.ensures ∙ ap empty_plan c.tasks.ensures.count))
    c.due_routes.ensures
