use Rattle.std.proofs.Common.{sym, ap, subst, ◌∙◌}
use Rattle.std.specs.Prelude.{IfSome}
use Rattle.crew_terms.specs.Plan.{unassigned_count}
use Rattle.search_terms.specs.Proven.{PricesProve}
use Rattle.node_solver.specs.Loose.{IsShown}
use Rattle.node_solver.specs.Plans.{IsBestOf, IsBetterPlan, now_after}
use Rattle.node_solver.specs.Steps.{Ends}
use Rattle.node_solver.proofs.solver.process.Goals as goal

pub returns-clause-plan : goal.returns-clause-plan
returns-clause-plan g c =
    let i = c.args.limits.now.limits.instance in
    let b = unassigned_count c.args.best.now in
    let none : IsBestOf i b c.none-found.result = record {
      plan = subst (λ o. IfSome o (IsBetterPlan i b)) (sym c.none-found.ensures.plan) tt;
      count = c.none-found.ensures.unassigned ∙ c.unassigned-now.ensures ∙ sym (ap (now_after b) c.none-found.ensures.plan);
    } in
    (c.end_open.ensures.best b none).plan

pub returns-clause-ends : goal.returns-clause-ends
returns-clause-ends g c =
    let n = c.args.limits.now.limits in
    let b = unassigned_count c.args.best.now in
    let none : IsBestOf n.instance b c.none-found.result = record {
      plan = subst (λ o. IfSome o (IsBetterPlan n.instance b)) (sym c.none-found.ensures.plan) tt;
      count = c.none-found.ensures.unassigned ∙ c.unassigned-now.ensures ∙ sym (ap (now_after b) c.none-found.ensures.plan);
    } in
    subst (λ now. Ends n now c.args.effort.now.pivots (g.C.Columns.columns c.end_open.new.columns) c.in_ok-end.end)
    (c.end_open.ensures.best b none).count c.in_ok-end.ensures.ends

pub returns-clause-shown : goal.returns-clause-shown
returns-clause-shown g c =
    let n = c.args.limits.now.limits in
    let b = unassigned_count c.args.best.now in
    let none : IsBestOf n.instance b c.none-found.result = record {
      plan = subst (λ o. IfSome o (IsBetterPlan n.instance b)) (sym c.none-found.ensures.plan) tt;
      count = c.none-found.ensures.unassigned ∙ c.unassigned-now.ensures ∙ sym (ap (now_after b) c.none-found.ensures.plan);
    } in
    subst (λ now. IsShown n now (g.C.Columns.columns c.end_open.new.columns) c.in_ok-end.end)
    (c.end_open.ensures.best b none).count c.in_ok-end.ensures.shown

pub returns-then-decided-clause-plan : goal.returns-then-decided-clause-plan
returns-then-decided-clause-plan g c =
    subst (λ b. IfSome c.in_ok-plan.field-0.plan (IsBetterPlan c.args.limits.now.limits.instance b)) c.unassigned-now.ensures c.in_ok-plan.ensures.plan

pub returns-then-decided-clause-ends : goal.returns-then-decided-clause-ends
returns-then-decided-clause-ends g c =
    subst (λ b. PricesProve c.args.limits.now.limits c.in_ok-plan.field-0.prices (now_after b c.in_ok-plan.field-0.plan)) c.unassigned-now.ensures
    c.in_ok-plan.ensures.proved
