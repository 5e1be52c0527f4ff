use Rattle.std.proofs.Common.{subst, arith}
use Rattle.crew_terms.specs.Leaf.{IsOnRequired}
use Rattle.crew_terms.specs.Limits.{tasks_in}
use Rattle.crew_terms.specs.Plan.{unassigned_count}
use Rattle.node_solver.specs.Loose.{HasHeld, IsShown}
use Rattle.node_solver.specs.Plans.{now_after}
use Rattle.node_solver.specs.Steps.{Ends, KeepsProved, prices_of}
use Rattle.node_solver.specs.declared.step.NodeEnd.{NodeEnd}
use Rattle.node_solver.specs.declared.step.NodeEnd.TheVariants as ends
use Rattle.search_terms.specs.Proven.{PricesProve}
use Rattle.search_core.proofs.Exploring.{split_required}
use Rattle.search_core.proofs.Pricing.{found_proves, now_most}
use Rattle.search_core.proofs.Showing.{shown_why}
use Rattle.search_core.proofs.finding.examine.Goals as goal

pub hand_on-requires-clause-required : goal.hand_on-requires-clause-required
hand_on-requires-clause-required g c =
    let n = c.args.limits.now.limits in
    let columns = g.C.Columns.columns c.process.new.columns in
    let now = now_after (unassigned_count c.args.best.now) c.in_ok-plan.field-0.plan in
    let pivots = c.args.effort.now.pivots in
    let start = c.in_ok-start.start in
    let end : NodeEnd = ends.Split c.in-Split.choice c.in-Split.why c.in-Split.prices in
    let zero : PricesProve n start 0 = c.in_ok-start.ensures.as_much 0 (omega arith) ((c.requires.bound 0 (omega arith)).1 tt) in
    let earned : Ends n now pivots columns end = subst (λ (e : NodeEnd). Ends n now pivots columns e) c.in-Split.is c.in_ok-plan.ensures.ends in
    let keeps : KeepsProved n start end = subst (λ (e : NodeEnd). KeepsProved n start e) c.in-Split.is c.in_ok-plan.ensures.as_much in
    split_required n now pivots columns start c.in-Split.prices c.in-Split.choice c.in-Split.why zero earned.earned keeps

pub returns-in_ok-handed-in-Split-clause-found : goal.returns-in_ok-handed-in-Split-clause-found
returns-in_ok-handed-in-Split-clause-found g c =
    let n = c.args.limits.now.limits in
    let columns = g.C.Columns.columns c.process.new.columns in
    let now = now_after (unassigned_count c.args.best.now) c.in_ok-plan.field-0.plan in
    let pivots = c.args.effort.now.pivots in
    let why = c.in-Split.why in
    let end : NodeEnd = ends.Split c.in-Split.choice why c.in-Split.prices in
    let split : Ends n now pivots columns end = subst (λ (e : NodeEnd). Ends n now pivots columns e) c.in-Split.is c.in_ok-plan.ensures.ends in
    let shown : IsShown n now columns end = subst (λ (e : NodeEnd). IsShown n now columns e) c.in-Split.is c.in_ok-plan.ensures.shown in
    let held : HasHeld n columns end = subst (λ (e : NodeEnd). HasHeld n columns e) c.in-Split.is c.in_ok-plan.ensures.held in
    let required : IsOnRequired n c.in-Split.prices = subst (λ (e : NodeEnd). IsOnRequired n (prices_of e)) c.in-Split.is c.in_ok-plan.ensures.required in
    record {
      plan = c.in_ok-plan.ensures.plan;
      ending = record {
        valid = split.valid;
        some = split.some;
        found = c.in-Split.prices;
        earned = split.earned;
        near = found_proves n now columns c.in-Split.choice why c.in-Split.prices shown
            (now_most n.instance (unassigned_count c.args.best.now) (tasks_in n) c.in_ok-plan.field-0.plan c.in_ok-plan.ensures.plan c.requires.best)
            (λ worths l are. c.worths_decide.ensures n c.in-Split.prices worths l c.instance.ensures.is_instance c.tasks.ensures.limits.range required are);
        shown = shown_why n now pivots columns c.in-Split.choice why c.in-Split.prices split.earned shown held;
        on = c.in_ok-handed-in-Split.ensures.handed;
      };
      extends = c.process.ensures.extends;
    }
