use Rattle.std.proofs.Common.{◌≡◌, ◌↔◌, sym, ap, subst, ◌∙◌}
use Rattle.crew_terms.specs.Leaf.{Proves, bound_of}
use Rattle.label_pricing.specs.Worths.{AreWorths}
use Rattle.search_terms.specs.Proven.{PricesProve}
use Rattle.node_solver.proofs.Growing.{extends_more}
use Rattle.node_solver.proofs.MeetingLemmas.{rounded_same}
use Rattle.node_solver.proofs.rounds.rounds.Goals as goal

pub returns-then-left-clause-answered : goal.returns-then-left-clause-answered
returns-then-left-clause-answered g c =
    let n = c.args.limits.now.limits in
    let p = c.in_ok-prices.prices in
    let ws = c.deref.result.now in
    let is : ws ≡ c.proved-proved.new.self.worths = c.deref.ensures.value ∙ c.in_ok-worths.ensures.items ∙ c.worths.ensures in
    let same : c.improve_all.new.run.left ≡ c.again.run.left = sym c.left.ensures ∙ c.if-left.true ∙ c.left-left.ensures in
    record {
      count = c.proved-proved.ensures.count;
      settled = λ less. record {
        over = c.in_ok-improve_all.ensures.over;
        rounded = rounded_same n c.again.run.master c.improve_all.new.run.master p c.again.invariant.over.at.along.follows.places
            (c.in_ok-improve_all.ensures.duals same) c.in_ok-prices.ensures.rounded;
        worths = ws;
        worth = subst (AreWorths n p) (sym is) c.proved-proved.ensures.worths;
        decides = λ l most. subst (λ b. PricesProve n p l ↔ Proves b l) (c.proved-proved.ensures.bound ∙ ap (bound_of n p) (sym is))
            (c.proved-proved.ensures.decides l most);
        met = c.in_ok-improve_all.ensures.met;
      };
    }

pub returns-then-left-clause-extends : goal.returns-then-left-clause-extends
returns-then-left-clause-extends g c =
    extends_more c.args.limits.now.limits (g.C.Columns.columns c.args.columns.now) (g.C.Columns.columns c.again.columns)
    (g.C.Columns.columns c.improve_all.new.columns) c.again.invariant.extends c.improve_all.ensures.extends

pub again-preserved : goal.again-preserved
again-preserved g c = record {
  over = c.in_ok-improve_all.ensures.over;
  pivots = c.improve_all.ensures.pivots ∙ c.again.invariant.pivots;
  extends = extends_more c.args.limits.now.limits (g.C.Columns.columns c.args.columns.now) (g.C.Columns.columns c.again.columns)
      (g.C.Columns.columns c.improve_all.new.columns) c.again.invariant.extends c.improve_all.ensures.extends;
  room = c.again.invariant.room ∙ sym c.proved-proved.ensures.room ∙ sym c.improve_all.ensures.room;
}
