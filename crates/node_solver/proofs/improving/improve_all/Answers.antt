use Rattle.std.proofs.Common.{◌≡◌, ◌≤◌, ◌<◌, pos, get_or, below_more, refl, subst, ◌∙◌, arith, rules, w64}
use Rattle.std.specs.Prelude.{FitsSigned}
use Rattle.std.proofs.lemmas.Int.{to_z-of_z}
use Rattle.std.proofs.lemmas.Result.{err_from_is_err_and}
use Rattle.crew_terms.specs.Leaf.{worth_of}
use Rattle.crew_terms.specs.Limits.{teams_in}
use Rattle.master_run.specs.Along.{Halts}
use Rattle.node_solver.specs.Meeting.{IsMet}
use Rattle.node_solver.proofs.Growing.{extends_more, extends_none}
use Rattle.node_solver.proofs.MeetingLemmas.{duals_same, duals_then, met_more}
use Rattle.node_solver.proofs.improving.improve_all.Goals as goal

pub loop-k-init : goal.loop-k-init
loop-k-init g c = record {
  over = c.requires.over;
  met = λ k below. absurd (omega arith);
  pivots = refl;
  left = omega arith;
  duals = λ same. duals_same c.args.run.now.master;
  extends = extends_none c.args.limits.now.limits (g.C.Columns.columns c.args.columns.now);
  room = refl;
}

pub loop-k-preserved : goal.loop-k-preserved
loop-k-preserved g c =
    let n = c.args.limits.now.limits in
    let p = c.args.prices.now in
    let before = g.C.Columns.columns c.loop-k.columns in
    let after = g.C.Columns.columns c.improve.new.columns in
    let first = c.args.run.now.left in
    let old = c.loop-k.run.left in
    let new = c.improve.new.run.left in
    let fits : FitsSigned w64 (get_or c.args.worths.now c.loop-k.k (pos 0)) = search rules in
    let here : IsMet n after c.loop-k.k p (worth_of c.args.worths.now c.loop-k.k) = simp to_z-of_z at c.in_ok-improve.ensures.met in
    record {
      over = c.in_ok-improve.ensures.over;
      met = below_more (λ k. IsMet n after k p (worth_of c.args.worths.now k)) c.loop-k.k
          (λ k below. met_more n before after k p (worth_of c.args.worths.now k) c.improve.ensures.extends (c.loop-k.invariant.met k below))
          here;
      pivots = c.improve.ensures.pivots ∙ c.loop-k.invariant.pivots;
      left = omega (arith, c.improve.ensures.left, c.loop-k.invariant.left);
      duals = λ (same : new ≡ first).
          let e : old ≡ first = omega (arith, c.improve.ensures.left, c.loop-k.invariant.left, same) in
          let f : new ≡ old = omega (arith, c.improve.ensures.left, c.loop-k.invariant.left, same) in
          duals_then c.args.run.now.master c.loop-k.run.master c.improve.new.run.master (c.loop-k.invariant.duals e) (c.in_ok-improve.ensures.duals f);
      extends = extends_more n (g.C.Columns.columns c.args.columns.now) before after c.loop-k.invariant.extends c.improve.ensures.extends;
      room = c.improve.ensures.room ∙ c.loop-k.invariant.room;
    }

pub returns-in_err-improve-clause-halts : goal.returns-in_err-improve-clause-halts
returns-in_err-improve-clause-halts g c =
    let n = c.args.limits.now.limits in
    let e = c.in_err-improve.field-0.0 in
    let p = err_from_is_err_and c.from_residual.result c.from_residual.ensures.1 in
    rw (p.1, p.2) (subst (λ pivots. Halts n pivots (g.C.Columns.columns c.improve.new.columns) e) c.loop-k.invariant.pivots c.in_err-improve.ensures.halts)

pub returns-in_err-improve-clause-extends : goal.returns-in_err-improve-clause-extends
returns-in_err-improve-clause-extends g c =
    extends_more c.args.limits.now.limits (g.C.Columns.columns c.args.columns.now) (g.C.Columns.columns c.loop-k.columns)
    (g.C.Columns.columns c.improve.new.columns) c.loop-k.invariant.extends c.improve.ensures.extends

pub improve-requires-clause-worth : goal.improve-requires-clause-worth
improve-requires-clause-worth g c =
    let fits : FitsSigned w64 (get_or c.args.worths.now c.loop-k.k (pos 0)) = search rules in
    let below : c.loop-k.k < teams_in c.args.limits.now.limits = search rules in
    simp to_z-of_z (c.requires.worths.each c.loop-k.k below)

pub returns-clause-met : goal.returns-clause-met
returns-clause-met g c =
    let past : teams_in c.args.limits.now.limits ≤ c.loop-k.k = search rules in
    λ k below. c.loop-k.invariant.met k (omega arith)
