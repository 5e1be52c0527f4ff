use Rattle.std.proofs.Common.{length, length-append, ◌∷◌, [], arith, subst, sym, ap, ◌∙◌}
use Rattle.why_not.specs.Days.{AreDays}
use Rattle.why_not.proofs.Rows.{days_more}
use Rattle.why_not.proofs.days.days_of.Goals as goal

pub push-requires : goal.push-requires
push-requires c =
    let n = c.loop-k.invariant.0 in
    let l = c.loop-k-test.true in
    let e = c.teams-k-end.ensures.count in
    let few = c.teams-k-end.ensures.limits.parts.few_teams in
    omega arith

pub loop-k-preserved : goal.loop-k-preserved
loop-k-preserved c =
    let e = c.push.ensures.items in (
      (let n = ap length e ∙ length-append c.loop-k.days.items (c.fill_turns.new.turns ∷ []) in let m = c.loop-k.invariant.0 in omega arith),
      subst (AreDays c.args.plan.now) (sym e) (days_more c.args.plan.now c.loop-k.days.items c.loop-k.k c.fill_turns.new.turns c.loop-k.invariant.0 c.loop-k.invariant.1 c.fill_turns.ensures),
    )
