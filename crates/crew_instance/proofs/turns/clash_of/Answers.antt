use Rattle.std.proofs.Common.{◌≡◌, ◌+◌, ◌-◌, true, length, get_or, arith, subst, sym, refl}
use Rattle.crew_terms.specs.Verdict.{IsFirstClash}
use Rattle.crew_instance.specs.Turns.{AreTurns}
use Rattle.crew_terms.specs.Nodes.{task_known}
use Rattle.crew_instance.proofs.TeamTurns.{Follows, no_turn, turn_done, follows_more, no_clash_from, first_clash_from}
use Rattle.crew_instance.proofs.turns.clash_of.Goals as goal

pub can_follow-requires-clause-from : goal.can_follow-requires-clause-from
can_follow-requires-clause-from c =
    let are : AreTurns c.args.plan.now c.args.k (length c.args.plan.now) c.as_slice-turns.result.now =
    subst (AreTurns c.args.plan.now c.args.k (length c.args.plan.now)) (sym c.as_slice-turns.ensures.value) c.fill_among.ensures in
    let l = task_known c.args.plan.now c.args.k _ _ (turn_done c.args.plan.now c.args.k _ c.as_slice-turns.result.now are (c.loop-i.i - 1) (omega arith)) in
    let w = c.requires.plan.whole in
    omega arith

pub can_follow-requires-clause-to : goal.can_follow-requires-clause-to
can_follow-requires-clause-to c =
    let are : AreTurns c.args.plan.now c.args.k (length c.args.plan.now) c.as_slice-turns.result.now =
    subst (AreTurns c.args.plan.now c.args.k (length c.args.plan.now)) (sym c.as_slice-turns.ensures.value) c.fill_among.ensures in
    let l = task_known c.args.plan.now c.args.k _ _ (turn_done c.args.plan.now c.args.k _ c.as_slice-turns.result.now are c.loop-i.i (omega arith)) in
    let w = c.requires.plan.whole in
    omega arith

pub returns-then-not-can_follow : goal.returns-then-not-can_follow
returns-then-not-can_follow c =
    let are : AreTurns c.args.plan.now c.args.k (length c.args.plan.now) c.as_slice-turns.result.now =
    subst (AreTurns c.args.plan.now c.args.k (length c.args.plan.now)) (sym c.as_slice-turns.ensures.value) c.fill_among.ensures in
    let e : (c.loop-i.i - 1) + 1 ≡ c.loop-i.i = let a = c.loop-i.auto.i in omega arith in
    let broken : Follows c.args.instance.now c.as_slice-turns.result.now (c.loop-i.i - 1) ((c.loop-i.i - 1) + 1) → ⊥ =
    λ h. let t : c.can_follow.result ≡ true = c.can_follow.ensures.1 (subst (λ b. Follows c.args.instance.now c.as_slice-turns.result.now (c.loop-i.i - 1) b) e h) in let f = c.if-not-can_follow.true in cc in
    let clash = first_clash_from c.args.plan.now c.args.k c.as_slice-turns.result.now are c.args.instance.now (c.loop-i.i - 1) (omega arith) (λ b l. c.loop-i.invariant b (omega arith)) broken in
    record {
      before = _;
      after = _;
      first = subst (λ b. IsFirstClash c.args.instance.now c.args.plan.now c.args.k (get_or c.as_slice-turns.result.now (c.loop-i.i - 1) no_turn).task (get_or c.as_slice-turns.result.now b no_turn).task) e clash;
      is = refl;
    }

pub loop-i-preserved : goal.loop-i-preserved
loop-i-preserved c =
    follows_more c.args.instance.now c.as_slice-turns.result.now c.loop-i.i c.loop-i.auto.i c.loop-i.invariant (c.can_follow.ensures.0 c.if-not-can_follow.false)

pub returns : goal.returns
returns c =
    let are : AreTurns c.args.plan.now c.args.k (length c.args.plan.now) c.as_slice-turns.result.now =
    subst (AreTurns c.args.plan.now c.args.k (length c.args.plan.now)) (sym c.as_slice-turns.ensures.value) c.fill_among.ensures in
    no_clash_from c.args.plan.now c.args.k c.as_slice-turns.result.now are c.args.instance.now (λ a l. c.loop-i.invariant a (let m = c.loop-i-test.false in omega arith))
