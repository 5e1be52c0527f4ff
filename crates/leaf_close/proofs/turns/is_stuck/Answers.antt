use Rattle.std.proofs.Common.{get_or, subst, sym, Bool, MatchBool, true, false}
use Rattle.std.proofs.lemmas.List.Elements.{Contains-get_or}
use Rattle.search_terms.specs.Closing.{IsStuck}
use Rattle.leaf_close.proofs.StuckTeams.{required_turns, stuck_by_minute, stuck_by_step, not_stuck}
use Rattle.leaf_close.proofs.turns.is_stuck.Goals as goal

pub may_not_begin-requires-clause-tasks : goal.may_not_begin-requires-clause-tasks
may_not_begin-requires-clause-tasks c = λ i d l.
    let are = required_turns c.args.limits.now.limits c.args.plan.now c.args.k _ c.as_slice-turns.result.now c.requires.plan c.fill_turns.ensures c.as_slice-turns.ensures.value in
    (are.done (get_or c.as_slice-turns.result.now i d) (Contains-get_or c.as_slice-turns.result.now i d l)).1

either : (b : Bool) {P Q R S : Type 0} → (P → R) → (Q → S) → MatchBool b P Q → MatchBool b R S
either true f g h = f h
either false f g h = g h

pub returns-then-may_not_begin : goal.returns-then-may_not_begin
returns-then-may_not_begin c =
    let are = required_turns c.args.limits.now.limits c.args.plan.now c.args.k _ c.as_slice-turns.result.now c.requires.plan c.fill_turns.ensures c.as_slice-turns.ensures.value in
    subst (λ b. MatchBool b (IsStuck c.args.limits.now.limits c.args.k) (IsStuck c.args.limits.now.limits c.args.k → ⊥)) (sym c.if-may_not_begin.true)
    (stuck_by_minute c.required_teams_are_listed.ensures c.args.limits.now.limits c.instance.ensures.is_instance c.instance.ensures.limits c.requires.decided c.args.k c.as_slice-turns.result.now are c.if-may_not_begin.ensures)

pub returns-else-may_not_begin : goal.returns-else-may_not_begin
returns-else-may_not_begin c =
    let are = required_turns c.args.limits.now.limits c.args.plan.now c.args.k _ c.as_slice-turns.result.now c.requires.plan c.fill_turns.ensures c.as_slice-turns.ensures.value in
    either c.can_not_follow.result
    (stuck_by_step c.required_teams_are_listed.ensures c.args.limits.now.limits c.instance.ensures.is_instance c.instance.ensures.limits c.requires.decided c.args.k c.as_slice-turns.result.now are)
    (λ follow. not_stuck c.required_teams_are_listed.ensures c.args.limits.now.limits c.instance.ensures.is_instance c.instance.ensures.limits c.requires.decided c.args.k c.as_slice-turns.result.now are c.if-may_not_begin.ensures follow)
    c.can_not_follow.ensures
