use Rattle.std.proofs.Common.{Option, subst}
use Rattle.std.specs.Prelude.{IfSome}
use Rattle.crew_instance.specs.declared.turns.Turn.{Turn}
use Rattle.team_days.specs.Obstacles.{IsTurnOf}
use Rattle.team_days.proofs.Day.{turn_known}
use Rattle.team_days.proofs.idle.idle_in.Goals as goal

pub wait_between-first-requires-clause-before : goal.wait_between-first-requires-clause-before
wait_between-first-requires-clause-before c =
    subst (λ (o : Option Turn). IfSome o (IsTurnOf c.args.instance.now)) c.in-Some.is
    (turn_known c.args.instance.now c.args.k c.args.turns.now c.neighbours-before.result.0 c.requires.day c.neighbours-before.ensures.listed)

pub wait_between-last-requires-clause-after : goal.wait_between-last-requires-clause-after
wait_between-last-requires-clause-after c =
    subst (λ (o : Option Turn). IfSome o (IsTurnOf c.args.instance.now)) c.in-Some-next.is
    (turn_known c.args.instance.now c.args.k c.args.turns.now c.neighbours-before.result.1 c.requires.day c.neighbours-before.ensures.next_listed)
