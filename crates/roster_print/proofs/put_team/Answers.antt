use Rattle.std.proofs.Common.{map, sym}
use Rattle.crew_io.specs.Chains.{puts_then, puts_same, puts_front}
use Rattle.roster_print.specs.Roster.{tasks_in_turn, turn_line}
use Rattle.roster_print.proofs.Texts.{text, team_parts}
use Rattle.roster_print.proofs.put_team.Goals as goal

pub returns-in_err-put_shift : goal.returns-in_err-put_shift
returns-in_err-put_shift g c =
    let i = c.args.instance.now in
    let p = c.args.plan.now in
    puts_front g.K.Sink _ _ _ _ _ c.from_residual.result c.from_residual.ensures.0 c.in_err-put_shift.ensures
    (record { rest = text (map (turn_line i p c.args.k) (tasks_in_turn p c.args.k)); is = team_parts i p c.args.k })

pub returns : goal.returns
returns g c =
    puts_same g.K.Sink _ _ _ _ _ (sym (team_parts c.args.instance.now c.args.plan.now c.args.k))
    (puts_then g.K.Sink _ _ _ _ _ _ _ c.in_ok-put_shift.ensures c.put_turns.ensures)
