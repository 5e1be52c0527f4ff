use Rattle.std.proofs.Common.{sym}
use Rattle.crew_io.specs.Chains.{puts_then, puts_same, puts_front}
use Rattle.roster_print.proofs.Texts.{roster_parts, summary_front, teams_front}
use Rattle.roster_print.proofs.rosters.Goals as goal

pub returns-in_err-put_summary : goal.returns-in_err-put_summary
returns-in_err-put_summary g c =
    puts_front g.K.Sink _ _ _ _ _ c.from_residual.result c.from_residual.ensures.0 c.in_err-put_summary.ensures (summary_front c.args.instance.now c.args.plan.now)

pub returns-in_err-put_teams : goal.returns-in_err-put_teams
returns-in_err-put_teams g c =
    puts_front g.K.Sink _ _ _ _ _ c.from_residual-in_err-put_teams.result c.from_residual-in_err-put_teams.ensures.0
    (puts_then g.K.Sink _ _ _ _ _ _ _ c.in_ok-put_summary.ensures c.in_err-put_teams.ensures) (teams_front c.args.instance.now c.args.plan.now)

pub returns : goal.returns
returns g c =
    puts_same g.K.Sink _ _ _ _ _ (sym (roster_parts c.args.instance.now c.args.plan.now))
    (puts_then g.K.Sink _ _ _ _ _ _ _ (puts_then g.K.Sink _ _ _ _ _ _ _ c.in_ok-put_summary.ensures c.in_ok-put_teams.ensures) c.put_open.ensures)
