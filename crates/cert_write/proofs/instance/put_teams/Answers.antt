use Rattle.std.proofs.Common.{◌<◌, ◌≤◌, length, ap, arith}
use Rattle.crew_io.specs.Chains.{puts_nothing}
use Rattle.dossier_terms.specs.Lines.{team_line}
use Rattle.line_out.specs.Lines.{puts_line, puts_line_front, puts_lines}
use Rattle.cert_write.proofs.instance.put_teams.Goals as goal

pub loop-k-init : goal.loop-k-init
loop-k-init g c = puts_nothing g.K.Sink c.args.out.now

pub returns-in_err-put_team : goal.returns-in_err-put_team
returns-in_err-put_team g c =
    let below : c.loop-k.k < length c.args.instance.now.teams = (let t = c.loop-k-test.true in let e = c.teams-k-end.ensures.count in omega arith) in
    puts_line_front g.K.Sink team_line c.args.instance.now.teams c.loop-k.k _ below _ (ap team_line c.team.ensures.team) _ _ _ _ _ c.from_residual.result c.from_residual.ensures.0 c.loop-k.invariant c.in_err-put_team.ensures

pub loop-k-preserved : goal.loop-k-preserved
loop-k-preserved g c =
    let below : c.loop-k.k < length c.args.instance.now.teams = (let t = c.loop-k-test.true in let e = c.teams-k-end.ensures.count in omega arith) in
    puts_line g.K.Sink team_line c.args.instance.now.teams c.loop-k.k _ below _ (ap team_line c.team.ensures.team) _ _ _ _ _ c.loop-k.invariant c.in_ok-put_team.ensures

pub returns : goal.returns
returns g c =
    let past : length c.args.instance.now.teams ≤ c.loop-k.k = (let t = c.loop-k-test.false in let e = c.teams-k-end.ensures.count in omega arith) in
    puts_lines g.K.Sink team_line c.args.instance.now.teams c.loop-k.k _ _ _ _ past c.loop-k.invariant
