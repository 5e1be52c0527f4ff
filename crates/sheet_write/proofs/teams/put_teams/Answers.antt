use Rattle.std.proofs.Common.{◌≡◌, ◌<◌, ◌≤◌, suc, length, ap, arith}
use Rattle.crew_terms.specs.Limits.{teams_in}
use Rattle.sheet_write.proofs.TeamsSoFar.{all_teams, no_team_yet, one_team_more, team_fails}
use Rattle.sheet_write.proofs.teams.put_teams.Goals as goal

pub loop-k-init : goal.loop-k-init
loop-k-init g c = record { so_far = no_team_yet g.K.Sink c.args.limits.now.limits c.args.prices.now c.args.out.now; room = c.requires.room; table = c.requires.table }

pub loop-k-preserved : goal.loop-k-preserved
loop-k-preserved g c = record {
  so_far = one_team_more g.K.Sink c.args.limits.now.limits c.args.prices.now c.loop-k.k _ _ _ _ c.loop-k.invariant.so_far c.in_ok-put_team.ensures.puts;
  room = c.in_ok-put_team.ensures.room;
  table = c.in_ok-put_team.ensures.table;
}

pub returns-in_err-put_team : goal.returns-in_err-put_team
returns-in_err-put_team g c =
    let n = c.args.limits.now.limits in
    let p = c.args.prices.now in
    let k = c.loop-k.k in
    let below : suc k ≤ teams_in n = (let t = c.loop-k-test.true in let e = c.teams-k-end.ensures.count in let i = c.instance.ensures.instance in let l = ap (λ x. length x.teams) i in omega (arith, t, e, l)) in
    let rest = c.teams_have_tables.ensures n p (suc k) c.instance.ensures.is_instance c.requires.prices below in
    team_fails g.K.Sink n p k _ _ _ _ c.from_residual.result c.from_residual.ensures.0 c.loop-k.invariant.so_far c.in_err-put_team.ensures.puts rest.0 rest.1

pub returns : goal.returns
returns g c =
    let n = c.args.limits.now.limits in
    let whole : c.loop-k.k ≡ teams_in n = (let t = c.loop-k-test.false in let u = c.loop-k.auto.k-end in let e = c.teams-k-end.ensures.count in let i = c.instance.ensures.instance in let l = ap (λ x. length x.teams) i in omega (arith, t, u, e, l)) in
    all_teams g.K.Sink n c.args.prices.now c.loop-k.k _ _ _ whole c.loop-k.invariant.so_far
