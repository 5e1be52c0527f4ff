use Rattle.std.proofs.Common.{◌<◌, ◌≤◌, length, ap, get_or, arith}
use Rattle.std.specs.List.{enumerate_from}
use Rattle.crew_io.specs.Chains.{puts_nothing, puts_same, puts_more, puts_more_front, puts_all}
use Rattle.crew_terms.specs.Limits.{teams_in}
use Rattle.dossier_terms.specs.Dossier.{no_potentials}
use Rattle.cert_write.proofs.TeamTables.{table_of_team, tables_texts, team_item, team_text, teams_below, teams_past}
use Rattle.cert_write.proofs.tables.put_tables.Goals as goal

pub loop-k-init : goal.loop-k-init
loop-k-init g c = record { so_far = λ ts are. puts_nothing g.K.Sink c.args.out.now; room = c.requires.room; table = c.requires.table }

pub loop-k-preserved : goal.loop-k-preserved
loop-k-preserved g c =
    let n = c.args.limits.now.limits in
    let p = c.args.prices.now in
    let k = c.loop-k.k in
    let below : k < teams_in n = (let t = c.loop-k-test.true in let e = c.teams-k-end.ensures.count in let i = c.instance.ensures.instance in let l = ap (λ x. length x.teams) i in omega (arith, t, e, l)) in
    record {
      so_far = λ ts are.
          puts_more g.K.Sink (team_text n) (enumerate_from 0 ts) k (0, no_potentials) (teams_below n p ts are k below) _ _ _ _ _ (c.loop-k.invariant.so_far ts are)
          (puts_same g.K.Sink _ _ _ _ _ (ap (team_text n) (team_item n p ts are k below)) (c.in_ok-put_team.ensures.puts (get_or ts k no_potentials) (table_of_team n p ts are k below)));
      room = c.in_ok-put_team.ensures.room;
      table = c.in_ok-put_team.ensures.table;
    }

pub returns-in_err-put_team : goal.returns-in_err-put_team
returns-in_err-put_team g c =
    let n = c.args.limits.now.limits in
    let p = c.args.prices.now in
    let k = c.loop-k.k in
    let below : k < teams_in n = (let t = c.loop-k-test.true in let e = c.teams-k-end.ensures.count in let i = c.instance.ensures.instance in let l = ap (λ x. length x.teams) i in omega (arith, t, e, l)) in
    record {
      puts = λ ts are.
          puts_same g.K.Sink _ _ _ _ _ (tables_texts n 0 ts)
          (puts_more_front g.K.Sink (team_text n) (enumerate_from 0 ts) k (0, no_potentials) (teams_below n p ts are k below) _ _ _ _ _ c.from_residual.result c.from_residual.ensures.0
          (c.loop-k.invariant.so_far ts are)
          (puts_same g.K.Sink _ _ _ _ _ (ap (team_text n) (team_item n p ts are k below)) (c.in_err-put_team.ensures.puts (get_or ts k no_potentials) (table_of_team n p ts are k below))));
      room = c.in_err-put_team.ensures.room;
      table = c.in_err-put_team.ensures.table;
    }

pub returns : goal.returns
returns g c =
    let n = c.args.limits.now.limits in
    let p = c.args.prices.now in
    let past : teams_in n ≤ c.loop-k.k = (let t = c.loop-k-test.false in let e = c.teams-k-end.ensures.count in let i = c.instance.ensures.instance in let l = ap (λ x. length x.teams) i in omega (arith, t, e, l)) in
    record {
      puts = λ ts are.
          puts_same g.K.Sink _ _ _ _ _ (tables_texts n 0 ts)
          (puts_all g.K.Sink (team_text n) (enumerate_from 0 ts) c.loop-k.k _ _ _ _ (teams_past n p ts are c.loop-k.k past) (c.loop-k.invariant.so_far ts are));
      room = c.loop-k.invariant.room;
      table = c.loop-k.invariant.table;
    }
