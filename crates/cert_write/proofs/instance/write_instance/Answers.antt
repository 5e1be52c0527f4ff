use Rattle.std.proofs.Common.{sym}
use Rattle.crew_io.specs.Chains.{puts_then, puts_same, puts_front}
use Rattle.cert_write.proofs.Instances.{size_front, places_front, travels_front, teams_front, all_parts}
use Rattle.cert_write.proofs.instance.write_instance.Goals as goal

pub returns-in_err-put_size : goal.returns-in_err-put_size
returns-in_err-put_size g c =
    puts_front g.K.Sink _ _ _ _ _ c.from_residual.result c.from_residual.ensures.0 c.in_err-put_size.ensures (size_front c.args.instance.now c.args.nodes)

pub returns-in_err-put_places : goal.returns-in_err-put_places
returns-in_err-put_places g c =
    puts_front g.K.Sink _ _ _ _ _ c.from_residual-in_err-put_places.result c.from_residual-in_err-put_places.ensures.0
    (puts_then g.K.Sink _ _ _ _ _ _ _ c.in_ok-put_size.ensures c.in_err-put_places.ensures)
    (places_front c.args.instance.now c.args.nodes)

pub returns-in_err-put_travels : goal.returns-in_err-put_travels
returns-in_err-put_travels g c =
    puts_front g.K.Sink _ _ _ _ _ c.from_residual-in_err-put_travels.result c.from_residual-in_err-put_travels.ensures.0
    (puts_then g.K.Sink _ _ _ _ _ _ _ (puts_then g.K.Sink _ _ _ _ _ _ _ c.in_ok-put_size.ensures c.in_ok-put_places.ensures) c.in_err-put_travels.ensures)
    (travels_front c.args.instance.now c.args.nodes)

pub returns-in_err-put_teams : goal.returns-in_err-put_teams
returns-in_err-put_teams g c =
    puts_front g.K.Sink _ _ _ _ _ c.from_residual-in_err-put_teams.result c.from_residual-in_err-put_teams.ensures.0
    (puts_then g.K.Sink _ _ _ _ _ _ _
    (puts_then g.K.Sink _ _ _ _ _ _ _ (puts_then g.K.Sink _ _ _ _ _ _ _ c.in_ok-put_size.ensures c.in_ok-put_places.ensures) c.in_ok-put_travels.ensures)
    c.in_err-put_teams.ensures)
    (teams_front c.args.instance.now c.args.nodes)

pub returns : goal.returns
returns g c =
    puts_same g.K.Sink _ _ _ _ _ (sym (all_parts c.args.instance.now c.args.nodes))
    (puts_then g.K.Sink _ _ _ _ _ _ _
    (puts_then g.K.Sink _ _ _ _ _ _ _
    (puts_then g.K.Sink _ _ _ _ _ _ _ (puts_then g.K.Sink _ _ _ _ _ _ _ c.in_ok-put_size.ensures c.in_ok-put_places.ensures) c.in_ok-put_travels.ensures)
    c.in_ok-put_teams.ensures)
    c.put_tasks.ensures)
