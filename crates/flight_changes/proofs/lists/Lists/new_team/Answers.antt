use Rattle.flight_changes.proofs.Accepted.{team_accepted}
use Rattle.flight_changes.proofs.lists.Lists.new_team.Goals as goal

pub add_team-requires-clause-shift : goal.add_team-requires-clause-shift
add_team-requires-clause-shift c =
    let new = team_accepted c.args.self.now c.args.name c.args.home.now c.args.shift.0 c.args.shift.1 c.args.skills c.requires.accepted in
    record { order = new.shift; day = c.requires.range.1 }
