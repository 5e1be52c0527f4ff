use Rattle.std.proofs.lemmas.List.Elements.{Contains-get_or}
use Rattle.flight_changes.proofs.jobs.names_of.Goals as goal

pub team-requires : goal.team-requires
team-requires c = c.requires _ (Contains-get_or c.args.teams.now c.loop-k.k-index 0 c.loop-k-test.true)
