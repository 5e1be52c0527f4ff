use Rattle.crew_instance.proofs.TeamSets.{HasFirst}
use Rattle.crew_instance.proofs.turns.team_set.Given as goal

abbrev pub invariant-loop-k : goal.invariant-loop-k
invariant-loop-k l = HasFirst l.teams l.k-index l.set
