use Rattle.std.proofs.Common.{◌≡◌, ◌-◌, ◌*◌, ◌++◌}
use Rattle.day_gen.specs.Draws.{after}
use Rattle.day_gen.specs.Day.{team_entries}
use Rattle.day_gen.proofs.days.add_teams.Given as goal

abbrev pub invariant-loop-k : goal.invariant-loop-k
invariant-loop-k l = record {
  entries : l.fn.entries.items ++ team_entries l.fn.generator 0 l.teams ≡ l.entries.items ++ team_entries l.generator l.k (l.teams - l.k);
  draws : after (3 * l.teams) l.fn.generator ≡ after (3 * (l.teams - l.k)) l.generator;
}
