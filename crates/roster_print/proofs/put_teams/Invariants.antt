use Rattle.std.proofs.Common.{length, take}
use Rattle.std.specs.List.{flat_map, range_with_len}
use Rattle.crew_io.specs.Puts.{Puts}
use Rattle.crew_io.specs.Chains.{fine}
use Rattle.roster_print.specs.Roster.{team_lines}
use Rattle.roster_print.proofs.Texts.{text}
use Rattle.roster_print.proofs.put_teams.Given as goal

abbrev pub invariant-loop-k : goal.invariant-loop-k
invariant-loop-k g l = Puts g.K.Sink (flat_map (λ k. text (team_lines l.instance l.plan k)) (take l.k (range_with_len 0 (length l.instance.teams)))) l.fn.out l.out fine
