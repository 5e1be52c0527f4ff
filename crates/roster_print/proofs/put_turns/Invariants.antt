use Rattle.std.proofs.Common.{take}
use Rattle.std.specs.List.{flat_map}
use Rattle.crew_io.specs.Puts.{Puts}
use Rattle.crew_io.specs.Chains.{fine}
use Rattle.crew_terms.specs.Words.{line_text}
use Rattle.roster_print.specs.Roster.{turn_line}
use Rattle.roster_print.proofs.put_turns.Given as goal

abbrev pub invariant-loop-turn : goal.invariant-loop-turn
invariant-loop-turn g l = Puts g.K.Sink (flat_map (λ v. line_text (turn_line l.instance l.plan l.k v.task)) (take l.turn-index l.turn-items)) l.fn.out l.out fine
