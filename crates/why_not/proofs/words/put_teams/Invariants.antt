use Rattle.std.proofs.Common.{length, take}
use Rattle.std.specs.List.{flat_map, range_with_len}
use Rattle.crew_io.specs.Puts.{Puts}
use Rattle.crew_io.specs.Chains.{fine}
use Rattle.line_out.specs.Parts.{next_word}
use Rattle.why_not.specs.Why.{team_word}
use Rattle.why_not.proofs.words.put_teams.Given as goal

abbrev pub invariant-loop-k : goal.invariant-loop-k
invariant-loop-k g l =
    Puts g.K.Sink (flat_map (λ k. next_word (team_word l.days.instance l.days.plan l.j l.t k)) (take l.k (range_with_len 0 (length l.days.instance.teams)))) l.fn.out l.out fine
