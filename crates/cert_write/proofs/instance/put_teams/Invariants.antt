use Rattle.std.proofs.Common.{take}
use Rattle.std.specs.List.{flat_map}
use Rattle.crew_terms.specs.Words.{line_text}
use Rattle.crew_io.specs.Puts.{Puts}
use Rattle.crew_io.specs.Chains.{fine}
use Rattle.dossier_terms.specs.Lines.{team_line}
use Rattle.cert_write.proofs.instance.put_teams.Given as goal

abbrev pub invariant-loop-k : goal.invariant-loop-k
invariant-loop-k g l = Puts g.K.Sink (flat_map (λ x. line_text (team_line x)) (take l.k l.instance.teams)) l.fn.out l.out fine
