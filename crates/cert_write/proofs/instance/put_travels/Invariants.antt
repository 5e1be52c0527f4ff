use Rattle.std.proofs.Common.{take}
use Rattle.std.specs.List.{flat_map}
use Rattle.crew_terms.specs.Words.{line_text}
use Rattle.crew_io.specs.Puts.{Puts}
use Rattle.crew_io.specs.Chains.{fine}
use Rattle.dossier_terms.specs.Lines.{travel_line}
use Rattle.cert_write.proofs.instance.put_travels.Given as goal

abbrev pub invariant-loop-a : goal.invariant-loop-a
invariant-loop-a g l = Puts g.K.Sink (flat_map (λ x. line_text (travel_line x)) (take l.a l.instance.travel)) l.fn.out l.out fine
