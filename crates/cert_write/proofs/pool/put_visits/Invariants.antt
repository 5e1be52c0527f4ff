use Rattle.std.proofs.Common.{take}
use Rattle.std.specs.List.{flat_map}
use Rattle.crew_io.specs.Puts.{Puts}
use Rattle.crew_io.specs.Chains.{fine}
use Rattle.dossier_terms.specs.Lines.{visit_words}
use Rattle.line_out.specs.Parts.{next_word}
use Rattle.cert_write.proofs.pool.put_visits.Given as goal

abbrev pub invariant-loop-visit : goal.invariant-loop-visit
invariant-loop-visit g l = Puts g.K.Sink (flat_map (λ v. flat_map next_word (visit_words v)) (take l.visit-index l.visits)) l.fn.out l.out fine
