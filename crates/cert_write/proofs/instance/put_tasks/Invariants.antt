use Rattle.std.proofs.Common.{take}
use Rattle.std.specs.List.{flat_map}
use Rattle.crew_terms.specs.Words.{line_text}
use Rattle.crew_io.specs.Puts.{Puts}
use Rattle.crew_io.specs.Chains.{fine}
use Rattle.dossier_terms.specs.Lines.{task_line}
use Rattle.cert_write.proofs.instance.put_tasks.Given as goal

abbrev pub invariant-loop-j : goal.invariant-loop-j
invariant-loop-j g l = Puts g.K.Sink (flat_map (λ x. line_text (task_line x)) (take l.j l.instance.tasks)) l.fn.out l.out fine
