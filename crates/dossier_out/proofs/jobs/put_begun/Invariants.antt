use Rattle.std.proofs.Common.{take}
use Rattle.std.specs.List.{flat_map, enumerate_from}
use Rattle.crew_io.specs.Puts.{Puts}
use Rattle.crew_io.specs.Chains.{fine}
use Rattle.dossier_terms.specs.Lines.{do_line}
use Rattle.dossier_out.proofs.JobTexts.{job_text}
use Rattle.dossier_out.proofs.jobs.put_begun.Given as goal

abbrev pub invariant-loop-j : goal.invariant-loop-j
invariant-loop-j g l = Puts g.K.Sink (flat_map (job_text do_line) (take l.j (enumerate_from 0 l.plan))) l.fn.out l.out fine
