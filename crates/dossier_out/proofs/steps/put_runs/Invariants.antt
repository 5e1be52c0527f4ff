use Rattle.std.proofs.Common.{◌-◌}
use Rattle.crew_io.specs.Puts.{Puts}
use Rattle.crew_io.specs.Chains.{fine}
use Rattle.dossier_out.proofs.Runs.{runs_below, runs_text}
use Rattle.dossier_out.proofs.steps.put_runs.Given as goal

abbrev pub invariant-loop-t : goal.invariant-loop-t
invariant-loop-t g l = Puts g.K.Sink (runs_text (runs_below l.table l.j l.first (l.t - l.first))) l.fn.out l.out fine
