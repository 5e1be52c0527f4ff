use Rattle.frac_master.proofs.Living.{IsRunTo}
use Rattle.frac_master.proofs.running.run.Given as goal

abbrev pub invariant-loop-made : goal.invariant-loop-made
invariant-loop-made l = IsRunTo l.fn.table l.made l.table
