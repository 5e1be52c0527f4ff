use Rattle.std.proofs.Common.{sym, append-nil}
use Rattle.day_explain.proofs.Places.{fault_more, faults_done}
use Rattle.day_explain.proofs.told.tell_faults.Goals as goal

pub loop-fault-init : goal.loop-fault-init
loop-fault-init c = record { so_far = sym (append-nil _); lines = λ all. all }

pub loop-fault-preserved : goal.loop-fault-preserved
loop-fault-preserved c = record {
  so_far = fault_more _ _ _ c.args.faulty.now.span.line c.args.faults.now c.loop-fault.fault-index _ c.loop-fault-test.true c.loop-fault.invariant.so_far c.in_ok-add.ensures.placed;
  lines = λ all. c.in_ok-add.ensures.lines (c.loop-fault.invariant.lines all);
}

pub returns-clause-placed : goal.returns-clause-placed
returns-clause-placed c = faults_done _ _ c.args.faulty.now.span.line c.args.faults.now c.loop-fault.fault-index c.loop-fault-test.false c.loop-fault.invariant.so_far

pub returns-clause-lines : goal.returns-clause-lines
returns-clause-lines c = c.loop-fault.invariant.lines
