use Rattle.day_explain.proofs.Places.{record_more, records_done}
use Rattle.day_explain.proofs.told.tell.Goals as goal

pub loop-faulty-preserved : goal.loop-faulty-preserved
loop-faulty-preserved c = record {
  so_far = record_more _ _ c.args.records.now c.loop-faulty.faulty-index c.faulty-item.result c.loop-faulty-test.true c.faulty-item.is c.loop-faulty.invariant.so_far c.in_ok-tell_record.ensures.placed;
  lines = c.in_ok-tell_record.ensures.lines c.loop-faulty.invariant.lines;
}

pub returns-clause-placed : goal.returns-clause-placed
returns-clause-placed c = records_done _ c.args.records.now c.loop-faulty.faulty-index c.loop-faulty-test.false c.loop-faulty.invariant.so_far

pub returns-clause-lines : goal.returns-clause-lines
returns-clause-lines c = c.loop-faulty.invariant.lines
