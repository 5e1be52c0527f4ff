use Rattle.std.proofs.Common.{subst}
use Rattle.day_faults.specs.Days.{TellsWith, stops_of}
use Rattle.day_faults.specs.Stops.{stops_among}
use Rattle.day_faults.proofs.Firsts.{stops_first}
use Rattle.day_faults.proofs.passes.faults_of.Goals as goal

pub returns-clause-told : goal.returns-clause-told
returns-clause-told c = record {
  entries = c.in_ok-day.day.entries;
  stop = c.in_ok-day.day.stop;
  day = c.in_ok-day.ensures.says;
  tells = subst (λ s. TellsWith c.in_ok-day.day.stop (stops_among s 1 c.in_ok-day.day.entries) (stops_of c.take_day.new.self.records.items)) c.new-3.ensures c.in_ok-take_day.ensures;
}

pub returns-clause-first : goal.returns-clause-first
returns-clause-first c = stops_first c.args.text.now (stops_of c.take_day.new.self.records.items) (returns-clause-told c)
