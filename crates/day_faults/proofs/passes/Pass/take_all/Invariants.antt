use Rattle.std.proofs.Common.{◌≡◌, ◌+◌, ◌++◌, drop}
use Rattle.day_faults.specs.Stops.{stops_among}
use Rattle.day_faults.specs.Days.{stops_of}
use Rattle.day_faults.proofs.passes.Pass.take_all.Given as goal

abbrev pub invariant-loop-n : goal.invariant-loop-n
invariant-loop-n l = stops_of l.self.records.items ++ stops_among l.self.desk (l.n + 1) (drop l.n l.entries) ≡ stops_among l.fn.self.desk 1 l.entries
