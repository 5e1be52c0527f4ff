use Rattle.std.proofs.Common.{◌++◌, ◌∷◌, []}
use Rattle.day_faults.specs.Days.{GoesOn, stop_in_itself, stops_of}
use Rattle.day_faults.proofs.passes.Pass.go_on.Given as goal

abbrev pub invariant-loop-at : goal.invariant-loop-at
invariant-loop-at l = GoesOn (stops_of l.fn.self.records.items ++ stop_in_itself l.fn.bad ∷ []) (stops_of l.self.records.items)
