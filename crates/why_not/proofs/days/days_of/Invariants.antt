use Rattle.std.proofs.Common.{◌≡◌, length}
use Rattle.why_not.specs.Days.{AreDays}
use Rattle.why_not.proofs.days.days_of.Given as goal

abbrev pub invariant-loop-k : goal.invariant-loop-k
invariant-loop-k l = (length l.days.items ≡ l.k) × AreDays l.plan l.days.items
