use Rattle.std.proofs.Common.{◌≡◌, length}
use Rattle.minute_rules.proofs.rules.room_for.Given as goal

abbrev pub invariant-loop : goal.invariant-loop
invariant-loop l = length l.ahead.items ≡ l.counter
