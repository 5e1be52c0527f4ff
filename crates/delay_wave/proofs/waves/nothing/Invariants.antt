use Rattle.std.proofs.Common.{◌≡◌, replicate, None}
use Rattle.delay_wave.proofs.waves.nothing.Given as goal

abbrev pub invariant-loop : goal.invariant-loop
invariant-loop g l = l.all.items ≡ replicate l.counter None
