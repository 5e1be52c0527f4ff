use Rattle.std.proofs.Common.{◌≡◌, length}
use Rattle.delay_wave.specs.Steps.{AreNoted}
use Rattle.delay_wave.proofs.steps.note.Given as goal

abbrev pub invariant-loop-k : goal.invariant-loop-k
invariant-loop-k l = AreNoted l.initial.last l.teams l.k-index l.ended l.last
