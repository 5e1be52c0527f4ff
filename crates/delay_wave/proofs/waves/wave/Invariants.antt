use Rattle.std.proofs.Common.{◌≡◌, ◌+◌, ◌*◌, length}
use Rattle.delay_wave.specs.declared.lates.TheConstants.{LATEST_END}
use Rattle.delay_wave.specs.Steps.{EndBy}
use Rattle.delay_wave.proofs.SoFar.{IsSoFar}
use Rattle.delay_wave.proofs.waves.wave.Given as goal

abbrev pub invariant-loop-turn : goal.invariant-loop-turn
invariant-loop-turn l = record {
  teams : length l.last.items ≡ length l.instance.teams;
  so_far : IsSoFar l.instance l.plan l.lates l.turn-items l.turn-index l.last.items l.waits.items;
  ends : EndBy l.instance l.last.items (LATEST_END * (l.turn-index + 1));
}
