use Rattle.std.proofs.Common.{◌≤◌, ◌+◌, ℕ}
use Rattle.crew_terms.specs.declared.TheConstants.{LAST_MINUTE}
use Rattle.delay_wave.specs.Steps.{EndBy, IsWaitAfter}
use Rattle.delay_wave.proofs.steps.wait_of.Given as goal

abbrev pub invariant-loop-k : goal.invariant-loop-k
invariant-loop-k l = record {
  wait : IsWaitAfter l.instance l.last l.turn l.teams l.k-index l.wait;
  limit : (b : ℕ) → l.turn.start ≤ b → EndBy l.instance l.last b → l.wait.start ≤ b + LAST_MINUTE;
}
