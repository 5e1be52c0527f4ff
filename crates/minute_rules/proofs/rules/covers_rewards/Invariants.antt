use Rattle.std.proofs.Common.{◌≤ℤ◌, ◌<◌, ℕ, get_or}
use Rattle.std.specs.Prelude.{pos}
use Rattle.minute_rules.specs.Rules.{reward_at}
use Rattle.minute_rules.proofs.rules.covers_rewards.Given as goal

abbrev pub invariant-loop-a : goal.invariant-loop-a
invariant-loop-a l = (b : ℕ) → b < l.a → reward_at l.task l.prices l.here.first b ≤ℤ get_or l.here.potentials.now b (pos 0)
