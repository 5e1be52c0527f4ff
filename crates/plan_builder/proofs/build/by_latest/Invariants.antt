use Rattle.std.proofs.Common.{ℕ, ◌<◌, length}
use Rattle.std.specs.Prelude.{All}
use Rattle.plan_builder.proofs.build.by_latest.Given as goal

abbrev pub invariant-loop-j : goal.invariant-loop-j
invariant-loop-j l = All (λ (v : ℕ × ℕ). v.1 < length l.instance.tasks) l.order.items
