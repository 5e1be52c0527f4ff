use Rattle.std.proofs.Common.{ℕ}
use Rattle.plan_builder.specs.Schedules.{IsDayAt}
use Rattle.plan_builder.proofs.Days.{IsNotFrom}
use Rattle.plan_builder.proofs.schedule.look_anew.Given as goal

abbrev pub invariant-loop-k : goal.invariant-loop-k
invariant-loop-k l = (h : ℕ) → IsNotFrom l.plan l.teams l.k-index h → IsDayAt l.plan l.days h
