use Rattle.std.proofs.Common.{◌≡◌, ◌≤◌, take}
use Rattle.std.specs.Prelude.{count_by}
use Rattle.plan_chart.specs.Counts.{has_several}
use Rattle.plan_chart.proofs.counts.joint_before.Given as goal

abbrev pub invariant-loop-h : goal.invariant-loop-h
invariant-loop-h l = record {
  few : l.n ≤ l.h;
  so_far : l.n ≡ count_by has_several (take l.h l.plan);
}
