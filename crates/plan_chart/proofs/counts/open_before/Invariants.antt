use Rattle.std.proofs.Common.{◌≡◌, ◌≤◌, take}
use Rattle.std.specs.Prelude.{count_by, is_none}
use Rattle.plan_chart.proofs.counts.open_before.Given as goal

abbrev pub invariant-loop-h : goal.invariant-loop-h
invariant-loop-h l = record {
  few : l.n ≤ l.h;
  so_far : l.n ≡ count_by is_none (take l.h l.plan);
}
