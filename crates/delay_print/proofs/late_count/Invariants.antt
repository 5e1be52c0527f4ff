use Rattle.std.proofs.Common.{◌≡◌, ◌≤◌, length}
use Rattle.delay_print.specs.Texts.{is_late}
use Rattle.delay_print.proofs.Counted.{passing}
use Rattle.delay_print.proofs.late_count.Given as goal

abbrev pub invariant-loop-j : goal.invariant-loop-j
invariant-loop-j l = record {
  counted : l.count ≡ length (passing (is_late l.plan l.waits) l.j);
  few : l.count ≤ l.j;
}
