use Rattle.std.proofs.Common.{IfSome}
use Rattle.branch_choice.specs.Uses.{IsPermittedUse}
use Rattle.split_uses.proofs.windows.cut_after.Given as goal

abbrev pub invariant-loop-span : goal.invariant-loop-span
invariant-loop-span l = record {
  early : IfSome l.early (IsPermittedUse l.limits.limits);
  late : IfSome l.late (IsPermittedUse l.limits.limits);
}
