use Rattle.std.proofs.Common.{IfSome}
use Rattle.split_uses.specs.Permitted.{IsPermittedScored}
use Rattle.split_uses.proofs.picking.favoured_uses.Given as goal

abbrev pub invariant-loop-task : goal.invariant-loop-task
invariant-loop-task l = record {
  best : IfSome l.best (IsPermittedScored l.limits.limits);
  other : IfSome l.other (IsPermittedScored l.limits.limits);
}
