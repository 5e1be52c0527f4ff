use Rattle.std.proofs.Common.{◌∙◌, [], sym, append-nil}
use Rattle.day_faults.proofs.Goes.{goes_on_then, goes_on_with}
use Rattle.day_faults.proofs.passes.Pass.go_on.Goals as goal

pub loop-at-init : goal.loop-at-init
loop-at-init c = goes_on_with _ _ [] (c.in_ok-leave_out.ensures.told ∙ sym (append-nil _))

pub loop-at-preserved : goal.loop-at-preserved
loop-at-preserved c = goes_on_then _ _ _ c.loop-at.invariant c.in_ok-read_one.ensures
