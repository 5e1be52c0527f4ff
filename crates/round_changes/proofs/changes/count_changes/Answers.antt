use Rattle.std.proofs.Common.{refl}
use Rattle.round_changes.specs.Changes.{counts_of}
use Rattle.round_changes.proofs.changes.count_changes.Goals as goal

pub returns : goal.returns
unfolding counts_of
returns c = rw (c.count.ensures, c.count-2.ensures, c.count-3.ensures, c.count-4.ensures, c.count_gone.ensures) refl
