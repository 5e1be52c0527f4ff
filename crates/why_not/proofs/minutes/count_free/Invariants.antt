use Rattle.std.proofs.Common.{◌≡◌, take}
use Rattle.std.specs.Prelude.{count_by}
use Rattle.why_not.specs.Fits.{is_free}
use Rattle.why_not.proofs.minutes.count_free.Given as goal

abbrev pub invariant-loop-obstacle : goal.invariant-loop-obstacle
invariant-loop-obstacle l = l.free ≡ count_by is_free (take l.obstacle-index l.row)
