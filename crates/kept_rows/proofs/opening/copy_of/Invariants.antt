use Rattle.std.proofs.Common.{◌≡◌, take}
use Rattle.kept_rows.proofs.opening.copy_of.Given as goal

abbrev pub invariant-loop-j : goal.invariant-loop-j
invariant-loop-j l = l.copy.items ≡ take l.j-index l.places
