use Rattle.std.proofs.Common.{◌≡◌, take}
use Rattle.part_make.proofs.lists.places_of.Given as goal

abbrev pub invariant-loop-p : goal.invariant-loop-p
invariant-loop-p l = l.places.items ≡ take l.p l.whole.places
