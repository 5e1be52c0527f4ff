use Rattle.std.proofs.Common.{◌<◌, ℕ}
use Rattle.crew_terms.specs.Limits.{pair_of}
use Rattle.label_pricing.specs.Alike.{IsPairAlike}
use Rattle.label_pricing.proofs.likeness.alike.Given as goal

abbrev pub invariant-loop-j : goal.invariant-loop-j
invariant-loop-j l = (j : ℕ) → j < l.j → IsPairAlike (pair_of l.limits.limits l.k j) (pair_of l.limits.limits l.h j)
