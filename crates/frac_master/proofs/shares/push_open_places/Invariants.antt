use Rattle.std.proofs.Common.{◌≡◌, ◌++◌, take}
use Rattle.search_terms.specs.Opening.{places_where}
use Rattle.search_terms.specs.Overflows.{is_unassigned}
use Rattle.frac_master.proofs.shares.push_open_places.Given as goal

abbrev pub invariant-loop-j : goal.invariant-loop-j
invariant-loop-j l = l.at.items ≡ l.initial.at.items ++ places_where is_unassigned 0 (take l.j l.places)
