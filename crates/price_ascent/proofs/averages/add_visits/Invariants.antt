use Rattle.std.specs.List.{All}
use Rattle.branch_choice.specs.Uses.{IsPermittedUse}
use Rattle.crew_terms.specs.Limits.{Limits}
use Rattle.price_ascent.specs.Found.{IsFound}
use Rattle.price_ascent.proofs.averages.add_visits.Given as goal

abbrev pub invariant-loop-visit : goal.invariant-loop-visit
invariant-loop-visit l = (n : Limits) → IsFound n l.route → All (IsPermittedUse n) l.fn.uses.items → All (IsPermittedUse n) l.uses.items
