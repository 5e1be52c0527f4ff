use Rattle.std.specs.List.{All}
use Rattle.branch_choice.specs.Uses.{IsPermittedUse}
use Rattle.crew_terms.specs.Limits.{Limits}
use Rattle.price_ascent.specs.Found.{IsFound}
use Rattle.price_ascent.proofs.averages.average_uses.Given as goal

abbrev pub invariant-loop-n : goal.invariant-loop-n
invariant-loop-n l = (n : Limits) → All (IsFound n) l.routes.items → All (IsPermittedUse n) l.uses.items
