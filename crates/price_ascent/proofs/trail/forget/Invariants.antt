use Rattle.std.specs.List.{All}
use Rattle.crew_terms.specs.Limits.{Limits}
use Rattle.price_ascent.specs.Found.{IsFound}
use Rattle.price_ascent.proofs.trail.forget.Given as goal

abbrev pub invariant-loop : goal.invariant-loop
invariant-loop l = (n : Limits) → All (IsFound n) l.fn.routes.items → All (IsFound n) l.routes.items
