use Rattle.std.specs.List.{All}
use Rattle.branch_choice.specs.Uses.{IsPermittedUse}
use Rattle.crew_terms.specs.Limits.{Limits}
use Rattle.price_ascent.proofs.averages.merged.Given as goal

abbrev pub invariant-loop-n : goal.invariant-loop-n
invariant-loop-n l = (n : Limits) → All (IsPermittedUse n) l.uses → All (IsPermittedUse n) l.merged.items
