use Rattle.std.proofs.Common.{◌<◌}
use Rattle.std.specs.List.{All}
use Rattle.branch_choice.specs.Uses.{IsPermittedUse}
use Rattle.crew_terms.specs.Limits.{Limits, IsRoute, teams_in}
use Rattle.node_solver.proofs.uses.add_visits.Given as goal

abbrev pub invariant-loop-visit : goal.invariant-loop-visit
invariant-loop-visit l = (n : Limits) → l.team < teams_in n → IsRoute n l.team l.visits → All (IsPermittedUse n) l.fn.uses.items
    → All (IsPermittedUse n) l.uses.items
