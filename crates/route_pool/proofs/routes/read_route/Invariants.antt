use Rattle.std.proofs.Common.{◌≡◌, List, take}
use Rattle.crew_terms.specs.declared.Visit.{Visit}
use Rattle.route_pool.specs.Numbers.{AreNumbersOf}
use Rattle.route_pool.proofs.routes.read_route.Given as goal

-- the visits so far
abbrev pub invariant-loop-n : goal.invariant-loop-n
invariant-loop-n l = (visits : List Visit) → AreNumbersOf visits l.numbers → l.visits.items ≡ take l.n visits
