use Rattle.part_laws.proofs.Cut.{legal_there}
use Rattle.part_laws.proofs.restricted_plans_are_legal.Goals as goal

pub returns : goal.returns
returns c = λ i j tasks p is r legal. legal_there i j tasks is r p legal (λ k. (c.root_has_routes.ensures i p k legal).1)
