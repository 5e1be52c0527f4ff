use Rattle.std.proofs.Common.{arith}
use Rattle.part_laws.proofs.Open.{sum_below}
use Rattle.part_laws.proofs.bounds_of_parts_add.Goals as goal
use Rattle.crew_terms.specs.Plan.{unassigned_count}
use Rattle.part_terms.specs.Parts.{Part, cut_down}

pub returns : goal.returns
returns c = λ i parts bound p is are each legal.
    let most = c.open_tasks_of_parts_add.ensures i parts p are legal in
    let least = sum_below bound (λ (part : Part). unassigned_count (cut_down p part.tasks)) parts
    (λ m d l. each m d l (cut_down p _) (c.restricted_plans_are_legal.ensures i _ _ p is (are.each m d l) legal)) in
    omega arith
