use Rattle.std.proofs.Common.{arith}
use Rattle.part_laws.proofs.Open.{few_open, known_together, open_together}
use Rattle.part_laws.proofs.open_tasks_of_parts_add.Goals as goal
use Rattle.std.specs.Prelude.{flat_map}
use Rattle.part_terms.specs.Parts.{Part}

pub returns : goal.returns
returns c = λ i parts p are legal.
    let same = open_together p parts in
    let few = few_open (flat_map (λ (part : Part). part.tasks) parts) p (known_together i parts p legal.feasible.whole are.each) are.once in
    omega arith
