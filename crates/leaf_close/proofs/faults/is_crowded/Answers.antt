use Rattle.std.proofs.Common.{◌∙◌, ap, arith}
use Rattle.std.proofs.lemmas.Bool.{ltb-true, lt-ltb}
use Rattle.crew_terms.specs.Instance.{task_of}
use Rattle.leaf_close.proofs.Listing.{required_length}
use Rattle.leaf_close.proofs.faults.is_crowded.Goals as goal

pub returns : goal.returns
returns c =
    let count = c.required.ensures.count ∙ required_length c.args.limits.now.limits c.args.j c.instance.ensures.limits in
    let teams = ap (λ t. t.teams) (c.task.ensures.task ∙ ap (λ i. task_of i c.args.j) c.instance.ensures.instance) in (
      (λ h. let l = ltb-true c.task.result.now.teams c.required.result h in record { known = c.requires; some = c.required.ensures.some.0 (omega arith); many = omega arith }),
      (λ is. lt-ltb c.task.result.now.teams c.required.result (let l = is.many in omega arith)),
    )
