use Rattle.std.proofs.Common.{◌∙◌, ap, arith}
use Rattle.std.proofs.lemmas.Bool.{ltb-true, lt-ltb}
use Rattle.crew_terms.specs.Instance.{task_of}
use Rattle.leaf_close.proofs.Listing.{required_length}
use Rattle.leaf_close.proofs.faults.is_short.Goals as goal

pub returns-then-required-gt0 : goal.returns-then-required-gt0
returns-then-required-gt0 c =
    let count = c.required-required.ensures.count ∙ required_length c.args.limits.now.limits c.args.j c.instance.ensures.limits in
    let teams = ap (λ t. t.teams) (c.task.ensures.task ∙ ap (λ i. task_of i c.args.j) c.instance.ensures.instance) in (
      (λ h. let l = ltb-true c.required-required.result c.task.result.now.teams h in record { known = c.requires; some = c.required-required.ensures.some.0 c.if-required-gt0.true; few = omega arith }),
      (λ is. lt-ltb c.required-required.result c.task.result.now.teams (let l = is.few in omega arith)),
    )

pub returns-else-required-gt0 : goal.returns-else-required-gt0
returns-else-required-gt0 c = (
  (λ h. let l = ltb-true 0 c.required-required.result h in absurd (let e = c.if-required-gt0.false in omega arith)),
  (λ is. lt-ltb 0 c.required-required.result (c.required-required.ensures.some.1 is.some)),
)
