use Rattle.std.proofs.Common.{◌≡◌, ◌∙◌, ap, arith, map, replicate, None}
use Rattle.std.specs.Option.{option_map}
use Rattle.crew_instance.specs.Kept.{job_in}
use Rattle.crew_instance.proofs.Slots.{map-replicate}
use Rattle.crew_instance.proofs.plans.Plan.empty.Goals as goal

pub returns : goal.returns
returns c =
    let n : c.loop.counter ≡ c.args.tasks = let a = c.loop-test.false in let b = c.loop.auto.counter-end in omega arith in
    ap (map (option_map job_in)) c.loop.invariant ∙ map-replicate (option_map job_in) c.loop.counter None ∙ ap (λ k. replicate k None) n
