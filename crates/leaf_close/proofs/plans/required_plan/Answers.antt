use Rattle.std.proofs.Common.{◌≤◌, ◌<◌, None, ap, sym, length, arith, ◌∙◌}
use Rattle.std.proofs.lemmas.List.{ext_get_or}
use Rattle.std.proofs.lemmas.List.FromFn.{length-map-range_with_len}
use Rattle.crew_terms.specs.Limits.{tasks_in}
use Rattle.search_terms.specs.Closing.{required_job, required_plan}
use Rattle.leaf_close.proofs.Doing.{job_at}
use Rattle.leaf_close.proofs.plans.required_plan.Goals as goal

pub returns : goal.returns
returns c =
    let n = c.args.limits.now.limits in
    let whole = c.loop-j.invariant.whole in
    let all = length-map-range_with_len (required_job n) 0 (tasks_in n) in
    let end : tasks_in c.args.limits.now.limits ≤ c.loop-j.j = (let a = ap (λ i. length i.tasks) c.instance.ensures.instance in let b = c.loop-j-test.false in omega arith) in
    ext_get_or None c.loop-j.plan (required_plan n) (whole ∙ sym all) (λ j l. let below : j < tasks_in c.args.limits.now.limits = omega arith in c.loop-j.invariant.done j (omega arith) ∙ sym (job_at n c.instance.ensures.limits j below))
