use Rattle.std.proofs.Common.{◌<◌, ◌≤◌, length, ap, ◌∙◌, arith}
use Rattle.std.specs.List.{enumerate_from, flat_map}
use Rattle.std.proofs.lemmas.List.{take_all}
use Rattle.dossier_out.specs.Jobs.{job_list}
use Rattle.dossier_out.proofs.JobTexts.{items_past, job_count, jobs_are}
use Rattle.dossier_out.proofs.jobs.count_frozen.Goals as goal

pub loop-j-preserved : goal.loop-j-preserved
loop-j-preserved c =
    let p = c.args.instance.now.frozen in
    let below : c.loop-j.j < length p = (let t = c.loop-j-test.true in let e = c.tasks-j-end.ensures.count in let w = c.tasks-j-end.ensures.limits.frozen.whole in omega (arith, t, e, w)) in
    let more = job_count p c.loop-j.j below in
    let n = c.count_if_frozen-count.ensures.number in
    let one = c.count_if_frozen-count.ensures.one in
    let few = c.loop-j.invariant.few in
    let so_far = c.loop-j.invariant.so_far in
    record { few = omega (arith, few, one); so_far = omega (arith, more, n, so_far) }

pub returns : goal.returns
returns c =
    let p = c.args.instance.now.frozen in
    let past : length p ≤ c.loop-j.j = (let t = c.loop-j-test.false in let e = c.tasks-j-end.ensures.count in let w = c.tasks-j-end.ensures.limits.frozen.whole in omega (arith, t, e, w)) in
    c.loop-j.invariant.so_far ∙ ap (λ is. length (flat_map (λ q. job_list q.0 q.1) is)) (take_all c.loop-j.j (enumerate_from 0 p) (items_past p c.loop-j.j past)) ∙ ap length (jobs_are 0 p)
