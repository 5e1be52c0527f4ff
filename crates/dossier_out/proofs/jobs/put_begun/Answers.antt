use Rattle.std.proofs.Common.{◌<◌, ◌≤◌, length, ap, sym, arith}
use Rattle.std.specs.Prelude.{None}
use Rattle.std.specs.List.{enumerate_from}
use Rattle.crew_io.specs.Chains.{puts_nothing, puts_same, puts_more, puts_more_front, puts_all}
use Rattle.dossier_terms.specs.Lines.{do_line}
use Rattle.dossier_out.proofs.JobTexts.{job_text, jobs_texts, job_item, items_below, items_past}
use Rattle.dossier_out.proofs.jobs.put_begun.Goals as goal

pub loop-j-init : goal.loop-j-init
loop-j-init g c = puts_nothing g.K.Sink c.args.out.now

pub loop-j-preserved : goal.loop-j-preserved
loop-j-preserved g c =
    let p = c.args.plan.now in
    let below : c.loop-j.j < length p = (let t = c.loop-j-test.true in let e = c.len-j-end.ensures.count in omega (arith, t, e)) in
    puts_more g.K.Sink (job_text do_line) (enumerate_from 0 p) c.loop-j.j (0, None) (items_below p c.loop-j.j below) _ _ _ _ _ c.loop-j.invariant
    (puts_same g.K.Sink _ _ _ _ _ (ap (job_text do_line) (sym (job_item p c.loop-j.j below))) c.in_ok-put_if_begun.ensures)

pub returns-in_err-put_if_begun : goal.returns-in_err-put_if_begun
returns-in_err-put_if_begun g c =
    let p = c.args.plan.now in
    let below : c.loop-j.j < length p = (let t = c.loop-j-test.true in let e = c.len-j-end.ensures.count in omega (arith, t, e)) in
    puts_same g.K.Sink _ _ _ _ _ (jobs_texts do_line 0 p)
    (puts_more_front g.K.Sink (job_text do_line) (enumerate_from 0 p) c.loop-j.j (0, None) (items_below p c.loop-j.j below) _ _ _ _ _ c.from_residual.result c.from_residual.ensures.0 c.loop-j.invariant
    (puts_same g.K.Sink _ _ _ _ _ (ap (job_text do_line) (sym (job_item p c.loop-j.j below))) c.in_err-put_if_begun.ensures))

pub returns : goal.returns
returns g c =
    let p = c.args.plan.now in
    let past : length p ≤ c.loop-j.j = (let t = c.loop-j-test.false in let e = c.len-j-end.ensures.count in omega (arith, t, e)) in
    puts_same g.K.Sink _ _ _ _ _ (jobs_texts do_line 0 p) (puts_all g.K.Sink (job_text do_line) (enumerate_from 0 p) c.loop-j.j _ _ _ _ (items_past p c.loop-j.j past) c.loop-j.invariant)
