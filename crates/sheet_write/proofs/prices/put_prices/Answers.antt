use Rattle.std.proofs.Common.{◌<◌, ◌≤◌, [], length, ap, ◌∙◌, arith}
use Rattle.std.specs.List.{enumerate_from}
use Rattle.crew_io.specs.Chains.{puts_nothing, puts_same, puts_more, puts_more_front, puts_all}
use Rattle.crew_terms.specs.Words.{line_text}
use Rattle.sheet_terms.specs.Lines.{minutes_line}
use Rattle.sheet_write.proofs.Texts.{minutes_text, minutes_texts, row_item, rows_below, rows_past}
use Rattle.sheet_write.proofs.prices.put_prices.Goals as goal

pub loop-j-init : goal.loop-j-init
loop-j-init g c = puts_nothing g.K.Sink c.args.out.now

pub loop-j-preserved : goal.loop-j-preserved
loop-j-preserved g c =
    let i = c.args.instance.now in
    let p = c.args.prices.now in
    let j = c.loop-j.j in
    let below : j < length p = (let t = c.loop-j-test.true in let e = c.tasks-j-end.ensures.count in let r = c.requires in omega (arith, t, e, r)) in
    puts_more g.K.Sink (minutes_text i) (enumerate_from 0 p) j (0, []) (rows_below p j below) _ _ _ _ _ c.loop-j.invariant
    (puts_same g.K.Sink _ _ _ _ _ (ap (λ vs. line_text (minutes_line i j vs)) c.row.ensures ∙ ap (minutes_text i) (row_item p j below)) c.in_ok-put_minutes.ensures)

pub returns-in_err-put_minutes : goal.returns-in_err-put_minutes
returns-in_err-put_minutes g c =
    let i = c.args.instance.now in
    let p = c.args.prices.now in
    let j = c.loop-j.j in
    let below : j < length p = (let t = c.loop-j-test.true in let e = c.tasks-j-end.ensures.count in let r = c.requires in omega (arith, t, e, r)) in
    puts_same g.K.Sink _ _ _ _ _ (minutes_texts i 0 p)
    (puts_more_front g.K.Sink (minutes_text i) (enumerate_from 0 p) j (0, []) (rows_below p j below) _ _ _ _ _ c.from_residual.result c.from_residual.ensures.0 c.loop-j.invariant
    (puts_same g.K.Sink _ _ _ _ _ (ap (λ vs. line_text (minutes_line i j vs)) c.row.ensures ∙ ap (minutes_text i) (row_item p j below)) c.in_err-put_minutes.ensures))

pub returns : goal.returns
returns g c =
    let i = c.args.instance.now in
    let p = c.args.prices.now in
    let past : length p ≤ c.loop-j.j = (let t = c.loop-j-test.false in let e = c.tasks-j-end.ensures.count in let r = c.requires in omega (arith, t, e, r)) in
    puts_same g.K.Sink _ _ _ _ _ (minutes_texts i 0 p) (puts_all g.K.Sink (minutes_text i) (enumerate_from 0 p) c.loop-j.j _ _ _ _ (rows_past p c.loop-j.j past) c.loop-j.invariant)
