use Rattle.std.proofs.Common.{◌<◌, ◌≤◌, ◌∷◌, [], ℕ, List, length, map, ap, sym, arith}
use Rattle.std.specs.List.{filter, range_with_len}
use Rattle.std.proofs.lemmas.List.FromFn.{length-range_with_len}
use Rattle.crew_io.specs.Chains.{puts_nothing, puts_same, puts_more, puts_more_front, puts_all}
use Rattle.crew_terms.specs.Limits.{Limits, tasks_in}
use Rattle.crew_terms.specs.Ranges.{numbered}
use Rattle.potentials.specs.Table.{PotentialRow}
use Rattle.line_out.specs.Lines.{of_those}
use Rattle.dossier_out.specs.Tables.{may_begin, row_line}
use Rattle.dossier_out.specs.Texts.{below_range, text}
use Rattle.dossier_out.proofs.tables.put_rows.Goals as goal

-- the line of task j, if the team may begin it
abbrev one : Limits → ℕ → List PotentialRow → ℕ → List ℕ
one n k table j = text (map (row_line n k table) (filter (may_begin n k) (j ∷ [])))

pub loop-j-init : goal.loop-j-init
loop-j-init g c = puts_nothing g.K.Sink c.args.out.now

pub loop-j-preserved : goal.loop-j-preserved
loop-j-preserved g c =
    let n = c.args.limits.now.limits in
    let f = one n c.args.k c.args.table.now in
    let within : c.loop-j.j < tasks_in n = (let t = c.loop-j-test.true in let e = c.tasks-j-end.ensures.count in let i = c.instance.ensures.instance in let l = ap (λ x. length x.tasks) i in omega (arith, t, e, l)) in
    puts_more g.K.Sink f (range_with_len 0 (tasks_in n)) c.loop-j.j 0 (below_range c.loop-j.j (tasks_in n) within) _ _ _ _ _ c.loop-j.invariant
    (puts_same g.K.Sink _ _ _ _ _ (ap f (sym (numbered (tasks_in n) c.loop-j.j within))) c.in_ok-put_if_open.ensures)

pub returns-in_err-put_if_open : goal.returns-in_err-put_if_open
returns-in_err-put_if_open g c =
    let n = c.args.limits.now.limits in
    let f = one n c.args.k c.args.table.now in
    let within : c.loop-j.j < tasks_in n = (let t = c.loop-j-test.true in let e = c.tasks-j-end.ensures.count in let i = c.instance.ensures.instance in let l = ap (λ x. length x.tasks) i in omega (arith, t, e, l)) in
    puts_same g.K.Sink _ _ _ _ _ (of_those (may_begin n c.args.k) (row_line n c.args.k c.args.table.now) (range_with_len 0 (tasks_in n)))
    (puts_more_front g.K.Sink f (range_with_len 0 (tasks_in n)) c.loop-j.j 0 (below_range c.loop-j.j (tasks_in n) within) _ _ _ _ _ c.from_residual.result c.from_residual.ensures.0 c.loop-j.invariant
    (puts_same g.K.Sink _ _ _ _ _ (ap f (sym (numbered (tasks_in n) c.loop-j.j within))) c.in_err-put_if_open.ensures))

pub returns : goal.returns
returns g c =
    let n = c.args.limits.now.limits in
    let past : length (range_with_len 0 (tasks_in n)) ≤ c.loop-j.j =
    (let t = c.loop-j-test.false in let e = c.tasks-j-end.ensures.count in let i = c.instance.ensures.instance in let m = ap (λ x. length x.tasks) i in let l = length-range_with_len 0 (tasks_in n) in omega (arith, t, e, m, l)) in
    puts_same g.K.Sink _ _ _ _ _ (of_those (may_begin n c.args.k) (row_line n c.args.k c.args.table.now) (range_with_len 0 (tasks_in n)))
    (puts_all g.K.Sink (one n c.args.k c.args.table.now) (range_with_len 0 (tasks_in n)) c.loop-j.j _ _ _ _ past c.loop-j.invariant)
