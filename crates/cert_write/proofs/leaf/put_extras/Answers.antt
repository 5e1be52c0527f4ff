use Rattle.std.proofs.Common.{◌<◌, ◌≤◌, ◌∷◌, [], ℕ, List, length, map, ap, sym, arith}
use Rattle.std.specs.List.{filter, range_with_len}
use Rattle.std.proofs.lemmas.List.FromFn.{length-range_with_len}
use Rattle.crew_io.specs.Chains.{puts_nothing, puts_same, puts_more, puts_more_front, puts_all}
use Rattle.crew_terms.specs.Limits.{Limits, has_required, tasks_in}
use Rattle.crew_terms.specs.Leaf.{Prices}
use Rattle.crew_terms.specs.Ranges.{numbered}
use Rattle.line_out.specs.Lines.{of_those}
use Rattle.cert_write.specs.Leaves.{extra_words}
use Rattle.dossier_out.specs.Texts.{below_range, text}
use Rattle.cert_write.proofs.leaf.put_extras.Goals as goal

-- the line of task j, if it has a required pair
abbrev one : Limits → Prices → ℕ → List ℕ
one n p j = text (map (extra_words n p) (filter (has_required n) (j ∷ [])))

pub loop-j-init : goal.loop-j-init
loop-j-init g c = puts_nothing g.K.Sink c.args.out.now

pub loop-j-preserved : goal.loop-j-preserved
loop-j-preserved g c =
    let n = c.args.limits.now.limits in
    let f = one n c.args.prices.now in
    let within : c.loop-j.j < tasks_in n = (let t = c.loop-j-test.true in let e = c.tasks-j-end.ensures.count in let i = c.instance.ensures.instance in let l = ap (λ x. length x.tasks) i in omega (arith, t, e, l)) in
    puts_more g.K.Sink f (range_with_len 0 (tasks_in n)) c.loop-j.j 0 (below_range c.loop-j.j (tasks_in n) within) _ _ _ _ _ c.loop-j.invariant
    (puts_same g.K.Sink _ _ _ _ _ (ap f (sym (numbered (tasks_in n) c.loop-j.j within))) c.in_ok-put_if_priced.ensures)

pub returns-in_err-put_if_priced : goal.returns-in_err-put_if_priced
returns-in_err-put_if_priced g c =
    let n = c.args.limits.now.limits in
    let f = one n c.args.prices.now in
    let within : c.loop-j.j < tasks_in n = (let t = c.loop-j-test.true in let e = c.tasks-j-end.ensures.count in let i = c.instance.ensures.instance in let l = ap (λ x. length x.tasks) i in omega (arith, t, e, l)) in
    puts_same g.K.Sink _ _ _ _ _ (of_those (has_required n) (extra_words n c.args.prices.now) (range_with_len 0 (tasks_in n)))
    (puts_more_front g.K.Sink f (range_with_len 0 (tasks_in n)) c.loop-j.j 0 (below_range c.loop-j.j (tasks_in n) within) _ _ _ _ _ c.from_residual.result c.from_residual.ensures.0 c.loop-j.invariant
    (puts_same g.K.Sink _ _ _ _ _ (ap f (sym (numbered (tasks_in n) c.loop-j.j within))) c.in_err-put_if_priced.ensures))

pub returns : goal.returns
returns g c =
    let n = c.args.limits.now.limits in
    let past : length (range_with_len 0 (tasks_in n)) ≤ c.loop-j.j =
    (let t = c.loop-j-test.false in let e = c.tasks-j-end.ensures.count in let i = c.instance.ensures.instance in let m = ap (λ x. length x.tasks) i in let l = length-range_with_len 0 (tasks_in n) in omega (arith, t, e, m, l)) in
    puts_same g.K.Sink _ _ _ _ _ (of_those (has_required n) (extra_words n c.args.prices.now) (range_with_len 0 (tasks_in n)))
    (puts_all g.K.Sink (one n c.args.prices.now) (range_with_len 0 (tasks_in n)) c.loop-j.j _ _ _ _ past c.loop-j.invariant)
