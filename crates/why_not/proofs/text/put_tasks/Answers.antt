use Rattle.std.proofs.Common.{◌≤◌, ◌<◌, ◌∷◌, [], ℕ, List, length, ap, sym, arith}
use Rattle.std.specs.List.{filter, flat_map, range_with_len}
use Rattle.std.proofs.lemmas.List.FromFn.{length-range_with_len}
use Rattle.crew_terms.specs.Plan.{Plan}
use Rattle.crew_terms.specs.Ranges.{numbered}
use Rattle.crew_io.specs.Chains.{puts_nothing, puts_same, puts_more, puts_more_front, puts_all}
use Rattle.roster_print.specs.Roster.{is_unassigned}
use Rattle.why_not.specs.Days.{Planned}
use Rattle.why_not.specs.Why.{task_text}
use Rattle.why_not.proofs.Texts.{below, each_open}
use Rattle.why_not.proofs.text.put_tasks.Goals as goal

-- what is written of a task, if it is open
abbrev one : Planned → ℕ → List ℕ
one s j = flat_map (task_text s.instance s.plan) (filter (is_unassigned s.plan) (j ∷ []))

pub put_if_open-requires : goal.put_if_open-requires
put_if_open-requires g c =
    let l = c.loop-j-test.true in
    let e = c.len-j-end.ensures.count in
    let same = ap (λ (p : Plan). length p) c.plan.ensures.plan in
    omega arith

pub loop-j-init : goal.loop-j-init
loop-j-init g c = puts_nothing g.K.Sink c.args.out.now

pub loop-j-preserved : goal.loop-j-preserved
loop-j-preserved g c =
    let s = c.args.days.now in
    let n = length s.plan in
    let within : c.loop-j.j < n = (let l = c.loop-j-test.true in let e = c.len-j-end.ensures.count in let same = ap (λ (p : Plan). length p) c.plan.ensures.plan in omega arith) in
    puts_more g.K.Sink (one s) (range_with_len 0 n) c.loop-j.j 0 (below c.loop-j.j n within) _ _ _ _ _ c.loop-j.invariant
    (puts_same g.K.Sink _ _ _ _ _ (ap (one s) (sym (numbered n c.loop-j.j within))) c.in_ok-put_if_open.ensures)

pub returns-in_err-put_if_open : goal.returns-in_err-put_if_open
returns-in_err-put_if_open g c =
    let s = c.args.days.now in
    let n = length s.plan in
    let within : c.loop-j.j < n = (let l = c.loop-j-test.true in let e = c.len-j-end.ensures.count in let same = ap (λ (p : Plan). length p) c.plan.ensures.plan in omega arith) in
    puts_same g.K.Sink _ _ _ _ _ (each_open (is_unassigned s.plan) (task_text s.instance s.plan) (range_with_len 0 n))
    (puts_more_front g.K.Sink (one s) (range_with_len 0 n) c.loop-j.j 0 (below c.loop-j.j n within) _ _ _ _ _ c.from_residual.result c.from_residual.ensures.0 c.loop-j.invariant
    (puts_same g.K.Sink _ _ _ _ _ (ap (one s) (sym (numbered n c.loop-j.j within))) c.in_err-put_if_open.ensures))

pub returns : goal.returns
returns g c =
    let s = c.args.days.now in
    let n = length s.plan in
    let past : length (range_with_len 0 n) ≤ c.loop-j.j =
    (let l = c.loop-j-test.false in let e = c.len-j-end.ensures.count in let same = ap (λ (p : Plan). length p) c.plan.ensures.plan in let m = length-range_with_len 0 n in omega arith)
    in
    puts_same g.K.Sink _ _ _ _ _ (each_open (is_unassigned s.plan) (task_text s.instance s.plan) (range_with_len 0 n))
    (puts_all g.K.Sink (one s) (range_with_len 0 n) c.loop-j.j _ _ _ _ past c.loop-j.invariant)
