use Rattle.std.proofs.Common.{◌≤◌, ◌<◌, ◌∷◌, [], List, ℕ, length, map, ap, sym, subst, arith}
use Rattle.std.specs.List.{filter, flat_map, range_with_len}
use Rattle.std.proofs.lemmas.List.FromFn.{length-range_with_len}
use Rattle.crew_terms.specs.Ranges.{numbered}
use Rattle.crew_terms.specs.Words.{line_text}
use Rattle.crew_io.specs.Chains.{puts_nothing, puts_same, puts_more, puts_more_front, puts_all}
use Rattle.line_out.specs.Lines.{of_those}
use Rattle.delay_print.specs.Texts.{delay_line, is_late}
use Rattle.delay_print.proofs.put_lates.Goals as goal

below : (j n : ℕ) → j < n → j < length (range_with_len 0 n)
below j n h = subst (λ l. j < l) (sym (length-range_with_len 0 n)) h

pub loop-j-preserved : goal.loop-j-preserved
loop-j-preserved g c =
    let n = length c.args.plan.now in
    let one : ℕ → List ℕ = λ j. flat_map line_text (map (delay_line c.args.instance.now c.args.plan.now c.args.waits.now) (filter (is_late c.args.plan.now c.args.waits.now) (j ∷ []))) in
    let within : c.loop-j.j < n = (let t = c.loop-j-test.true in let e = c.len-j-end.ensures.count in omega (arith, t, e)) in
    puts_more g.K.Sink one (range_with_len 0 n) c.loop-j.j 0 (below c.loop-j.j n within) _ _ _ _ _ c.loop-j.invariant
    (puts_same g.K.Sink _ _ _ _ _ (ap one (sym (numbered n c.loop-j.j within))) c.in_ok-put_if_late.ensures)

pub returns-in_err-put_if_late : goal.returns-in_err-put_if_late
returns-in_err-put_if_late g c =
    let n = length c.args.plan.now in
    let one : ℕ → List ℕ = λ j. flat_map line_text (map (delay_line c.args.instance.now c.args.plan.now c.args.waits.now) (filter (is_late c.args.plan.now c.args.waits.now) (j ∷ []))) in
    let within : c.loop-j.j < n = (let t = c.loop-j-test.true in let e = c.len-j-end.ensures.count in omega (arith, t, e)) in
    puts_same g.K.Sink _ _ _ _ _ (of_those (is_late c.args.plan.now c.args.waits.now) (delay_line c.args.instance.now c.args.plan.now c.args.waits.now) (range_with_len 0 n))
    (puts_more_front g.K.Sink one (range_with_len 0 n) c.loop-j.j 0 (below c.loop-j.j n within) _ _ _ _ _ c.from_residual.result c.from_residual.ensures.0 c.loop-j.invariant
    (puts_same g.K.Sink _ _ _ _ _ (ap one (sym (numbered n c.loop-j.j within))) c.in_err-put_if_late.ensures))

pub returns : goal.returns
returns g c =
    let n = length c.args.plan.now in
    let one : ℕ → List ℕ = λ j. flat_map line_text (map (delay_line c.args.instance.now c.args.plan.now c.args.waits.now) (filter (is_late c.args.plan.now c.args.waits.now) (j ∷ []))) in
    let past : length (range_with_len 0 n) ≤ c.loop-j.j =
    (let t = c.loop-j-test.false in let e = c.len-j-end.ensures.count in let l = length-range_with_len 0 n in omega (arith, t, e, l)) in
    puts_same g.K.Sink _ _ _ _ _ (of_those (is_late c.args.plan.now c.args.waits.now) (delay_line c.args.instance.now c.args.plan.now c.args.waits.now) (range_with_len 0 n))
    (puts_all g.K.Sink one (range_with_len 0 n) c.loop-j.j _ _ _ _ past c.loop-j.invariant)
