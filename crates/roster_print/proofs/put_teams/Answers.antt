use Rattle.std.proofs.Common.{◌≤◌, ◌<◌, List, ℕ, length, ap, sym, subst, arith}
use Rattle.std.specs.List.{range_with_len}
use Rattle.std.proofs.lemmas.List.FromFn.{length-range_with_len}
use Rattle.crew_terms.specs.Ranges.{numbered}
use Rattle.crew_io.specs.Chains.{puts_nothing, puts_same, puts_more, puts_more_front, puts_all}
use Rattle.roster_print.specs.Roster.{team_lines}
use Rattle.roster_print.proofs.Texts.{text, of_lists}
use Rattle.roster_print.proofs.put_teams.Goals as goal

below : (j n : ℕ) → j < n → j < length (range_with_len 0 n)
below j n h = subst (λ l. j < l) (sym (length-range_with_len 0 n)) h

pub loop-k-init : goal.loop-k-init
loop-k-init g c = puts_nothing g.K.Sink c.args.out.now

pub loop-k-preserved : goal.loop-k-preserved
loop-k-preserved g c =
    let n = length c.args.instance.now.teams in
    let one : ℕ → List ℕ = λ k. text (team_lines c.args.instance.now c.args.plan.now k) in
    let within : c.loop-k.k < n = (let t = c.loop-k-test.true in let e = c.teams-k-end.ensures.count in omega (arith, t, e)) in
    puts_more g.K.Sink one (range_with_len 0 n) c.loop-k.k 0 (below c.loop-k.k n within) _ _ _ _ _ c.loop-k.invariant
    (puts_same g.K.Sink _ _ _ _ _ (ap one (sym (numbered n c.loop-k.k within))) c.in_ok-put_team.ensures)

pub returns-in_err-put_team : goal.returns-in_err-put_team
returns-in_err-put_team g c =
    let n = length c.args.instance.now.teams in
    let one : ℕ → List ℕ = λ k. text (team_lines c.args.instance.now c.args.plan.now k) in
    let within : c.loop-k.k < n = (let t = c.loop-k-test.true in let e = c.teams-k-end.ensures.count in omega (arith, t, e)) in
    puts_same g.K.Sink _ _ _ _ _ (of_lists (team_lines c.args.instance.now c.args.plan.now) (range_with_len 0 n))
    (puts_more_front g.K.Sink one (range_with_len 0 n) c.loop-k.k 0 (below c.loop-k.k n within) _ _ _ _ _ c.from_residual.result c.from_residual.ensures.0 c.loop-k.invariant
    (puts_same g.K.Sink _ _ _ _ _ (ap one (sym (numbered n c.loop-k.k within))) c.in_err-put_team.ensures))

pub returns : goal.returns
returns g c =
    let n = length c.args.instance.now.teams in
    let one : ℕ → List ℕ = λ k. text (team_lines c.args.instance.now c.args.plan.now k) in
    let past : length (range_with_len 0 n) ≤ c.loop-k.k =
    (let t = c.loop-k-test.false in let e = c.teams-k-end.ensures.count in let l = length-range_with_len 0 n in omega (arith, t, e, l)) in
    puts_same g.K.Sink _ _ _ _ _ (of_lists (team_lines c.args.instance.now c.args.plan.now) (range_with_len 0 n)) (puts_all g.K.Sink one (range_with_len 0 n) c.loop-k.k _ _ _ _ past c.loop-k.invariant)
