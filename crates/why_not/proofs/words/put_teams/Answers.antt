use Rattle.std.proofs.Common.{◌≤◌, ◌<◌, ℕ, List, length, ap, sym, arith}
use Rattle.std.specs.List.{range_with_len}
use Rattle.std.proofs.lemmas.List.FromFn.{length-range_with_len}
use Rattle.crew_terms.specs.Instance.{Instance}
use Rattle.crew_terms.specs.Ranges.{numbered}
use Rattle.crew_io.specs.Chains.{puts_nothing, puts_same, puts_more, puts_more_front, puts_all}
use Rattle.line_out.specs.Parts.{next_word}
use Rattle.why_not.specs.Days.{Planned}
use Rattle.why_not.specs.Why.{team_word}
use Rattle.why_not.proofs.Texts.{below, words_of_each}
use Rattle.why_not.proofs.words.put_teams.Goals as goal

-- the word of a team
abbrev one : Planned → ℕ → ℕ → ℕ → List ℕ
one s j t k = next_word (team_word s.instance s.plan j t k)

pub put_team-requires-clause-team : goal.put_team-requires-clause-team
put_team-requires-clause-team g c =
    let l = c.loop-k-test.true in
    let e = c.teams-k-end.ensures.count in
    let same = ap (λ (x : Instance). length x.teams) c.instance.ensures.instance in
    omega arith

pub loop-k-init : goal.loop-k-init
loop-k-init g c = puts_nothing g.K.Sink c.args.out.now

pub loop-k-preserved : goal.loop-k-preserved
loop-k-preserved g c =
    let s = c.args.days.now in
    let n = length s.instance.teams in
    let within : c.loop-k.k < n =
    (let l = c.loop-k-test.true in let e = c.teams-k-end.ensures.count in let same = ap (λ (x : Instance). length x.teams) c.instance.ensures.instance in omega arith)
    in
    puts_more g.K.Sink (one s c.args.j c.args.t) (range_with_len 0 n) c.loop-k.k 0 (below c.loop-k.k n within) _ _ _ _ _ c.loop-k.invariant
    (puts_same g.K.Sink _ _ _ _ _ (ap (one s c.args.j c.args.t) (sym (numbered n c.loop-k.k within))) c.in_ok-put_team.ensures)

pub returns-in_err-put_team : goal.returns-in_err-put_team
returns-in_err-put_team g c =
    let s = c.args.days.now in
    let n = length s.instance.teams in
    let within : c.loop-k.k < n =
    (let l = c.loop-k-test.true in let e = c.teams-k-end.ensures.count in let same = ap (λ (x : Instance). length x.teams) c.instance.ensures.instance in omega arith)
    in
    puts_same g.K.Sink _ _ _ _ _ (words_of_each (team_word s.instance s.plan c.args.j c.args.t) (range_with_len 0 n))
    (puts_more_front g.K.Sink (one s c.args.j c.args.t) (range_with_len 0 n) c.loop-k.k 0 (below c.loop-k.k n within) _ _ _ _ _ c.from_residual.result c.from_residual.ensures.0 c.loop-k.invariant
    (puts_same g.K.Sink _ _ _ _ _ (ap (one s c.args.j c.args.t) (sym (numbered n c.loop-k.k within))) c.in_err-put_team.ensures))

pub returns : goal.returns
returns g c =
    let s = c.args.days.now in
    let n = length s.instance.teams in
    let past : length (range_with_len 0 n) ≤ c.loop-k.k =
    (let l = c.loop-k-test.false in let e = c.teams-k-end.ensures.count in let same = ap (λ (x : Instance). length x.teams) c.instance.ensures.instance in let m = length-range_with_len 0 n in omega arith)
    in
    puts_same g.K.Sink _ _ _ _ _ (words_of_each (team_word s.instance s.plan c.args.j c.args.t) (range_with_len 0 n))
    (puts_all g.K.Sink (one s c.args.j c.args.t) (range_with_len 0 n) c.loop-k.k _ _ _ _ past c.loop-k.invariant)
