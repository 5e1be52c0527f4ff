use Rattle.std.proofs.Common.{◌≡◌, ◌<◌, ℕ, List, length, get_or, ap, sym, subst, arith}
use Rattle.std.proofs.lemmas.Int.{ints}
use Rattle.crew_num.specs.declared.Mixed.{Mixed}
use Rattle.crew_num.specs.Mixed.{value}
use Rattle.crew_terms.specs.Instance.{Instance}
use Rattle.crew_terms.specs.Limits.{Limits, tasks_in, teams_in}
use Rattle.crew_terms.specs.Total.{total}
use Rattle.share_terms.specs.Shares.{Share, pair_gap, shares_of, weighed_visits}
use Rattle.share_check.specs.CellSums.{AreSums}
use Rattle.share_check.specs.Summed.{IsSumsOf, IsSharesOf}
use Rattle.share_check.specs.declared.sums.Sums.{Sums}
use Rattle.share_check.specs.declared.sums.ShareSums.{ShareSums}
use Rattle.share_check.proofs.Parts.{next_total}
use Rattle.share_check.proofs.sums.ShareSums.pair_gaps.Goals as goal

-- the visits of team k
visits_of : (n : Limits) (whole : ℕ) (shares : List Share) (s : ShareSums) (k : ℕ) (row : Sums) (sums : List Mixed) → IsSharesOf n whole shares s → k < teams_in n → row ≡ get_or s.teams.items k row
    → sums ≡ row.visits.items → AreSums whole sums (weighed_visits (shares_of shares k))
visits_of n whole shares s k row sums h l e v =
    let own = subst (IsSumsOf (tasks_in n) whole (shares_of shares k)) (sym e) (h.teams k row l) in
    subst (λ (cells : List Mixed). AreSums whole cells (weighed_visits (shares_of shares k))) (sym v) own.visits

pub team_gaps-requires-clause-sums : goal.team_gaps-requires-clause-sums
team_gaps-requires-clause-sums c =
    let k = c.loop-k.k in
    let within = c.loop-k-test.true in
    let end = c.teams-k-end.ensures.count in
    let teams = ap (λ (i : Instance). length i.teams) c.instance.ensures.instance in
    let s = c.requires.sums in
    (weighed_visits (shares_of s.0 k), visits_of c.args.limits.now.limits c.args.whole s.0 c.args.self.now k c.index.result.now c.deref.result.now s.1 (omega arith) c.index.ensures c.deref.ensures.value)

pub returns-in_default-clause-exact : goal.returns-in_default-clause-exact
returns-in_default-clause-exact c = λ f w h.
    let k = c.loop-k.k in
    let within = c.loop-k-test.true in
    let end = c.teams-k-end.ensures.count in
    let teams = ap (λ (i : Instance). length i.teams) c.instance.ensures.instance in
    let found = c.in_default.ensures.exact f w (visits_of c.args.limits.now.limits c.args.whole f.shares c.args.self.now k c.index.result.now c.deref.result.now h (omega arith) c.index.ensures c.deref.ensures.value) in
    (k, found.0, found.1, found.2)

pub loop-k-preserved : goal.loop-k-preserved
loop-k-preserved c =
    let k = c.loop-k.k in
    let whole = c.args.whole in
    let inv = c.loop-k.invariant in
    let within = c.loop-k-test.true in
    let end = c.teams-k-end.ensures.count in
    let teams = ap (λ (i : Instance). length i.teams) c.instance.ensures.instance in
    let m = c.mixed_add-gaps.ensures.mixed in
    let a = inv.0.at_most in
    let b = c.in-Some.ensures.mixed.at_most in
    let top = m.at_most in (
      record { not_negative = m.not_negative; at_most = omega (arith, ints); below = m.below },
      λ f w h. next_total k (λ i. total (tasks_in c.args.limits.now.limits) (pair_gap c.args.limits.now.limits f i)) (value c.mixed_add-gaps.result whole) (value c.loop-k.gaps whole) (value c.in-Some.more whole)
          c.mixed_add-gaps.ensures.value (inv.1 f w h)
          (c.in-Some.ensures.exact f w (visits_of c.args.limits.now.limits whole f.shares c.args.self.now k c.index.result.now c.deref.result.now h (omega arith) c.index.ensures c.deref.ensures.value)),
    )
