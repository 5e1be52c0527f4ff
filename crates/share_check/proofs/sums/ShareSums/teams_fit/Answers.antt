use Rattle.std.proofs.Common.{◌≡◌, ◌≤◌, ◌<◌, ℕ, List, length, get_or, sym, subst, arith, inl, inr}
use Rattle.std.proofs.lemmas.Bool.{cases_eq}
use Rattle.crew_terms.specs.Limits.{Limits, tasks_in, teams_in}
use Rattle.share_terms.specs.Shares.{Share, parts_of, shares_of}
use Rattle.share_check.specs.Summed.{IsSumsOf, IsSharesOf}
use Rattle.share_check.specs.declared.sums.Sums.{Sums}
use Rattle.share_check.specs.declared.sums.ShareSums.{ShareSums}
use Rattle.share_check.proofs.sums.ShareSums.teams_fit.Goals as goal

-- the sums of team k
of_team : (n : Limits) (whole : ℕ) (shares : List Share) (s : ShareSums) (k : ℕ) (row : Sums) → IsSharesOf n whole shares s → k < length s.teams.items → row ≡ get_or s.teams.items k row
    → IsSumsOf (tasks_in n) whole (shares_of shares k) row
of_team n whole shares s k row h l e = let count = h.count in subst (IsSumsOf (tasks_in n) whole (shares_of shares k)) (sym e) (h.teams k row (omega arith))

pub returns-then-not-is_one_at_most : goal.returns-then-not-is_one_at_most
returns-then-not-is_one_at_most c = λ n shares h fit.
    let k = c.loop-k.k in
    let within = c.loop-k-test.true in
    let end = c.len-k-end.ensures in
    let count = h.count in
    let known : k < teams_in n = omega arith in
    c.if-not-is_one_at_most.ensures c.args.whole (parts_of (shares_of shares k)) c.requires (of_team n c.args.whole shares c.args.self.now k c.index.result.now h (omega arith) c.index.ensures).share (fit k known)

pub loop-k-preserved : goal.loop-k-preserved
loop-k-preserved c = λ n shares h k less.
    let i = c.loop-k.k in
    let within = c.loop-k-test.true in
    let end = c.len-k-end.ensures in
    let one = c.if-not-is_one_at_most.ensures c.args.whole (parts_of (shares_of shares i)) c.requires (of_team n c.args.whole shares c.args.self.now i c.index.result.now h (omega arith) c.index.ensures).share in
    elim (cases_eq k i) [
      | inl same ↦ subst (λ (m : ℕ). parts_of (shares_of shares m) ≤ c.args.whole) (sym same) one
      | inr other ↦ c.loop-k.invariant n shares h k (omega arith)
    ]
