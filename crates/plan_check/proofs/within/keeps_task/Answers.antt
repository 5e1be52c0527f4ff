use Rattle.std.proofs.Common.{◌≡◌, ◌<◌, ◌≤◌, length, true, false, arith, ap}
use Rattle.crew_terms.specs.Instance.{Instance}
use Rattle.crew_terms.specs.Limits.{teams_in}
use Rattle.plan_check.proofs.Kept.{pairs_more, task_from}
use Rattle.plan_check.proofs.within.keeps_task.Goals as goal

pub loop-k-preserved : goal.loop-k-preserved
loop-k-preserved c =
    pairs_more c.args.limits.now.limits c.args.plan.now c.args.j c.loop-k.k c.loop-k.invariant (c.keeps_pair.ensures.0 c.if-not-keeps_pair.false)

pub returns-then-not-keeps_pair : goal.returns-then-not-keeps_pair
returns-then-not-keeps_pair c = (
  (λ t. cc),
  (λ keeps.
      let same = ap (λ (i : Instance). length i.teams) c.instance.ensures.instance in
      let l : c.loop-k.k < teams_in c.args.limits.now.limits = let a = c.loop-k-test.true in let b = c.teams-k-end.ensures.count in omega arith in
      let t : c.keeps_pair.result ≡ true = c.keeps_pair.ensures.1 (keeps.pairs c.loop-k.k l) in
      let f : c.keeps_pair.result ≡ false = c.if-not-keeps_pair.true in
      cc),
)

pub returns : goal.returns
returns c =
    let same = ap (λ (i : Instance). length i.teams) c.instance.ensures.instance in
    let l : teams_in c.args.limits.now.limits ≤ c.loop-k.k = let a = c.loop-k-test.false in let b = c.teams-k-end.ensures.count in omega arith in
    task_from c.args.limits.now.limits c.args.plan.now c.args.j c.loop-k.k l c.loop-k.invariant c.begins_within.result c.begins_within.ensures
