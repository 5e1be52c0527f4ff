use Rattle.std.proofs.Common.{length, ap, arith}
use Rattle.std.proofs.lemmas.Int.{ints}
use Rattle.crew_num.specs.Mixed.{value}
use Rattle.crew_terms.specs.Instance.{Instance}
use Rattle.share_terms.specs.Shares.{pair_gap}
use Rattle.share_check.proofs.Parts.{next_total}
use Rattle.share_check.proofs.pairs.team_gaps.Goals as goal

pub pair_gap-requires-clause-sum : goal.pair_gap-requires-clause-sum
pair_gap-requires-clause-sum c =
    let j = c.loop-j.j in
    let within = c.loop-j-test.true in
    let end = c.tasks-j-end.ensures.count in
    let tasks = ap (λ (i : Instance). length i.tasks) c.instance.ensures.instance in
    let count = c.requires.tasks in
    (c.requires.sums.0 j, c.requires.sums.1 j (omega arith))

pub loop-j-preserved : goal.loop-j-preserved
loop-j-preserved c =
    let j = c.loop-j.j in
    let whole = c.args.whole in
    let inv = c.loop-j.invariant in
    let within = c.loop-j-test.true in
    let end = c.tasks-j-end.ensures.count in
    let tasks = ap (λ (i : Instance). length i.tasks) c.instance.ensures.instance in
    let count = c.requires.tasks in
    let m = c.mixed_add-gaps.ensures.mixed in
    let a = inv.0.at_most in
    let b = c.in-Some.ensures.mixed.at_most in
    let top = m.at_most in (
      record { not_negative = m.not_negative; at_most = omega (arith, ints); below = m.below },
      λ f w h. next_total j (pair_gap c.args.limits.now.limits f c.args.k) (value c.mixed_add-gaps.result whole) (value c.loop-j.gaps whole) (value c.in-Some.gap whole) c.mixed_add-gaps.ensures.value (inv.1 f w h)
          (c.in-Some.ensures.exact f w (h j (omega arith))),
    )

pub returns-in_default-clause-exact : goal.returns-in_default-clause-exact
returns-in_default-clause-exact c = λ f w h.
    let j = c.loop-j.j in
    let within = c.loop-j-test.true in
    let end = c.tasks-j-end.ensures.count in
    let tasks = ap (λ (i : Instance). length i.tasks) c.instance.ensures.instance in
    let count = c.requires.tasks in
    (j, omega arith, c.in_default.ensures.exact f w (h j (omega arith)))
