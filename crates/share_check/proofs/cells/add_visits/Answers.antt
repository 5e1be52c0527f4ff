use Rattle.std.proofs.Common.{◌+◌, ◌*◌, take, ap, sym, ◌∙◌, arith}
use Rattle.std.specs.Prelude.{◌==◌, if◌then◌else◌}
use Rattle.share_terms.specs.Shares.{visits_to}
use Rattle.share_check.specs.CellSums.{visit_at}
use Rattle.share_check.proofs.Added.{parts_told, sums_same, share_more, visits_more, take_whole}
use Rattle.share_check.proofs.cells.add_visits.Goals as goal

pub add_at-requires-clause-sums : goal.add_at-requires-clause-sums
add_at-requires-clause-sums c =
    let f = c.requires.sums.0 in
    let k = parts_told c.args.share.whole c.args.whole c.args.share.part c.requires.share.not_negative in
    (λ j. f j + k.0 * visits_to j (take c.loop-i.i c.args.visits.now), c.loop-i.invariant.1 f k.0 c.requires.sums.1 k.1)

pub loop-i-preserved : goal.loop-i-preserved
loop-i-preserved c = (
  c.add_at.ensures.count ∙ c.loop-i.invariant.0,
  λ f k h e.
      let vs = c.args.visits.now in
      let i = c.loop-i.i in
      let within = c.loop-i-test.true in
      sums_same c.args.whole c.add_at.new.sums (λ j. (f j + k * visits_to j (take i vs)) + (if j == (visit_at vs i).task then k else 0)) (λ j. f j + k * visits_to j (take (i + 1) vs))
      (λ j. share_more (f j) k (visits_to j (take i vs)) j (visit_at vs i).task ∙ ap (λ u. f j + k * u) (sym (visits_more vs i j (omega arith))))
      (c.add_at.ensures.sums (λ j. f j + k * visits_to j (take i vs)) k (c.loop-i.invariant.1 f k h e) e),
)

pub returns-clause-sums : goal.returns-clause-sums
returns-clause-sums c = λ f k h e.
    let vs = c.args.visits.now in
    let stop = c.loop-i-test.false in
    sums_same c.args.whole c.loop-i.sums (λ j. f j + k * visits_to j (take c.loop-i.i vs)) (λ j. f j + k * visits_to j vs)
    (λ j. ap (λ us. f j + k * visits_to j us) (take_whole c.loop-i.i vs (omega arith))) (c.loop-i.invariant.1 f k h e)
