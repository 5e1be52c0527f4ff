use Rattle.std.proofs.Common.{ap, sym}
use Rattle.std.specs.Prelude.{if◌then◌else◌}
use Rattle.std.proofs.lemmas.Bool.{le-leb, lt-leb}
use Rattle.each_out.specs.Laws.{puts_as}
use Rattle.plan_chart.specs.Headings.{best_text, gap_text}
use Rattle.plan_chart.proofs.headings.put_proof.Goals as goal

pub returns-then-left_open-bound : goal.returns-then-left_open-bound
returns-then-left_open-bound g c =
    puts_as g.K.Sink _ _ _ _ _ c.put_best.ensures
    (sym (ap (λ b. if b then best_text else gap_text c.args.left_open c.args.bound) (le-leb c.args.left_open c.args.bound c.if-left_open-bound.true)))

pub returns-else-left_open-bound : goal.returns-else-left_open-bound
returns-else-left_open-bound g c =
    puts_as g.K.Sink _ _ _ _ _ c.put_gap.ensures
    (sym (ap (λ b. if b then best_text else gap_text c.args.left_open c.args.bound) (lt-leb c.args.left_open c.args.bound c.if-left_open-bound.false)))
