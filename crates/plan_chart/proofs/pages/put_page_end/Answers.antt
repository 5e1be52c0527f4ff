use Rattle.std.proofs.Common.{ap, sym, eq-eqb}
use Rattle.std.specs.Prelude.{if◌then◌else◌}
use Rattle.std.proofs.lemmas.Bool.{ne_eqb}
use Rattle.each_out.specs.Laws.{puts_as}
use Rattle.plan_chart.specs.Pages.{empty_end, page_end}
use Rattle.plan_chart.specs.declared.pages.TheConstants.{PAGE_END}
use Rattle.plan_chart.proofs.pages.put_page_end.Goals as goal

pub returns-then-charts-eq0 : goal.returns-then-charts-eq0
unfolding page_end
returns-then-charts-eq0 g c =
    puts_as g.K.Sink _ _ _ _ _ c.put_empty_end.ensures (sym (ap (λ b. if b then empty_end else PAGE_END.now) (eq-eqb c.args.charts 0 c.if-charts-eq0.true)))

pub returns-else-charts-eq0 : goal.returns-else-charts-eq0
unfolding page_end
returns-else-charts-eq0 g c =
    puts_as g.K.Sink _ _ _ _ _ c.put_all.ensures.puts (sym (ap (λ b. if b then empty_end else PAGE_END.now) (ne_eqb c.args.charts 0 c.if-charts-eq0.false)))
