use Rattle.std.proofs.Common.{[], Option, ap, sym, ◌∙◌}
use Rattle.crew_io.specs.Chains.{puts_done, puts_nothing}
use Rattle.each_out.specs.Laws.{puts_as}
use Rattle.round_changes.specs.Named.{RoundByNames}
use Rattle.round_changes.specs.declared.changes.Counts.{Counts}
use Rattle.plan_chart.specs.Headings.{counts_line, since_of}
use Rattle.plan_chart.proofs.headings.put_since.Goals as goal

pub returns-in-Some : goal.returns-in-Some
returns-in-Some g c =
    puts_as g.K.Sink _ _ _ _ _ c.put_counts.ensures
    (ap (λ (n : Counts). counts_line n) c.count_changes.ensures ∙ sym (ap (λ (b : Option RoundByNames). since_of b c.args.now.now) c.in-Some.is))

pub returns-in-None : goal.returns-in-None
returns-in-None g c =
    puts_as g.K.Sink _ _ _ _ _ (puts_done g.K.Sink [] _ _ tt tt (puts_nothing g.K.Sink c.args.out.now)) (sym (ap (λ (b : Option RoundByNames). since_of b c.args.now.now) c.in-None.is))
