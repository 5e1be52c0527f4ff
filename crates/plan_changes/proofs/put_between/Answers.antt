use Rattle.std.proofs.Common.{[], ap, sym, ◌∙◌}
use Rattle.crew_io.specs.Chains.{puts_done, puts_nothing}
use Rattle.each_out.specs.Laws.{puts_as}
use Rattle.plan_changes.specs.Changes.{change_text}
use Rattle.plan_changes.proofs.put_between.Goals as goal

pub returns-in-Kept : goal.returns-in-Kept
unfolding change_text
returns-in-Kept g c =
    puts_as g.K.Sink _ _ _ _ _ (puts_done g.K.Sink [] _ _ tt tt (puts_nothing g.K.Sink c.args.out.now))
    (sym (ap (λ k. change_text k c.args.before.now c.args.now.now) (sym c.change_between.ensures ∙ c.in-Kept.is)))

pub returns-in-Moved : goal.returns-in-Moved
unfolding change_text
returns-in-Moved g c =
    puts_as g.K.Sink _ _ _ _ _ c.put_moved.ensures (sym (ap (λ k. change_text k c.args.before.now c.args.now.now) (sym c.change_between.ensures ∙ c.in-Moved.is)))

pub returns-in-Others : goal.returns-in-Others
unfolding change_text
returns-in-Others g c =
    puts_as g.K.Sink _ _ _ _ _ c.put_others.ensures (sym (ap (λ k. change_text k c.args.before.now c.args.now.now) (sym c.change_between.ensures ∙ c.in-Others.is)))

pub returns-in-New : goal.returns-in-New
unfolding change_text
returns-in-New g c =
    puts_as g.K.Sink _ _ _ _ _ c.put_new.ensures (sym (ap (λ k. change_text k c.args.before.now c.args.now.now) (sym c.change_between.ensures ∙ c.in-New.is)))
