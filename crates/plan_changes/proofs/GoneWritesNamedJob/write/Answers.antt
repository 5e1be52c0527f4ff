use Rattle.std.proofs.Common.{[], ap, sym, ◌∙◌}
use Rattle.std.specs.Prelude.{if◌then◌else◌}
use Rattle.crew_io.specs.Chains.{puts_done, puts_nothing}
use Rattle.crew_terms.specs.Words.{line_text}
use Rattle.each_out.specs.Laws.{puts_as}
use Rattle.plan_changes.specs.Changes.{gone_text_at, gone_words}
use Rattle.plan_changes.proofs.GoneWritesNamedJob.write.Goals as goal

pub returns-then-is_gone_at : goal.returns-then-is_gone_at
unfolding gone_text_at
returns-then-is_gone_at g c =
    puts_as g.K.Sink _ _ _ _ _ c.put_gone.ensures
    (sym (ap (λ b. if b then line_text (gone_words c.args.self.now.now.now.tasks c.args.item.now) else []) (sym c.is_gone_at.ensures ∙ c.if-is_gone_at.true)))

pub returns-else-is_gone_at : goal.returns-else-is_gone_at
unfolding gone_text_at
returns-else-is_gone_at g c =
    puts_as g.K.Sink _ _ _ _ _ (puts_done g.K.Sink [] _ _ tt tt (puts_nothing g.K.Sink c.args.out.now))
    (sym (ap (λ b. if b then line_text (gone_words c.args.self.now.now.now.tasks c.args.item.now) else []) (sym c.is_gone_at.ensures ∙ c.if-is_gone_at.false)))
