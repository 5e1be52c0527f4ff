use Rattle.std.proofs.Common.{ap}
use Rattle.crew_io.specs.Chains.{puts_then}
use Rattle.crew_terms.specs.Words.{line_text}
use Rattle.each_out.specs.Laws.{cut_first, puts_as}
use Rattle.round_changes.specs.declared.changes.Counts.{Counts}
use Rattle.plan_changes.specs.Changes.{changes_text, counts_words}
use Rattle.plan_changes.proofs.changes.Goals as goal

pub returns-in_err-put_counts : goal.returns-in_err-put_counts
unfolding changes_text
returns-in_err-put_counts g c =
    cut_first g.K.Sink _ _ _ _ _ c.from_residual.result c.from_residual.ensures.0
    (puts_as g.K.Sink _ _ _ _ _ c.in_err-put_counts.ensures (ap (λ (n : Counts). line_text (counts_words c.args.round n)) c.count_changes.ensures))

pub returns : goal.returns
unfolding changes_text
returns g c =
    puts_then g.K.Sink _ _ _ _ _ _ _
    (puts_as g.K.Sink _ _ _ _ _ c.in_ok-put_counts.ensures (ap (λ (n : Counts). line_text (counts_words c.args.round n)) c.count_changes.ensures)) c.put_numbered.ensures
