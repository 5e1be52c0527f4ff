use Rattle.std.proofs.Common.{ap, ◌∙◌}
use Rattle.crew_terms.specs.Instance.{Instance}
use Rattle.round_changes.specs.Named.{round_of}
use Rattle.desk_commands.proofs.texts.note_dossier.Goals as goal

pub returns : goal.returns
returns c = λ d whole.
    c.in_ok-now.ensures ∙ ap (λ (i : Instance). round_of i c.plan.result.now) (c.instance.ensures d whole) ∙ ap (round_of d.instance) (c.plan.ensures.plan d whole)
