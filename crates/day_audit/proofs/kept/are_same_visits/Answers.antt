use Rattle.std.proofs.Common.{◌∙◌, sym}
use Rattle.day_audit.proofs.Visits.{visits_decide}
use Rattle.day_audit.proofs.kept.are_same_visits.Goals as goal

pub returns : goal.returns
returns c =
    let d = visits_decide c.args.a.now c.args.b.now in
    (λ t. d.0 (sym c.eq.ensures ∙ t), λ h. c.eq.ensures ∙ d.1 h)
