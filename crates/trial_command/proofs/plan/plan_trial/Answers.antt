use Rattle.std.proofs.Common.{◌≡◌, [], ◌∷◌, List, subst, ◌∙◌}
use Rattle.std.specs.Prelude.{IfOk}
use Rattle.cert_checker.specs.Checked.{verdict_of}
use Rattle.cert_checker.specs.declared.checker.Verdict.{Verdict}
use Rattle.dossier_terms.specs.Dossier.{Dossier}
use Rattle.day_terms.specs.declared.Entry.{Entry}
use Rattle.day_terms.specs.Rounds.{rounds_of}
use Rattle.replan.specs.Rounds.{AreRoundDossiers}
use Rattle.trial_command.proofs.plan.plan_trial.Goals as goal

pub returns : goal.returns
returns c =
    subst (λ (es : List Entry). IfOk c.plan_entries-planned.result (λ (verdict : Verdict). (d : Dossier) × AreRoundDossiers [] (rounds_of [] es) (d ∷ []) × (verdict ≡ verdict_of d)))
    (c.deref.ensures.value ∙ c.in_ok-entries.ensures.day) c.plan_entries-planned.ensures
