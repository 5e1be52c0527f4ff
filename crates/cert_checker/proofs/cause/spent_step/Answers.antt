use Rattle.std.proofs.Common.{◌≡◌, ◌≤◌, ap, refl, ◌∙◌, arith}
use Rattle.crew_terms.specs.Plan.{unassigned_count}
use Rattle.dossier_terms.specs.Causes.{Spent}
use Rattle.dossier_terms.specs.CauseTable.{open_at}
use Rattle.dossier_terms.specs.Reading.{cause_done}
use Rattle.dossier_terms.specs.Rules.{Holds, On}
use Rattle.cert_checker.specs.Due.{split_site}
use Rattle.cert_checker.specs.declared.due.BegunDossier.{BegunDossier}
use Rattle.cert_checker.specs.declared.due.TreeDraft.{TreeDraft}
use Rattle.cert_checker.proofs.cause.spent_step.Goals as goal

pub returns : goal.returns
returns c = λ fs node.
    let tree = c.args.tree.value in
    let p = split_site tree fs c.args.choice in
    let cause = Spent c.args.now in
    let plan : c.unassigned.result ≡ unassigned_count tree.draft.value.plan = c.unassigned.ensures ∙ ap (λ (b : BegunDossier). unassigned_count b.plan) (c.deref-2.ensures ∙ ap (λ (t : TreeDraft). t.draft.value) c.deref.ensures) in
    let high = c.if-now-unassigned.false in
    let enough : open_at p ≤ c.args.now = omega arith in
    (cause_done p cause, Holds enough (On refl), c.first_child.ensures fs cause node refl)
