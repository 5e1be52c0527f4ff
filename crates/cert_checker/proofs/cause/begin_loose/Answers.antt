use Rattle.std.proofs.Common.{◌≡◌, ap, subst, sym, ◌∙◌, arith}
use Rattle.crew_terms.specs.Limits.{root_limits}
use Rattle.crew_terms.specs.Plan.{unassigned_count}
use Rattle.dossier_terms.specs.Reading.{limits_below, parts_due}
use Rattle.share_check.specs.Summed.{HasRoom}
use Rattle.cert_checker.specs.Due.{Awaits, IsInLoose, split_site}
use Rattle.cert_checker.specs.declared.due.BegunDossier.{BegunDossier}
use Rattle.cert_checker.specs.declared.due.TreeDraft.{TreeDraft}
use Rattle.cert_checker.proofs.CauseRows.{loose_begun, loose_goes, none_read, room_at_node}
use Rattle.cert_checker.proofs.cause.begin_loose.Goals as goal

pub returns : goal.returns
returns c = λ fs may.
    let tree = c.args.tree.value in
    let loose = c.args.loose in
    let p = split_site tree fs loose.choice in
    let held = c.deref_mut-held.result.now in
    let same : held ≡ tree = c.deref_mut-held.ensures.value in
    let n = limits_below (root_limits tree.draft.value.base.instance) fs in
    let plan : c.unassigned.result ≡ unassigned_count tree.draft.value.plan = c.unassigned.ensures ∙ ap (λ (b : BegunDossier). unassigned_count b.plan) (c.deref-2.ensures ∙ ap (λ (t : TreeDraft). t.draft.value) c.deref.ensures) in
    let room : HasRoom n held.sums = subst (λ (t : TreeDraft). HasRoom n t.sums) (sym same) (room_at_node tree fs may.node) in
    let sums = c.begin.ensures.none n loose.whole c.requires.some room in
    let begun = loose_begun tree loose c.begin.new.self fs may c.requires.now c.requires.some c.requires.few sums in
    let here : IsInLoose (record held { loose = loose; sums = c.begin.new.self }) (none_read loose.whole) fs = subst (λ (t : TreeDraft). IsInLoose (record t { loose = loose; sums = c.begin.new.self }) (none_read loose.whole) fs) (sym same) begun in
    let due = parts_due p loose.now (none_read loose.whole) c.args.count 0 in
    let awaits = c.due_shares.ensures fs (none_read loose.whole) here in
    let enough = c.if-loose-unassigned.false in (
      due,
      loose_goes p loose.now loose.whole c.args.count (omega arith),
      subst (λ (t : TreeDraft). Awaits c.due_shares.result (parts_due (split_site t fs loose.choice) loose.now (none_read loose.whole) c.args.count 0)) same awaits,
    )
