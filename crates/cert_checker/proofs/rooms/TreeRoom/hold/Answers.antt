use Rattle.std.proofs.Common.{◌≡◌, ap, refl, subst, sym, ◌∙◌}
use Rattle.crew_terms.specs.Limits.{root_limits}
use Rattle.crew_terms.specs.Plan.{unassigned_count}
use Rattle.leaf_check.specs.declared.reader.LeafDue.TheVariants.{Price}
use Rattle.share_check.specs.Summed.{HasRoom}
use Rattle.cert_checker.specs.Rooms.{IsAlike}
use Rattle.cert_checker.specs.declared.due.BegunDossier.{BegunDossier}
use Rattle.cert_checker.specs.declared.due.TreeDraft.{TreeDraft}
use Rattle.cert_checker.proofs.Roomy.{reader_for, sums_for}
use Rattle.cert_checker.proofs.rooms.TreeRoom.hold.Goals as goal

pub returns : goal.returns
returns c =
    let old = c.self.inside.tree.value in
    let held = c.deref_mut-held.result.now in
    let same : held ≡ old = c.deref_mut-held.ensures.value in
    let i = old.draft.value.base.instance in
    let h = c.args.draft.value.base.instance in
    let alike : IsAlike i h = subst (λ x. IsAlike x h) (sym c.self.view_is) c.requires in
    let begun : c.begin.new.self ≡ record old.reader { due = Price } = c.begin.ensures.rest ∙ ap (λ (t : TreeDraft). record t.reader { due = Price }) same in
    let sums : HasRoom (root_limits h) held.sums = subst (λ (t : TreeDraft). HasRoom (root_limits h) t.sums) (sym same) (sums_for i h alike (root_limits h) refl old.sums c.self.invariant.room.shares) in
    record { is = refl; unassigned = c.unassigned-held.ensures ∙ ap (λ (d : BegunDossier). unassigned_count d.plan) c.deref.ensures; room = record { leaves = reader_for i h alike old.reader c.begin.new.self c.self.invariant.room.leaves begun; shares = sums } }
