use Rattle.std.proofs.Common.{◌≡◌, ap, subst, sym, ◌∙◌}
use Rattle.cert_checker.specs.Due.{IsRoot}
use Rattle.cert_checker.specs.Rooms.{HaveSameRoots}
use Rattle.cert_checker.specs.declared.due.BegunDossier.{BegunDossier}
use Rattle.cert_checker.specs.declared.due.TreeDraft.{TreeDraft}
use Rattle.cert_checker.proofs.AlikeRoots.{same_root}
use Rattle.cert_checker.proofs.rooms.TreeRoom.take_root.Goals as goal

pub returns-clause-root : goal.returns-clause-root
returns-clause-root c =
    let old = c.self.inside.tree.value.draft.value in
    let i = old.base.instance in
    let h = c.args.instance.now in
    let same : HaveSameRoots i h = subst (λ x. HaveSameRoots x h) (sym c.self.view_is) (c.has_root_of.ensures.0 c.if-not-has_root_of.false) in
    let taken : c.take.result ≡ old.limits = c.take.ensures.taken ∙ ap (λ (b : BegunDossier). b.limits) c.deref_mut-draft.ensures.value ∙ ap (λ (t : TreeDraft). t.draft.value.limits) c.deref_mut-tree.ensures.value in
    subst (IsRoot h) (sym taken) (same_root i h same old.limits (c.self.invariant.root c.if-not-self.false))
