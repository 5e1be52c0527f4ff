use Rattle.std.proofs.Common.{◌≡◌, ℕ, ap, sym, ◌∙◌}
use Rattle.crew_terms.specs.Plan.{unassigned_count}
use Rattle.crew_terms.specs.Branches.{splits, closed, left_open}
use Rattle.crew_terms.specs.declared.TreeCounts.{TreeCounts}
use Rattle.dossier_terms.specs.Dossier.{Dossier, unshown}
use Rattle.cert_checker.specs.declared.due.BegunDossier.{BegunDossier}
use Rattle.cert_checker.specs.declared.due.TreeDraft.{TreeDraft}
use Rattle.cert_checker.specs.declared.checker.Verdict.{Verdict}
use Rattle.cert_checker.proofs.checker.whole_verdict.Goals as goal

abbrev verdict : ℕ → ℕ → ℕ → ℕ → ℕ → ℕ → Verdict
verdict a b c d e f = record { unassigned = a; bound = b; splits = c; closed = d; left_open = e; unshown = f }

same_verdict : (a b c d e f a' b' c' d' e' f' : ℕ) → a ≡ a' → b ≡ b' → c ≡ c' → d ≡ d' → e ≡ e' → f ≡ f' → verdict a b c d e f ≡ verdict a' b' c' d' e' f'
same_verdict a b c d e f a' b' c' d' e' f' p q r s t u = cc

pub returns : goal.returns
returns c = λ d e.
    let counts = c.args.ended.now.counts in
    let tree = ap (λ (x : Dossier). x.tree) (sym e.is) in
    let split : counts.splits ≡ splits d.tree = ap (λ (n : TreeCounts). n.splits) e.counts ∙ ap splits tree in
    let draft : c.deref-draft.result.now ≡ c.args.ended.now.tree.value.draft.value = c.deref-draft.ensures ∙ ap (λ (t : TreeDraft). t.draft.value) c.deref-tree.ensures in
    same_verdict c.unassigned.result c.deref-draft.result.now.bound counts.splits counts.closed counts.left_open c.deref-tree.result.now.unshown
    (unassigned_count d.plan) d.bound (splits d.tree) (closed d.tree) (left_open d.tree) (unshown d.tree)
    (c.unassigned.ensures ∙ ap (λ (b : BegunDossier). unassigned_count b.plan) draft ∙ ap (λ (x : Dossier). unassigned_count x.plan) (sym e.is))
    (ap (λ (b : BegunDossier). b.bound) draft ∙ ap (λ (x : Dossier). x.bound) (sym e.is))
    split
    (ap (λ (n : TreeCounts). n.closed) e.counts ∙ ap closed tree)
    (ap (λ (n : TreeCounts). n.left_open) e.counts ∙ ap left_open tree)
    (ap (λ (t : TreeDraft). t.unshown) c.deref-tree.ensures ∙ e.unshown ∙ ap unshown tree)
