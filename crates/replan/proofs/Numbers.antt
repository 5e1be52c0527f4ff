-- the numbers of an outcome are those of its dossier
use Rattle.std.proofs.Common.{◌≡◌, ◌∙◌, ℕ, List, ap, sym}
use Rattle.std.specs.List.{sum_by}
use Rattle.branch_tree.specs.Trees.{BranchTree, IsCountIn, preorder}
use Rattle.branch_tree.specs.declared.tree.Node.{Node}
use Rattle.cert_write.specs.Counted.{same_counts, same_unshown}
use Rattle.cert_write.specs.Dossiers.{IsDossierOf}
use Rattle.cert_write.specs.Given.{Given}
use Rattle.crew_terms.specs.Limits.{root_limits}
use Rattle.crew_terms.specs.Plan.{unassigned_count}
use Rattle.crew_terms.specs.declared.TreeCounts.{TreeCounts}
use Rattle.dossier_terms.specs.Causes.{unshown_in}
use Rattle.dossier_terms.specs.Dossier.{Dossier}
use Rattle.replan.specs.Counts.{counts_of}
use Rattle.replan.specs.Given.{AreNumbersOf, IsOfOutcome}
use Rattle.replan.specs.declared.counts.Counts.{Counts}
use Rattle.replan.proofs.Dossiers.{OneTree}
use Rattle.search_core.specs.declared.causes.Outcome.{Outcome}

-- a number of nodes is that of the tree whose nodes they are
count_of : OneTree → (f : BranchTree → ℕ) (nodes : List Node) (n : ℕ) (t : BranchTree) → nodes ≡ preorder t → IsCountIn f nodes n → n ≡ f t
count_of one f nodes n t is count = count.2 ∙ ap f (one count.0 t (sym count.1 ∙ is))

with_numbers : (u b s c l x u2 b2 s2 c2 l2 x2 : ℕ) → u ≡ u2 → b ≡ b2 → s ≡ s2 → c ≡ c2 → l ≡ l2 → x ≡ x2
    → (let one : Counts = record { unassigned = u; bound = b; splits = s; closed = c; left_open = l; unshown = x } in
    let two : Counts = record { unassigned = u2; bound = b2; splits = s2; closed = c2; left_open = l2; unshown = x2 } in one ≡ two)
with_numbers u b s c l x u2 b2 s2 c2 l2 x2 a e f g h i = cc

pub counts_are : OneTree → (g : Given) (o : Outcome) (d : Dossier) (counts : Counts) → IsOfOutcome g o → IsDossierOf g d → AreNumbersOf g o counts → counts ≡ counts_of d
counts_are one g o d counts of is numbers =
    let tree = is.tree.tree in
    let nodes = sym of.tree ∙ is.tree.nodes in
    let same = same_counts (root_limits g.instance) tree d.tree is.tree.same in
    with_numbers _ _ _ _ _ _ _ _ _ _ _ _ (numbers.unassigned ∙ ap unassigned_count (sym (is.plan ∙ of.plan))) (numbers.bound ∙ sym (is.bound ∙ of.bound))
    (count_of one _ o.tree counts.splits tree nodes numbers.splits ∙ ap (λ (c : TreeCounts). c.splits) same)
    (count_of one _ o.tree counts.closed tree nodes numbers.closed ∙ ap (λ (c : TreeCounts). c.closed) same)
    (count_of one _ o.tree counts.left_open tree nodes numbers.left_open ∙ ap (λ (c : TreeCounts). c.left_open) same)
    (numbers.unshown ∙ sym (same_unshown d.tree ∙ ap (sum_by unshown_in) is.tree.causes))
