-- the parts of a dossier, and their rules
use Rattle.std.proofs.Common.{◌≡◌, [], ◌++◌, ℕ, List, length, drop, ap, refl, subst, sym, ◌∙◌, append_assoc, append-nil, arith}
use Rattle.std.proofs.lemmas.List.{length-append}
use Rattle.std.proofs.Math.Seq.{drop-append_seam}
use Rattle.crew_terms.specs.Branches.{LeafNode, SplitNode, closed, splits}
use Rattle.crew_terms.specs.Limits.{Limits, Route, root_limits}
use Rattle.crew_terms.specs.Plan.{unassigned_count}
use Rattle.crew_terms.specs.Tree.{IsSound, child}
use Rattle.crew_terms.specs.declared.Side.TheVariants.{First, Second}
use Rattle.crew_terms.specs.declared.TreeCounts.{TreeCounts}
use Rattle.branch_tree.specs.Trees.{BranchTree, closed as given_closed}
use Rattle.dossier_terms.specs.Causes.{Cause}
use Rattle.dossier_terms.specs.Dossier.{AreCaused, AreWritten, IsGood, Written, tree_of}
use Rattle.dossier_terms.specs.declared.DossierForm.TheVariants.{Two}
use Rattle.cert_write.specs.Counted.{same_counts, same_splits}
use Rattle.cert_write.specs.Given.{Given}
use Rattle.cert_write.specs.Dossiers.{IsPricedTree, IsTreeOfGiven, causes_of, dossier_with}
use Rattle.written_laws.specs.Proved.{AreCauses, IsProvedGiven}

-- ---- numbers of the tree

same_closed : (n : Limits) (t : BranchTree) (w : Written) → IsPricedTree n t w → given_closed t ≡ closed w
same_closed n t w is = ap (λ (c : TreeCounts). c.closed) (same_counts n t w is)

-- a cause for each split
causes_count : (w : Written) → length (causes_of w) ≡ splits w
causes_count (LeafNode claim) = refl
causes_count (SplitNode split first second) =
    let a = causes_count first in
    let b = causes_count second in
    let e = length-append (causes_of first) (causes_of second) in
    omega (arith, a, b, e)

-- the causes that are written may be told, where those that are given may; these may go on behind the tree
caused : (pool : List Route) (u : ℕ) (n : Limits) (t : BranchTree) (w : Written) (rest : List Cause) → IsPricedTree n t w
    → AreCauses pool u n t (causes_of w ++ rest) → AreCaused Two pool n u w
caused pool u n (LeafNode given) (LeafNode claim) rest same h = tt
caused pool u n (LeafNode given) (SplitNode split low high) rest same h = absurd same
caused pool u n (SplitNode choice first second) (LeafNode claim) rest same h = absurd same
caused pool u n (SplitNode choice first second) (SplitNode split low high) rest same h =
    let e : choice ≡ split.choice = same.0 in
    let ours : List Cause = causes_of low in
    let more : List Cause = causes_of high ++ rest in
    let parts : (ours ++ causes_of high) ++ rest ≡ ours ++ more = append_assoc ours (causes_of high) rest in
    let count : splits first ≡ length ours = same_splits (child n choice First) first low same.1 ∙ sym (causes_count low) in
    let behind : drop (splits first) ((ours ++ causes_of high) ++ rest) ≡ more =
    ap (drop (splits first)) parts ∙ ap (λ k. drop k (ours ++ more)) count ∙ drop-append_seam ours more in (
      h.0,
      caused pool u (child n split.choice First) first low more (subst (λ x. IsPricedTree (child n x First) first low) e same.1)
          (subst (λ x. AreCauses pool u (child n x First) first (ours ++ more)) e
          (subst (λ cs. AreCauses pool u (child n choice First) first cs) parts h.1)),
      caused pool u (child n split.choice Second) second high rest (subst (λ x. IsPricedTree (child n x Second) second high) e same.2)
          (subst (λ x. AreCauses pool u (child n x Second) second more) e
          (subst (λ cs. AreCauses pool u (child n choice Second) second cs) behind h.2)),
    )

pub good_parts : (g : Given) (tree : Written) (is : IsTreeOfGiven g tree) (proved : IsProvedGiven g) → proved.tree ≡ is.tree → AreWritten (root_limits g.instance) tree
    → IsSound (tree_of (root_limits g.instance) tree) (root_limits g.instance) g.bound (unassigned_count g.plan) → IsGood (dossier_with g tree)
good_parts g tree is proved same leaves sound =
    let s = same_splits (root_limits g.instance) is.tree tree is.same in
    let c = same_closed (root_limits g.instance) is.tree tree is.same in
    let a = ap splits same in
    let b = ap given_closed same in
    let w = proved.within in
    record {
      instance = proved.instance;
      frozen = tt;
      budget = proved.budget;
      kept = proved.kept;
      pool_length = proved.pool_length;
      pool = proved.pool;
      differ = proved.differ;
      plan = proved.plan;
      bound = proved.bound;
      leaves = leaves;
      sound = sound;
      causes = caused g.columns (unassigned_count g.plan) (root_limits g.instance) is.tree tree [] is.same
          (subst (λ cs. AreCauses g.columns (unassigned_count g.plan) (root_limits g.instance) is.tree cs) (sym is.causes ∙ sym (append-nil (causes_of tree)))
          (subst (λ t. AreCauses g.columns (unassigned_count g.plan) (root_limits g.instance) t g.causes) same proved.causes));
      within = omega (arith, s, c, a, b, w);
      spent = λ below. let e = proved.spent below in omega (arith, s, c, a, b, e);
    }
