-- the numbers of a tree that is written are those of the tree that is given
use Rattle.std.proofs.Common.{◌≡◌, ◌+◌, ◌++◌, ℕ, max, ap, refl, ◌∙◌, arith}
use Rattle.std.specs.List.{sum_by}
use Rattle.std.proofs.lemmas.List.Sums.{sum_by-append, sum_by-cons}
use Rattle.branch_tree.specs.Trees.{BranchTree, ClaimedLeaf, claim_in, counts_of as tree_counts}
use Rattle.cert_write.specs.Dossiers.{IsPricedClaim, IsPricedTree, causes_of}
use Rattle.crew_terms.specs.Branches.{LeafNode, SplitNode, Claim, Bare, Open, Closed, closed_in, left_open_in, depth, splits, leaf_sum}
use Rattle.crew_terms.specs.Limits.{Limits}
use Rattle.crew_terms.specs.Tree.{child}
use Rattle.crew_terms.specs.declared.Side.TheVariants.{First, Second}
use Rattle.crew_terms.specs.declared.TreeCounts.{TreeCounts}
use Rattle.dossier_terms.specs.Causes.{unshown_in}
use Rattle.dossier_terms.specs.Dossier.{Leaf, Written, unshown}
use Rattle.dossier_terms.specs.Lines.{counts_of}

-- it has as many splits
pub same_splits : (n : Limits) (t : BranchTree) (w : Written) → IsPricedTree n t w → splits t ≡ splits w
same_splits n (LeafNode given) (LeafNode claim) is = refl
same_splits n (LeafNode given) (SplitNode split low high) is = absurd is
same_splits n (SplitNode choice first second) (LeafNode claim) is = absurd is
same_splits n (SplitNode choice first second) (SplitNode split low high) is =
    let a = same_splits (child n choice First) first low is.1 in
    let b = same_splits (child n choice Second) second high is.2 in
    omega (arith, a, b)

-- as deep
pub same_depth : (n : Limits) (t : BranchTree) (w : Written) → IsPricedTree n t w → depth t ≡ depth w
same_depth n (LeafNode given) (LeafNode claim) is = refl
same_depth n (LeafNode given) (SplitNode split low high) is = absurd is
same_depth n (SplitNode choice first second) (LeafNode claim) is = absurd is
same_depth n (SplitNode choice first second) (SplitNode split low high) is =
    ap (λ m. max m (depth second) + 1) (same_depth (child n choice First) first low is.1)
    ∙ ap (λ m. max (depth low) m + 1) (same_depth (child n choice Second) second high is.2)

closed_same : (n : Limits) (given : ClaimedLeaf) (claim : Claim Leaf) → IsPricedClaim n given claim → closed_in (claim_in given.state) ≡ closed_in claim
closed_same n given Bare is = ap (λ s. closed_in (claim_in s)) is
closed_same n given (Open leaf) is = ap (λ s. closed_in (claim_in s)) is.0
closed_same n given (Closed leaf) is = ap (λ s. closed_in (claim_in s)) is.0

open_same : (n : Limits) (given : ClaimedLeaf) (claim : Claim Leaf) → IsPricedClaim n given claim → left_open_in (claim_in given.state) ≡ left_open_in claim
open_same n given Bare is = ap (λ s. left_open_in (claim_in s)) is
open_same n given (Open leaf) is = ap (λ s. left_open_in (claim_in s)) is.0
open_same n given (Closed leaf) is = ap (λ s. left_open_in (claim_in s)) is.0

same_leaves : (f : ClaimedLeaf → ℕ) (h : Claim Leaf → ℕ) → ((n : Limits) (given : ClaimedLeaf) (claim : Claim Leaf) → IsPricedClaim n given claim → f given ≡ h claim)
    → (n : Limits) (t : BranchTree) (w : Written) → IsPricedTree n t w → leaf_sum f t ≡ leaf_sum h w
same_leaves f h one n (LeafNode given) (LeafNode claim) is = one n given claim is
same_leaves f h one n (LeafNode given) (SplitNode split low high) is = absurd is
same_leaves f h one n (SplitNode choice first second) (LeafNode claim) is = absurd is
same_leaves f h one n (SplitNode choice first second) (SplitNode split low high) is =
    let a = same_leaves f h one (child n choice First) first low is.1 in
    let b = same_leaves f h one (child n choice Second) second high is.2 in
    omega (arith, a, b)

counts_from : (a b c d e f g h : ℕ) → a ≡ e → b ≡ f → c ≡ g → d ≡ h
    → (let x : TreeCounts = record { splits = a; closed = b; left_open = c; depth = d } in let y : TreeCounts = record { splits = e; closed = f; left_open = g; depth = h } in x ≡ y)
counts_from a b c d e f g h p q r s =
    ap (λ x. record { splits = x; closed = b; left_open = c; depth = d }) p ∙ ap (λ x. record { splits = e; closed = x; left_open = c; depth = d }) q
    ∙ ap (λ x. record { splits = e; closed = f; left_open = x; depth = d }) r ∙ ap (λ x. record { splits = e; closed = f; left_open = g; depth = x }) s

-- and all its numbers
pub same_counts : (n : Limits) (t : BranchTree) (w : Written) → IsPricedTree n t w → tree_counts t ≡ counts_of w
same_counts n t w is = counts_from _ _ _ _ _ _ _ _ (same_splits n t w is)
    (same_leaves (λ (given : ClaimedLeaf). closed_in (claim_in given.state)) closed_in closed_same n t w is)
    (same_leaves (λ (given : ClaimedLeaf). left_open_in (claim_in given.state)) left_open_in open_same n t w is) (same_depth n t w is)

-- the splits that show nothing are counted by their causes in preorder
pub same_unshown : (w : Written) → unshown w ≡ sum_by unshown_in (causes_of w)
same_unshown (LeafNode claim) = refl
same_unshown (SplitNode split first second) =
    let a = same_unshown first in
    let b = same_unshown second in
    let both = sum_by-append unshown_in (causes_of first) (causes_of second) in
    let head = sum_by-cons unshown_in split.cause (causes_of first ++ causes_of second) in
    omega (arith, a, b, both, head)
