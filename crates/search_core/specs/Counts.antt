-- laws of what a search counts
use Rattle.std.proofs.Common.{◌≡◌, ◌≤◌, length, refl, arith}
use Rattle.std.specs.Prelude.{is_none}
use Rattle.std.proofs.lemmas.List.{length-append}
use Rattle.std.proofs.lemmas.List.Sums.{count_by-le-length}
use Rattle.crew_terms.specs.Branches.{LeafNode, SplitNode, splits}
use Rattle.crew_terms.specs.Instance.{Instance}
use Rattle.crew_terms.specs.Plan.{Plan, unassigned_count}
use Rattle.search_terms.specs.Search.{IsKeepable}
use Rattle.search_terms.specs.SearchTree.{SearchTree, causes}

-- a cause for each split
pub causes_count : (t : SearchTree) → length (causes t) ≡ splits t
causes_count (LeafNode leaf) = refl
causes_count (SplitNode split first second) =
    let a = causes_count first in
    let b = causes_count second in
    let e = length-append (causes first) (causes second) in
    omega (arith, a, b, e)

-- a legal plan leaves at most all tasks unassigned
pub few_unassigned : (i : Instance) (p : Plan) → IsKeepable i p → unassigned_count p ≤ length i.tasks
few_unassigned i p keepable =
    let e = keepable.legal.feasible.whole in
    let f = count_by-le-length is_none p in
    omega arith
