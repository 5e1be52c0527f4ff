-- splits of a sound tree
use Rattle.std.proofs.Common.{ℕ, subst}
use Rattle.crew_terms.specs.Branches.{LeafNode, SplitNode}
use Rattle.crew_terms.specs.Limits.{Limits}
use Rattle.crew_terms.specs.Tree.{CanSplit, IsSound, Tree, child}
use Rattle.crew_terms.specs.declared.Choice.{Choice}
use Rattle.crew_terms.specs.declared.Side.TheVariants.{First, Second}
use Rattle.search_terms.specs.SearchTree.{IsTreeOf, SearchTree}
use Rattle.search_tree.specs.Ways.{AreSplits}

pub sound_splits : (s : SearchTree) (t : Tree) (n : Limits) (l u : ℕ) → IsTreeOf s t → IsSound t n l u → AreSplits n s
sound_splits (LeafNode leaf) t n l u is sound = tt
sound_splits (SplitNode split first second) (LeafNode claim) n l u is sound = absurd is
sound_splits (SplitNode split first second) (SplitNode choice low high) n l u is sound = (
  subst (λ (x : Choice). CanSplit n x) is.0 sound.0,
  sound_splits first low (child n split.choice First) l u is.1 (subst (λ (x : Choice). IsSound low (child n x First) l u) is.0 sound.1),
  sound_splits second high (child n split.choice Second) l u is.2 (subst (λ (x : Choice). IsSound high (child n x Second) l u) is.0 sound.2),
)
