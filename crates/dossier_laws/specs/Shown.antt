-- what a cause shows of its node
use Rattle.std.specs.Prelude.{◌+◌, ◌-◌, ◌*◌, ◌≤ℤ◌, ℕ, ℤ, pos, List}
use Rattle.crew_terms.specs.Limits.{Limits}
use Rattle.crew_terms.specs.Leaf.{Prices, IsValidLeaf, bound_of}
use Rattle.crew_terms.specs.Branches.{LeafNode, SplitNode}
use Rattle.crew_terms.specs.Tree.{child}
use Rattle.crew_terms.specs.declared.Side.TheVariants.{First, Second}
use Rattle.crew_terms.specs.declared.TheConstants.{D}
use Rattle.share_terms.specs.declared.TheConstants.{MARGIN}
use Rattle.dossier_terms.specs.Causes.{Cause, NoCause, Loose, Overflowed, Spent}
use Rattle.dossier_terms.specs.Dossier.{Written}

-- no prices in the node, with any worths and potentials, have a bound above now - 1 tasks and a thousandth of one
abbrev pub StaysOpen : Limits → ℕ → Type 0
StaysOpen n now = (prices : Prices) (worths : List ℤ) (phi : ℕ → ℕ → ℕ → ℤ) → IsValidLeaf n prices worths phi
    → bound_of n prices worths ≤ℤ pos ((now - 1) * D + MARGIN)

-- a loose cause shows that, for the number of tasks that the plan then left unassigned
abbrev pub IsShownBy : Cause → Limits → Type 0
IsShownBy NoCause n = Unit {0}
IsShownBy (Loose now shares) n = StaysOpen n now
IsShownBy (Overflowed now fault) n = Unit {0}
IsShownBy (Spent now) n = Unit {0}

-- each split with a loose cause stands at such a node
abbrev pub EachStaysOpen : Limits → Written → Type 0
EachStaysOpen n (LeafNode claim) = Unit {0}
EachStaysOpen n (SplitNode split first second) = IsShownBy split.cause n
    × EachStaysOpen (child n split.choice First) first × EachStaysOpen (child n split.choice Second) second
