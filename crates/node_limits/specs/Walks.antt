-- limits along the branches of a tree
use Rattle.std.specs.Prelude.{◌≡◌, List, [], ◌∷◌}
use Rattle.crew_terms.specs.Limits.{Limits}
use Rattle.crew_terms.specs.Tree.{CanSplit, child}
use Rattle.node_limits.specs.Trail.{Trail, changed}
use Rattle.node_limits.specs.declared.walks.Branch.{Branch}

-- the limits after these branches
abbrev pub limits_after : Limits → List Branch → Limits
limits_after n [] = n
limits_after n (branch ∷ branches) = limits_after (child n branch.choice branch.side) branches

-- each branch is of a choice that can split its node
abbrev pub CanBranch : Limits → List Branch → Type 0
CanBranch n [] = Unit {0}
CanBranch n (branch ∷ branches) = CanSplit n branch.choice × CanBranch (child n branch.choice branch.side) branches

-- the limits after these branches, each a change
abbrev pub walked : Trail → List Branch → Trail
walked t [] = t
walked t (branch ∷ branches) = walked (changed t (child t.limits branch.choice branch.side)) branches

-- the same limits, with the same ones before each change
pub record IsBack (t from : Trail) : Type 0 where
  pub limits : t.limits ≡ from.limits
  pub past : t.past ≡ from.past
