-- walks to a node, and the prices that are found there
use Rattle.std.proofs.Common.{◌≡◌, ◌≤◌, ◌+◌, ◌∙◌, ◌∷◌, [], ℕ, List, length, refl, arith}
use Rattle.crew_terms.specs.Leaf.{IsOnRequired, Prices}
use Rattle.crew_terms.specs.Limits.{Limits, Route}
use Rattle.crew_terms.specs.Tree.{child}
use Rattle.crew_terms.specs.declared.Choice.{Choice}
use Rattle.crew_terms.specs.Nodes.{child_instance}
use Rattle.node_limits.specs.Trail.{Trail, changed}
use Rattle.node_solver.specs.Causes.{cause_of}
use Rattle.node_solver.specs.Steps.{KeepsProved}
use Rattle.node_solver.specs.declared.step.NodeEnd.TheVariants as ends
use Rattle.node_solver.specs.declared.step.Why.{Why}
use Rattle.node_solver.specs.declared.step.Why.TheVariants.{Loose, Overflow, Spent}
use Rattle.node_limits.specs.Walks.{walked, limits_after}
use Rattle.search_terms.specs.Earned.{IsEarned}
use Rattle.search_terms.specs.Proven.{PricesProve}
use Rattle.node_limits.specs.declared.walks.Branch.{Branch}

-- where a walk comes to
pub walked_limits : (t : Trail) (turns : List Branch) → (walked t turns).limits ≡ limits_after t.limits turns
walked_limits t [] = refl
walked_limits t (turn ∷ turns) = walked_limits (changed t (child t.limits turn.choice turn.side)) turns

-- a change for each turn
pub walked_past : (t : Trail) (turns : List Branch) → length (walked t turns).past ≡ length turns + length t.past
walked_past t [] = omega arith
walked_past t (turn ∷ turns) = let e = walked_past (changed t (child t.limits turn.choice turn.side)) turns in omega arith

-- each change takes room for one
pub walked_spare : (t : Trail) (turns : List Branch) → t.spare ≤ (walked t turns).spare + length turns
walked_spare t [] = omega arith
walked_spare t (turn ∷ turns) = let e = walked_spare (changed t (child t.limits turn.choice turn.side)) turns in omega arith

-- a node's limits are of the same instance
pub after_instance : (n : Limits) (turns : List Branch) → (limits_after n turns).instance ≡ n.instance
after_instance n [] = refl
after_instance n (turn ∷ turns) = after_instance (child n turn.choice turn.side) turns ∙ child_instance n turn.choice turn.side

-- the prices of a split are on required pairs alone
pub split_required : (n : Limits) (now pivots : ℕ) (columns : List Route) (start prices : Prices) (choice : Choice) (why : Why)
    → PricesProve n start 0 → IsEarned n now prices pivots columns (cause_of columns why)
    → KeepsProved n start (ends.Split choice why prices) → IsOnRequired n prices
split_required n now pivots columns start prices choice (Loose den shares left_open) proved earned keeps = earned.rounded.priced
split_required n now pivots columns start prices choice (Overflow fault) proved earned keeps = (keeps 0 (omega arith) proved).proved.0.priced
split_required n now pivots columns start prices choice Spent proved earned keeps = (keeps 0 (omega arith) proved).proved.0.priced
