-- the lines of a leaf, by its state and its prices
use Rattle.std.specs.Prelude.{ℕ, ℤ, List, map}
use Rattle.crew_terms.specs.Leaf.{Prices, rho_of}
use Rattle.crew_terms.specs.Limits.{Limits}
use Rattle.crew_terms.specs.Minutes.{required_teams}
use Rattle.crew_terms.specs.Words.{Words}
use Rattle.dossier_terms.specs.Lines.{bare_line, closed_line, extra_line, open_line}
use Rattle.branch_tree.specs.declared.tree.LeafState.{LeafState}
use Rattle.branch_tree.specs.declared.tree.LeafState.TheVariants.{Bare, Open, Closed}

-- the prices of the teams that the node requires at task j
abbrev pub extra_prices : Limits → Prices → ℕ → List ℤ
extra_prices n p j = map (λ k. rho_of p k j) (required_teams n j)

-- the line of these
abbrev pub extra_words : Limits → Prices → ℕ → Words
extra_words n p j = extra_line j (extra_prices n p j)

-- the first line of a leaf
abbrev pub state_line : LeafState → Words
state_line Bare = bare_line
state_line Open = open_line
state_line Closed = closed_line
