-- the numbers of prices and causes that nodes have
use Rattle.std.specs.Prelude.{◌<◌, ℕ, List}
use Rattle.search_tree.specs.declared.nodes.Content.{Content}
use Rattle.search_tree.specs.declared.nodes.Content.TheVariants as content
use Rattle.search_tree.specs.declared.nodes.Node.{Node}
use Rattle.search_tree.specs.Numbered.{node_of}

-- the number of the prices, or of the cause, is below this limit
abbrev pub HasNumber : ℕ → ℕ → Content → Type 0
HasNumber prices causes (content.Open k) = k < prices
HasNumber prices causes (content.Closed k) = k < prices
HasNumber prices causes (content.Split choice cause first) = cause < causes

-- those of all nodes are
abbrev pub HaveNumbers : ℕ → ℕ → List Node → Type 0
HaveNumbers prices causes nodes = (n : ℕ) → HasNumber prices causes (node_of nodes n).content
