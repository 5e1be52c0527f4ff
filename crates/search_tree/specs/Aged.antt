-- the open leaves that wait, by age: the ways to them, with their bounds
use Rattle.std.specs.Prelude.{ℕ, List, map}
use Rattle.node_queue.specs.declared.Waiting.{Waiting}
use Rattle.node_queue.specs.Waits.{Waits, without}
use Rattle.search_terms.specs.BestFirst.{AgedLeaf}
use Rattle.search_tree.specs.declared.nodes.Node.{Node}
use Rattle.search_tree.specs.Numbered.{way_of}
use Rattle.search_tree.specs.Keyed.{Keyed}

abbrev pub leaf_of : List Node → ℕ × Waiting → AgedLeaf
leaf_of nodes e = record { way = way_of nodes e.1.item; bound = e.1.bound }

abbrev pub leaves_in : List Node → Waits → List AgedLeaf
leaves_in nodes q = map (leaf_of nodes) q

-- all open leaves, the oldest first
abbrev pub leaves_of : Keyed → List AgedLeaf
leaves_of k = leaves_in k.nodes k.waits

-- those but the one under the key
abbrev pub leaves_without : Keyed → ℕ → List AgedLeaf
leaves_without k key = leaves_in k.nodes (without k.waits key)
