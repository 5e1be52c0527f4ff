-- the tree of a search by numbered nodes, and its open leaves under keys
use Rattle.std.specs.Prelude.{◌≡◌, ◌≢◌, ◌≤◌, ◌<◌, ◌+◌, ◌*◌, ◌≤ℤ◌, ◌++◌, ℕ, ℤ, Some, List, [], ◌∷◌, length, AllPairs}
use Rattle.crew_terms.specs.Branches.{LeafNode, SplitNode}
use Rattle.crew_terms.specs.Leaf.{Prices}
use Rattle.crew_terms.specs.declared.Choice.{Choice}
use Rattle.crew_terms.specs.declared.TheConstants.{MOST_NODES}
use Rattle.search_terms.specs.SearchTree.{ClosedLeaf, OpenLeaf, SplitCause}
use Rattle.search_terms.specs.Ways.{replaced}
use Rattle.search_tree.specs.declared.nodes.Content.TheVariants as content
use Rattle.search_tree.specs.declared.nodes.Node.{Node}
use Rattle.search_tree.specs.Numbered.{AreNumbered, IsOpenNode, root_node, split_at, tree_of, way_of, with_content}
use Rattle.node_queue.specs.Waits.{Waits, found, keys_of, without}

-- the nodes, and what waits: keys, each with the number of an open leaf and its bound, the oldest first
pub record Keyed : Type 0 where
  pub nodes : List Node
  pub waits : Waits

-- the open leaf n waits under the key, with this bound
abbrev pub IsWaiting : Keyed → ℕ → ℕ → ℤ → Type 0
IsWaiting k key n bound = found k.waits key ≡ Some (record { bound = bound; item = n })

-- a leaf waits under the key
abbrev pub IsKey : Keyed → ℕ → Type 0
IsKey k key = (n : ℕ) × (bound : ℤ) × IsWaiting k key n bound

-- the nodes are those of a tree; each of its open leaves waits under one key, and nothing else waits
pub record IsKeyed (k : Keyed) : Type 0 where
  pub numbered : AreNumbered k.nodes
  pub few : length k.nodes ≤ 2 * MOST_NODES + 1
  pub leaves : (key n : ℕ) (bound : ℤ) → IsWaiting k key n bound → IsOpenNode k.nodes n
  pub one : (key other n : ℕ) (b c : ℤ) → IsWaiting k key n b → IsWaiting k other n c → key ≡ other
  pub all : (n : ℕ) → IsOpenNode k.nodes n → (key : ℕ) × (bound : ℤ) × IsWaiting k key n bound
  pub differ : AllPairs (λ a b. a ≢ b) (keys_of k.waits)

-- no bound that waits is below that under the key
abbrev pub IsLeastKey : Keyed → ℕ → Type 0
IsLeastKey k key = (n : ℕ) (bound : ℤ) → IsWaiting k key n bound → (other m : ℕ) (c : ℤ) → IsWaiting k other m c → bound ≤ℤ c

-- one open leaf, that waits
abbrev pub keyed_root : ℕ → ℕ → ℤ → Keyed
keyed_root key prices bound = record { nodes = root_node prices ∷ []; waits = (key, record { bound = bound; item = 0 }) ∷ [] }

-- the open leaf n, that waited under the key, is closed with these prices, and no more waits; the others wait in order
pub record IsTaken (old new : Keyed) (key n prices : ℕ) : Type 0 where
  pub nodes : new.nodes ≡ with_content old.nodes n (content.Closed prices)
  pub waits : new.waits ≡ without old.waits key
  pub tree : (p : ℕ → Prices) (c : ℕ → SplitCause) →
      tree_of p c new.nodes ≡ replaced (tree_of p c old.nodes) (way_of old.nodes n) (LeafNode (ClosedLeaf (p prices)))
  pub ways : (m : ℕ) → m < length old.nodes → way_of new.nodes m ≡ way_of old.nodes m
  pub stays : (other m : ℕ) (b : ℤ) → other ≢ key → IsWaiting old other m b → IsWaiting new other m b
  pub before : (other m : ℕ) (b : ℤ) → IsWaiting new other m b → (other ≢ key) × IsWaiting old other m b

-- what waits after a split of the leaf under the key waited before, or is a child of it
pub data CameFrom (old : Keyed) (key : ℕ) (bounds : ℤ × ℤ) (other m : ℕ) (b : ℤ) : Type 0 where
  Before : (apart : other ≢ key) (was : IsWaiting old other m b) → CameFrom old key bounds other m b
  IsFirst : (apart : other ≢ key) (child : m ≡ length old.nodes) (is : b ≡ bounds.0) → CameFrom old key bounds other m b
  IsSecond : (apart : other ≢ key) (child : m ≡ length old.nodes + 1) (is : b ≡ bounds.1) → CameFrom old key bounds other m b

-- the open leaf n, that waited under the key, is split into two that wait; behind the others, which wait in order, stand the
-- first child and then the second
pub record IsTurned (old new : Keyed) (key n : ℕ) (choice : Choice) (cause prices : ℕ) (bounds : ℤ × ℤ) : Type 0 where
  pub nodes : new.nodes ≡ split_at old.nodes n choice cause prices
  pub low : ℕ
  pub high : ℕ
  pub waits : new.waits ≡ without old.waits key
      ++ (low, record { bound = bounds.0; item = length old.nodes }) ∷ (high, record { bound = bounds.1; item = length old.nodes + 1 }) ∷ []
  pub tree : (p : ℕ → Prices) (c : ℕ → SplitCause) →
      tree_of p c new.nodes ≡ replaced (tree_of p c old.nodes) (way_of old.nodes n)
      (SplitNode (record { choice = choice; cause = c cause }) (LeafNode (OpenLeaf (p prices))) (LeafNode (OpenLeaf (p prices))))
  pub ways : (m : ℕ) → m < length old.nodes → way_of new.nodes m ≡ way_of old.nodes m
  pub stays : (other m : ℕ) (b : ℤ) → other ≢ key → IsWaiting old other m b → IsWaiting new other m b
  pub before : (other m : ℕ) (b : ℤ) → IsWaiting new other m b → CameFrom old key bounds other m b
