-- a search as it begins
use Rattle.std.proofs.Common.{◌≡◌, ◌≢◌, ◌≤◌, ◌∙◌, ◌⊎◌, inl, inr, ◌∷◌, [], ℕ, ℤ, List, None, Some, refl, ap, sym, subst, arith}
use Rattle.std.proofs.lemmas.Bool.{cases_eq, eq-eqb, ne_eqb}
use Rattle.std.proofs.lemmas.List.Elements.{All-cons, All-nil}
use Rattle.crew_terms.specs.Branches.{LeafNode}
use Rattle.crew_terms.specs.Instance.{Instance}
use Rattle.crew_terms.specs.Leaf.{Prices, zero_prices}
use Rattle.crew_terms.specs.Limits.{Route, root_limits}
use Rattle.crew_terms.specs.Plan.{Plan}
use Rattle.crew_terms.specs.declared.Side.{Side}
use Rattle.crew_terms.specs.declared.TheConstants.{MOST_NODES}
use Rattle.search_tree.specs.States.{AreBoundsIn, DecidesProved}
use Rattle.search_tree.specs.Aged.{leaves_of}
use Rattle.search_tree.specs.Keyed.{IsWaiting, keyed_root}
use Rattle.search_tree.specs.Numbers.{HaveNumbers}
use Rattle.node_queue.specs.declared.Waiting.{Waiting}
use Rattle.node_queue.specs.Waits.{found}
use Rattle.potentials.specs.Prices.{ArePricesOf}
use Rattle.search_core.specs.Kept.{IsKeptSearch}
use Rattle.search_core.specs.Searching.{Searching, cause_at, price_at, state_of}
use Rattle.search_terms.specs.Search.{IsKeepable, IsStart, Start}
use Rattle.search_terms.specs.SearchTree.{OpenLeaf, SearchTree, SplitCause}
use Rattle.search_terms.specs.Ways.{limits_at, prices_at}
use Rattle.search_tree.specs.Numbered.{root_node, tree_at, tree_of, way_of, way_up}
use Rattle.search_core.proofs.Keeping.{search_of}

-- the tree is one open leaf
root_tree : (p : ℕ → Prices) (c : ℕ → SplitCause) → tree_of p c (root_node 0 ∷ []) ≡ LeafNode (OpenLeaf (p 0))
unfolding tree_at
root_tree p c = refl

-- its way is empty
pub root_leaves : (key : ℕ) (bound : ℤ) → leaves_of (keyed_root key 0 bound) ≡ record { way = []; bound = bound } ∷ []
unfolding way_up
root_leaves key bound = refl

-- the root alone waits
alone : (key other m : ℕ) (bound b : ℤ) → IsWaiting (keyed_root key 0 bound) other m b → bound ≡ b
alone key other m bound b w = by (cases_eq key other)
  where
    one : Waiting
    one = record { bound = bound; item = 0 }

    this : Waiting
    this = record { bound = b; item = m }

    by : (key ≡ other) ⊎ (key ≢ other) → bound ≡ b
    by (inl e) =
        let here : found ((key, one) ∷ []) other ≡ Some one = rw (eq-eqb key other e) refl in
        let x : Some one ≡ Some this = sym here ∙ w in
        let y : one ≡ this = cc x in
        ap (λ (v : Waiting). v.bound) y
    by (inr ne) =
        let none : found ((key, one) ∷ []) other ≡ None = rw (ne_eqb key other ne) refl in
        let x : None ≡ Some this = sym none ∙ w in
        let no_one : ⊥ = cc in
        absurd no_one

abbrev pub first_search : Instance → ℕ → Plan → ℕ → ℤ → Prices → Searching
first_search i nodes plan key bound zeros = search_of i nodes plan nodes (keyed_root key 0 bound) (zeros ∷ []) []

pub starts : (i : Instance) (nodes key : ℕ) (plan : Plan) (bound : ℤ) → IsKeepable i plan → (columns : List Route)
    → IsStart i nodes (state_of columns (first_search i nodes plan key bound (zero_prices (root_limits i))))
starts i nodes key plan bound keepable columns = record {
  plan = keepable;
  tree = root_tree (price_at (zero_prices (root_limits i) ∷ [])) (cause_at columns []);
  left = refl;
}

first_bounds : (i : Instance) (key : ℕ) (bound : ℤ) (p : ℕ → Prices) (c : ℕ → SplitCause) → DecidesProved (root_limits i) (p 0) bound
    → AreBoundsIn (root_limits i) p c (keyed_root key 0 bound)
first_bounds i key bound p c decides = λ other m b w.
    let way : List Side = way_of (root_node 0 ∷ []) m in
    subst (λ (t : SearchTree). DecidesProved (limits_at (root_limits i) t way) (prices_at t way) b) (sym (root_tree p c))
    (subst (λ (z : ℤ). DecidesProved (root_limits i) (p 0) z) (alone key other m bound b w) decides)

pub first_kept : (i : Instance) (nodes key : ℕ) (plan : Plan) (bound : ℤ) → IsKeepable i plan → nodes ≤ MOST_NODES
    → DecidesProved (root_limits i) (zero_prices (root_limits i)) bound → ArePricesOf (root_limits i) (zero_prices (root_limits i))
    → HaveNumbers 1 0 (root_node 0 ∷ []) → IsKeptSearch (first_search i nodes plan key bound (zero_prices (root_limits i)))
first_kept i nodes key plan bound keepable few decides shape numbers =
    let zeros = zero_prices (root_limits i) in
    record {
      run = λ columns. Start (state_of columns (first_search i nodes plan key bound zeros)) (starts i nodes key plan bound keepable columns);
      bounds = λ columns. first_bounds i key bound (price_at (zeros ∷ [])) (cause_at columns []) decides;
      fitting = record {
        some = omega arith;
        numbers = numbers;
        shapes = All-cons (ArePricesOf (root_limits i)) zeros [] shape (All-nil (ArePricesOf (root_limits i)));
        few = few;
        room = omega arith;
        most_prices = omega arith;
        most_causes = omega arith;
      };
    }
