use Rattle.std.proofs.Common.{◌≡◌, ℕ, List}
use Rattle.crew_terms.specs.Branches.{LeafNode}
use Rattle.crew_terms.specs.Leaf.{Prices}
use Rattle.crew_terms.specs.Limits.{Limits, Route}
use Rattle.crew_terms.specs.declared.Choice.{Choice}
use Rattle.search_terms.specs.Choice.{IsValidChoice}
use Rattle.search_terms.specs.Proven.{PricesProve}
use Rattle.search_terms.specs.SearchTree.{SearchTree, ClosedLeaf}
use Rattle.search_terms.specs.Search.{Becomes, Closes, Splits}
use Rattle.search_laws.proofs.decided_nodes_are_closed.Goals as goal

closed : (now pivots : ℕ) (columns : List Route) (n : Limits) (own : Prices) (new : SearchTree) → ((choice : Choice) → IsValidChoice n choice → ⊥)
    → Becomes now pivots columns n own new → (prices : Prices) × (new ≡ LeafNode (ClosedLeaf prices)) × PricesProve n prices now
closed now pivots columns n own new none (Closes prices proved is) = (prices, is, proved)
closed now pivots columns n own new none (Splits split handed s is) = absurd (none split.choice s.valid)

pub returns : goal.returns
returns c = λ now pivots columns n own new decided becomes.
    closed now pivots columns n own new (λ choice valid. c.choices_are_undecided.ensures n choice valid decided) becomes
