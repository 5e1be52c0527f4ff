-- the table of lines: the nodes of the tree
use Rattle.std.specs.Prelude.{◌≡◌, ◌≤◌, ◌<◌, ℕ, Bool, true, false, if◌then◌else◌, List, length, codes}
use Rattle.crew_terms.specs.Words.{Words}
use Rattle.crew_terms.specs.Limits.{root_limits}
use Rattle.crew_terms.specs.Branches.{LeafNode, Bare, frame_sum, splits, closed, left_open}
use Rattle.crew_terms.specs.Tree.{CanSplit}
use Rattle.crew_terms.specs.declared.Choice.{Choice}
use Rattle.crew_terms.specs.declared.Choice.TheVariants as choices
use Rattle.crew_terms.specs.declared.TreeCounts.{TreeCounts}
use Rattle.crew_terms.specs.declared.TheConstants.{LAST_MINUTE}
use Rattle.dossier_terms.specs.declared.Reason.{Reason}
use Rattle.dossier_terms.specs.declared.Reason.TheVariants.{Shape, Number, Count, Cut, Pair as BadPair, Bound}
use Rattle.dossier_terms.specs.Lines.{window_line, pair_line, bare_line, open_line, closed_line}
use Rattle.dossier_terms.specs.Reading.{Answer, Begun, Above, Prices, limits_below, choice_done, node_done}
use Rattle.dossier_terms.specs.Rules.{Must, When, MustSpell, Goes, IsShape, Begins}

-- there is room for one more split
abbrev pub HasSplitRoom : TreeCounts → List Above → Type 0
HasSplitRoom c above = (frame_sum splits 1 above < c.splits) × (length above < c.depth)

-- why a node can't be split so
abbrev pub split_fault : Choice → Reason
split_fault (choices.Window j cut) = Cut
split_fault (choices.Pair k j) = BadPair

-- what is said after the choice of a split
abbrev pub after_split : Begun → TreeCounts → List Above → Choice → Answer → Type 0
after_split b c above choice = Must (HasSplitRoom c above) Count
    (Must (CanSplit (limits_below (root_limits b.instance) above) choice) (split_fault choice)
    (Goes (choice_done b.form b c above choice)))

-- a line `window`
abbrev pub window_row : Begun → TreeCounts → List Above → Words → Answer → Type 0
window_row b c above ws = Must (IsShape (codes "window") 2 ws) Shape
    (MustSpell (λ (p : ℕ × ℕ). window_line p.0 p.1) (λ p. (p.0 < length b.instance.tasks) × (p.1 ≤ LAST_MINUTE)) ws Number λ p.
    after_split b c above (choices.Window p.0 p.1))

-- a line `pair`
abbrev pub pair_row : Begun → TreeCounts → List Above → Words → Answer → Type 0
pair_row b c above ws = Must (IsShape (codes "pair") 2 ws) Shape
    (MustSpell (λ (p : ℕ × ℕ). pair_line p.0 p.1) (λ p. (p.0 < length b.instance.teams) × (p.1 < length b.instance.tasks)) ws Number λ p.
    after_split b c above (choices.Pair p.0 p.1))

-- what is said after a leaf without prices
abbrev pub after_bare : Begun → TreeCounts → List Above → Answer → Type 0
after_bare b c above = Must (frame_sum left_open 0 above < c.left_open) Count (Must (b.bound ≡ 0) Bound (Goes (node_done b c above (LeafNode Bare))))

-- what is said after the first line of a leaf with prices
abbrev pub after_leaf : Begun → TreeCounts → List Above → Bool → Answer → Type 0
after_leaf b c above is_closed = Must ((if is_closed then frame_sum closed 0 above else frame_sum left_open 0 above) < (if is_closed then c.closed else c.left_open)) Count
    (Goes (Prices (record { begun = b; counts = c; above = above; is_closed = is_closed })))

-- a line `leaf`
abbrev pub leaf_row : Begun → TreeCounts → List Above → Words → Answer → Type 0
leaf_row b c above ws = Must (IsShape (codes "leaf") 1 ws) Shape
    (When (ws ≡ bare_line) (after_bare b c above)
    (When (ws ≡ open_line) (after_leaf b c above false)
    (Must (ws ≡ closed_line) Shape (after_leaf b c above true))))

-- a line of a node
abbrev pub node_row : Begun → TreeCounts → List Above → Words → Answer → Type 0
node_row b c above ws = When (Begins (codes "window") ws) (window_row b c above ws)
    (When (Begins (codes "pair") ws) (pair_row b c above ws)
    (leaf_row b c above ws))
