-- ways to open leaves, and what becomes of a tree at the end of one
use Rattle.std.proofs.Common.{◌≡◌, ◌+◌, ◌++◌, List, [], ◌∷◌, refl, ap, arith}
use Rattle.crew_terms.specs.Limits.{Limits}
use Rattle.crew_terms.specs.Leaf.{Prices}
use Rattle.crew_terms.specs.Branches.{LeafNode, SplitNode, splits}
use Rattle.crew_terms.specs.Tree.{child}
use Rattle.crew_terms.specs.declared.Side.{Side}
use Rattle.crew_terms.specs.declared.Side.TheVariants.{First, Second}
use Rattle.search_terms.specs.Choice.{IsValidChoice}
use Rattle.search_terms.specs.Inside.{IsNode}
use Rattle.search_terms.specs.SearchTree.{SearchTree, SearchLeaf, OpenLeaf, ClosedLeaf, Split, EachLeaf, EachOpen, closed_leaves}
use Rattle.search_terms.specs.Ways.{limits_at, prices_at, IsOpenAt, replaced, StaysOpen, CameFrom, Before, Below}
use Rattle.search_laws.proofs.Inside.{HasShape, child_shape, ChildrenAreLimits, child_node}

-- ---- what holds of each leaf, and at the end of each way to an open one

abbrev pub AtEach : (Limits → Prices → Type 0) → Limits → SearchTree → Type 0
AtEach P n t = (way : List Side) → IsOpenAt t way → P (limits_at n t way) (prices_at t way)

pub each_from_ways : (P : Limits → Prices → Type 0) (n : Limits) (t : SearchTree) → AtEach P n t → EachOpen P n t
each_from_ways P n (LeafNode (OpenLeaf p)) h = h [] tt
each_from_ways P n (LeafNode (ClosedLeaf p)) h = tt
each_from_ways P n (SplitNode split first second) h =
    (each_from_ways P (child n split.choice First) first (λ way o. h (First ∷ way) o), each_from_ways P (child n split.choice Second) second (λ way o. h (Second ∷ way) o))

pub ways_from_each : (P : Limits → Prices → Type 0) (n : Limits) (t : SearchTree) → EachOpen P n t → AtEach P n t
ways_from_each P n (LeafNode (OpenLeaf p)) h [] o = h
ways_from_each P n (LeafNode (OpenLeaf p)) h (s ∷ way) o = elim o [ ]
ways_from_each P n (LeafNode (ClosedLeaf p)) h way o = elim o [ ]
ways_from_each P n (SplitNode split first second) h [] o = elim o [ ]
ways_from_each P n (SplitNode split first second) h (First ∷ way) o = ways_from_each P (child n split.choice First) first h.0 way o
ways_from_each P n (SplitNode split first second) h (Second ∷ way) o = ways_from_each P (child n split.choice Second) second h.1 way o

-- what holds of each leaf, and of each leaf of what is put at the end of a way, holds of each leaf afterwards
pub each_replaced : (P : Limits → SearchLeaf → Type 0) (n : Limits) (t : SearchTree) (way : List Side) (new : SearchTree) → IsOpenAt t way
    → EachLeaf P n t → EachLeaf P (limits_at n t way) new → EachLeaf P n (replaced t way new)
each_replaced P n (LeafNode leaf) way new o h k = k
each_replaced P n (SplitNode split first second) [] new o h k = elim o [ ]
each_replaced P n (SplitNode split first second) (First ∷ way) new o h k = (each_replaced P (child n split.choice First) first way new o h.0 k, h.1)
each_replaced P n (SplitNode split first second) (Second ∷ way) new o h k = (h.0, each_replaced P (child n split.choice Second) second way new o h.1 k)

-- ---- the splits of a tree

-- each split is a valid choice of its node
abbrev pub AreValid : Limits → SearchTree → Type 0
AreValid n (LeafNode leaf) = Unit {0}
AreValid n (SplitNode split first second) = IsValidChoice n split.choice × AreValid (child n split.choice First) first × AreValid (child n split.choice Second) second

pub valid_replaced : (n : Limits) (t : SearchTree) (way : List Side) (new : SearchTree) → IsOpenAt t way → AreValid n t → AreValid (limits_at n t way) new → AreValid n (replaced t way new)
valid_replaced n (LeafNode leaf) way new o h k = k
valid_replaced n (SplitNode split first second) [] new o h k = elim o [ ]
valid_replaced n (SplitNode split first second) (First ∷ way) new o h k = (h.0, valid_replaced (child n split.choice First) first way new o h.1 k, h.2)
valid_replaced n (SplitNode split first second) (Second ∷ way) new o h k = (h.0, h.1, valid_replaced (child n split.choice Second) second way new o h.2 k)

pub count_replaced : (t : SearchTree) (way : List Side) (new : SearchTree) → IsOpenAt t way → splits new + closed_leaves new ≡ 1
    → splits (replaced t way new) + closed_leaves (replaced t way new) ≡ splits t + closed_leaves t + 1
count_replaced (LeafNode (OpenLeaf p)) way new o e = omega arith
count_replaced (LeafNode (ClosedLeaf p)) way new o e = elim o [ ]
count_replaced (SplitNode split first second) [] new o e = elim o [ ]
count_replaced (SplitNode split first second) (First ∷ way) new o e = let a = count_replaced first way new o e in omega arith
count_replaced (SplitNode split first second) (Second ∷ way) new o e = let a = count_replaced second way new o e in omega arith

-- ---- the limits at the end of a way

pub shape_at : (n : Limits) (t : SearchTree) (way : List Side) → HasShape n → HasShape (limits_at n t way)
shape_at n (LeafNode leaf) way s = s
shape_at n (SplitNode split first second) [] s = s
shape_at n (SplitNode split first second) (First ∷ way) s = shape_at (child n split.choice First) first way (child_shape n split.choice First s)
shape_at n (SplitNode split first second) (Second ∷ way) s = shape_at (child n split.choice Second) second way (child_shape n split.choice Second s)

pub node_at : ChildrenAreLimits → (n : Limits) (t : SearchTree) (way : List Side) → IsNode n → AreValid n t → IsNode (limits_at n t way)
node_at law n (LeafNode leaf) way is h = is
node_at law n (SplitNode split first second) [] is h = is
node_at law n (SplitNode split first second) (First ∷ way) is h = node_at law (child n split.choice First) first way (child_node law n split.choice First is h.0.can) h.1
node_at law n (SplitNode split first second) (Second ∷ way) is h = node_at law (child n split.choice Second) second way (child_node law n split.choice Second is h.0.can) h.2

-- ---- other ways

-- a way to an open leaf stays one where another leaf changes
pub stays_open : (n : Limits) (t : SearchTree) (way other : List Side) (new : SearchTree) → IsOpenAt t way → IsOpenAt t other → (other ≡ way → ⊥) → StaysOpen n t (replaced t way new) other
stays_open n (LeafNode (OpenLeaf p)) [] [] new a b ne = absurd (ne refl)
stays_open n (LeafNode (OpenLeaf p)) [] (s ∷ other) new a b ne = elim b [ ]
stays_open n (LeafNode (OpenLeaf p)) (s ∷ way) other new a b ne = elim a [ ]
stays_open n (LeafNode (ClosedLeaf p)) way other new a b ne = elim a [ ]
stays_open n (SplitNode split first second) [] other new a b ne = elim a [ ]
stays_open n (SplitNode split first second) (First ∷ way) [] new a b ne = elim b [ ]
stays_open n (SplitNode split first second) (Second ∷ way) [] new a b ne = elim b [ ]
stays_open n (SplitNode split first second) (First ∷ way) (First ∷ other) new a b ne =
    let s = stays_open (child n split.choice First) first way other new a b (λ e. ne (ap (λ w. First ∷ w) e)) in
    record { leads = s.leads; limits = s.limits; prices = s.prices }
stays_open n (SplitNode split first second) (First ∷ way) (Second ∷ other) new a b ne = record { leads = b; limits = refl; prices = refl }
stays_open n (SplitNode split first second) (Second ∷ way) (First ∷ other) new a b ne = record { leads = b; limits = refl; prices = refl }
stays_open n (SplitNode split first second) (Second ∷ way) (Second ∷ other) new a b ne =
    let s = stays_open (child n split.choice Second) second way other new a b (λ e. ne (ap (λ w. Second ∷ w) e)) in
    record { leads = s.leads; limits = s.limits; prices = s.prices }

in_first : (split : Split) (first second : SearchTree) (way : List Side) (new : SearchTree) (other : List Side) → CameFrom first way new other
    → CameFrom (SplitNode split first second) (First ∷ way) new (First ∷ other)
in_first split first second way new other (Before leads apart) = Before leads (λ e. apart (let f : First ∷ other ≡ First ∷ way = e in cc))
in_first split first second way new other (Below rest is leads) = Below rest (ap (λ w. First ∷ w) is) leads

in_second : (split : Split) (first second : SearchTree) (way : List Side) (new : SearchTree) (other : List Side) → CameFrom second way new other
    → CameFrom (SplitNode split first second) (Second ∷ way) new (Second ∷ other)
in_second split first second way new other (Before leads apart) = Before leads (λ e. apart (let f : Second ∷ other ≡ Second ∷ way = e in cc))
in_second split first second way new other (Below rest is leads) = Below rest (ap (λ w. Second ∷ w) is) leads

pub came_from : (t : SearchTree) (way : List Side) (new : SearchTree) (other : List Side) → IsOpenAt t way → IsOpenAt (replaced t way new) other → CameFrom t way new other
came_from (LeafNode (OpenLeaf p)) [] new other a b = Below other refl b
came_from (LeafNode (OpenLeaf p)) (s ∷ way) new other a b = elim a [ ]
came_from (LeafNode (ClosedLeaf p)) way new other a b = elim a [ ]
came_from (SplitNode split first second) [] new other a b = elim a [ ]
came_from (SplitNode split first second) (First ∷ way) new [] a b = elim b [ ]
came_from (SplitNode split first second) (Second ∷ way) new [] a b = elim b [ ]
came_from (SplitNode split first second) (First ∷ way) new (First ∷ other) a b = in_first split first second way new other (came_from first way new other a b)
came_from (SplitNode split first second) (First ∷ way) new (Second ∷ other) a b = Before b (λ e. let f : Second ∷ other ≡ First ∷ way = e in cc)
came_from (SplitNode split first second) (Second ∷ way) new (First ∷ other) a b = Before b (λ e. let f : First ∷ other ≡ Second ∷ way = e in cc)
came_from (SplitNode split first second) (Second ∷ way) new (Second ∷ other) a b = in_second split first second way new other (came_from second way new other a b)

-- the children of a new split
pub child_limits : (n : Limits) (t : SearchTree) (way : List Side) (side : Side) (split : Split) (p q : Prices) → IsOpenAt t way
    → limits_at n (replaced t way (SplitNode split (LeafNode (OpenLeaf p)) (LeafNode (OpenLeaf q)))) (way ++ side ∷ []) ≡ child (limits_at n t way) split.choice side
child_limits n (LeafNode (OpenLeaf o)) [] First split p q h = refl
child_limits n (LeafNode (OpenLeaf o)) [] Second split p q h = refl
child_limits n (LeafNode (OpenLeaf o)) (s ∷ way) side split p q h = elim h [ ]
child_limits n (LeafNode (ClosedLeaf o)) way side split p q h = elim h [ ]
child_limits n (SplitNode other first second) [] side split p q h = elim h [ ]
child_limits n (SplitNode other first second) (First ∷ way) side split p q h = child_limits (child n other.choice First) first way side split p q h
child_limits n (SplitNode other first second) (Second ∷ way) side split p q h = child_limits (child n other.choice Second) second way side split p q h
