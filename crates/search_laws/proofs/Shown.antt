-- what a loose split shows stays shown
use Rattle.std.proofs.Common.{◌≤◌, ◌<◌, ℕ, List, [], ◌∷◌, sym, subst, arith, ◌⊎◌, inl, inr}
use Rattle.std.proofs.lemmas.Bool.{cases_lt}
use Rattle.crew_terms.specs.Limits.{Limits, Route, tasks_in}
use Rattle.crew_terms.specs.Leaf.{Prices}
use Rattle.crew_terms.specs.Branches.{LeafNode, SplitNode}
use Rattle.crew_terms.specs.Tree.{child}
use Rattle.crew_terms.specs.declared.Side.{Side}
use Rattle.crew_terms.specs.declared.Side.TheVariants.{First, Second}
use Rattle.share_terms.specs.Shares.{FractionalChoice}
use Rattle.search_terms.specs.Choice.{IsValidChoice}
use Rattle.search_terms.specs.Proven.{PricesProve}
use Rattle.search_terms.specs.Earned.{Why, Loose, Overflowed, Spent}
use Rattle.search_terms.specs.SearchTree.{SearchTree, OpenLeaf, ClosedLeaf, Split, EachOpen, IfOpen}
use Rattle.search_terms.specs.Ways.{limits_at, prices_at, IsOpenAt, replaced}
use Rattle.search_terms.specs.Search.{Becomes, Closes, Splits, IsHandedOn, Found, Own}
use Rattle.search_terms.specs.Caused.{NearlyProves, IsLooseShown, AreLooseShown, ProveNearly, LooseProves}
use Rattle.search_terms.specs.WayLimits.{tasks_at}
use Rattle.search_laws.proofs.Inside.{HasShape, child_shape, child_proves, less_proved}
use Rattle.search_laws.proofs.Ways.{each_replaced, ways_from_each, shape_at}
use Rattle.search_laws.proofs.Steps.{handed_proves}

-- ---- a new split

-- what is handed on proves what was found
found_on : (n : Limits) (own found handed : Prices) (l : ℕ) → IsHandedOn n own found handed → PricesProve n found l → PricesProve n handed l
found_on n own found handed l (Found enough is) h = subst (λ q. PricesProve n q l) (sym is) h
found_on n own found handed l (Own m known bigger less is) h = by (cases_lt m l)
  where
    by : (m < l) ⊎ (l ≤ m) → PricesProve n handed l
    by (inl lt) = absurd (less (less_proved n found l m (omega arith) h))
    by (inr le) = subst (λ q. PricesProve n q l) (sym is) (less_proved n own m l le bigger)

pub new_shown : (n : Limits) (split : Split) (own found handed : Prices) → HasShape n → IsValidChoice n split.choice → IsHandedOn n own found handed → (why : Why) → LooseProves n found why
    → IsLooseShown n (SplitNode split (LeafNode (OpenLeaf handed)) (LeafNode (OpenLeaf handed))) why
new_shown n split own found handed shape valid on (Loose c) near =
    let both = λ (l : ℕ) (h : NearlyProves n c l). found_on n own found handed l on (near l h).1 in
    ((λ l h. ((near l h).0, child_proves n split.choice First handed l shape valid.can (both l h))), (λ l h. ((near l h).0, child_proves n split.choice Second handed l shape valid.can (both l h))))
new_shown n split own found handed shape valid on (Overflowed fault) near = tt
new_shown n split own found handed shape valid on Spent near = tt

-- ---- the splits above a leaf that changes

module _ (now pivots : ℕ) (columns : List Route) where
  -- what a leaf proves its children prove
  new_kept : (top : Limits) (c : FractionalChoice) (n : Limits) (p : Prices) (new : SearchTree) → tasks_in top ≤ tasks_in n → HasShape n → Becomes now pivots columns n p new
      → ProveNearly top c n p → EachOpen (ProveNearly top c) n new
  new_kept top c n p new few shape (Closes prices proved is) each = subst (λ t. EachOpen (ProveNearly top c) n t) (sym is) tt
  new_kept top c n p new few shape (Splits split handed s is) each =
      let both = λ (l : ℕ) (h : NearlyProves top c l). handed_proves now pivots columns n p s.found handed l (let e = each l h in omega (arith, e.0)) s.on (each l h).1 in
      subst (λ t. EachOpen (ProveNearly top c) n t) (sym is)
      ((λ l h. ((each l h).0, child_proves n split.choice First handed l shape s.valid.can (both l h))), (λ l h. ((each l h).0, child_proves n split.choice Second handed l shape s.valid.can (both l h))))

  kept : (top : Limits) (c : FractionalChoice) (n : Limits) (t : SearchTree) (way : List Side) (new : SearchTree) → tasks_in top ≤ tasks_in n → HasShape n → IsOpenAt t way
      → Becomes now pivots columns (limits_at n t way) (prices_at t way) new → EachOpen (ProveNearly top c) n t → EachOpen (ProveNearly top c) n (replaced t way new)
  kept top c n t way new few shape leads becomes each =
      each_replaced (IfOpen (ProveNearly top c)) n t way new leads each
      (new_kept top c (limits_at n t way) (prices_at t way) new (tasks_at n t way (tasks_in top) few) (shape_at n t way shape) becomes (ways_from_each (ProveNearly top c) n t each way leads))

  split_kept : (n : Limits) (t : SearchTree) (way : List Side) (new : SearchTree) → HasShape n → IsOpenAt t way → Becomes now pivots columns (limits_at n t way) (prices_at t way) new
      → (why : Why) → IsLooseShown n t why → IsLooseShown n (replaced t way new) why
  split_kept n t way new shape leads becomes (Loose c) h = kept n c n t way new (omega arith) shape leads becomes h
  split_kept n t way new shape leads becomes (Overflowed fault) h = tt
  split_kept n t way new shape leads becomes Spent h = tt

  pub shown_replaced : (n : Limits) (t : SearchTree) (way : List Side) (new : SearchTree) → HasShape n → IsOpenAt t way → Becomes now pivots columns (limits_at n t way) (prices_at t way) new
      → AreLooseShown (limits_at n t way) new → AreLooseShown n t → AreLooseShown n (replaced t way new)
  shown_replaced n (LeafNode (OpenLeaf p)) way new shape leads becomes own each = own
  shown_replaced n (LeafNode (ClosedLeaf p)) way new shape leads becomes own each = elim leads [ ]
  shown_replaced n (SplitNode split first second) [] new shape leads becomes own each = elim leads [ ]
  shown_replaced n (SplitNode split first second) (First ∷ way) new shape leads becomes own each = (
    split_kept n (SplitNode split first second) (First ∷ way) new shape leads becomes split.cause.why each.0,
    shown_replaced (child n split.choice First) first way new (child_shape n split.choice First shape) leads becomes own each.1,
    each.2,
  )
  shown_replaced n (SplitNode split first second) (Second ∷ way) new shape leads becomes own each = (
    split_kept n (SplitNode split first second) (Second ∷ way) new shape leads becomes split.cause.why each.0,
    each.1,
    shown_replaced (child n split.choice Second) second way new (child_shape n split.choice Second shape) leads becomes own each.2,
  )
