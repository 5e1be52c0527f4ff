-- a tree as it is written is sound where its prices prove what they claim
use Rattle.std.proofs.Common.{[], ◌≡◌, ◌<◌, ◌+◌, ◌↔◌, ℕ, List, length, get_or, sym, subst}
use Rattle.std.specs.Prelude.{ℤ, pos, FitsSigned, ◌≤ℤ◌, slice_index}
use Rattle.std.specs.Int.{w64}
use Rattle.crew_terms.specs.Branches.{LeafNode, SplitNode, Claim, Bare, Open, Closed}
use Rattle.crew_terms.specs.Leaf.{Prices, AreInRange, HoldsLocally, IsOnRequired, IsValidLeaf, IsWorth, Proves, bound_of, rho_of, worth_of, earned}
use Rattle.crew_terms.specs.Limits.{Limits, IsPermittedVisit, pair_of, tasks_in, teams_in}
use Rattle.crew_terms.specs.Minutes.{IsListOf, IsMinuteOf, first_minute, open_tasks, priced, required_teams}
use Rattle.crew_terms.specs.Rules.{IsInstance}
use Rattle.crew_terms.specs.Tree.{CanSplit, IsSound, IsSoundLeaf, ProvesIn, child}
use Rattle.crew_terms.specs.declared.Pair.TheVariants.{Required}
use Rattle.crew_terms.specs.declared.Side.TheVariants.{First, Second}
use Rattle.crew_terms.specs.Children.{child_is}
use Rattle.dossier_terms.specs.Dossier.{AreWritten, IsWritten, IsWrittenClaim, Leaf, Written, claim_of, no_potentials, phi_of, priced_of, prices_of, tree_of, worths_of}
use Rattle.branch_tree.specs.Trees.{BranchTree, ClaimedLeaf}
use Rattle.label_pricing.specs.Best.{IsBest}
use Rattle.label_pricing.specs.Worths.{AreWorths}
use Rattle.search_terms.specs.Proven.{PricesProve}
use Rattle.cert_write.specs.Given.{IsPriced}
use Rattle.cert_write.specs.Dossiers.{IsPricedClaim, IsPricedLeaf, IsPricedTree}
use Rattle.written_laws.specs.Proved.{IsProvedLeaf, IsProvedTree}
use Rattle.written_laws.proofs.Leaves.{are_worths, best_at, prices_same, written}

module _ (least : (n : Limits) (k : ℕ) (p : Prices) (v : ℤ) → IsWorth n k (earned p k) v → pos 0 ≤ℤ v)
    (worths : (n : Limits) (k : ℕ) (p : Prices) (v : ℤ) → IsInstance n.instance → AreInRange p → k < teams_in n → IsWorth n k (earned p k) v → FitsSigned w64 v)
    (bests : (n : Limits) (k : ℕ) (p : Prices) (j t : ℕ) (v : ℤ) → IsInstance n.instance → AreInRange p → k < teams_in n → IsPermittedVisit n k j t → IsBest n k (earned p k) j t v → FitsSigned w64 v)
    (in_range : (n : Limits) (leaf : Leaf) → IsWritten n leaf → AreInRange (prices_of n leaf) × IsOnRequired n (prices_of n leaf))
    (required : (n : Limits) (j : ℕ) → IsListOf (λ k. (k < teams_in n) × (pair_of n k j ≡ Required)) (required_teams n j))
    (priced_ones : (n : Limits) → IsListOf (λ j. (j < tasks_in n) × ((k : ℕ) × (k < teams_in n) × (pair_of n k j ≡ Required))) (priced n))
    (extra : (n : Limits) (leaf : Leaf) (a b : ℕ) → IsWritten n leaf → a < length (priced n) → b < length (required_teams n (slice_index (priced n) a))
    → rho_of (prices_of n leaf) (slice_index (required_teams n (slice_index (priced n) a)) b) (slice_index (priced n) a) ≡ get_or (get_or leaf.extras a []) b (pos 0)) where
  module _ (n : Limits) (instance : IsInstance n.instance) (p : Prices) (is : IsPriced n p) (leaf : Leaf) (same : IsPricedLeaf n p leaf) where
    pub leaf_written : IsWritten n leaf
    leaf_written = written n p
        (λ k v known w. worths n k p v instance is.prices.range known w) (λ k v w. least n k p v w) (λ k j t v known here b. bests n k p j t v instance is.prices.range known here b)
        leaf is same

    pub leaf_prices : prices_of n leaf ≡ p
    leaf_prices = prices_same n p
        (λ k v known w. worths n k p v instance is.prices.range known w) (λ k v w. least n k p v w) (λ k j t v known here b. bests n k p j t v instance is.prices.range known here b)
        leaf is same (required n) (priced_ones n) (in_range n leaf leaf_written).1 (λ a b below within. extra n leaf a b leaf_written below within)

    leaf_worths : AreWorths n p (worths_of leaf)
    leaf_worths = are_worths n p
        (λ k v known w. worths n k p v instance is.prices.range known w) (λ k v w. least n k p v w) (λ k j t v known here b. bests n k p j t v instance is.prices.range known here b)
        leaf is same

  module _ (minutes : (n : Limits) (k j t : ℕ) → IsPermittedVisit n k j t ↔ IsMinuteOf n k j t)
      (open_ones : (n : Limits) (k : ℕ) → IsListOf (λ j. (t : ℕ) × IsPermittedVisit n k j t) (open_tasks n k))
      (potential : (n : Limits) (leaf : Leaf) (k a m : ℕ) → IsWritten n leaf → k < teams_in n → a < length (open_tasks n k)
      → phi_of n leaf k (slice_index (open_tasks n k) a) (first_minute n k (slice_index (open_tasks n k) a) + m) ≡ get_or (get_or (get_or leaf.tables k no_potentials).phi a []) m (pos 0))
      (hold : (n : Limits) (k : ℕ) (p : Prices) (phi : ℕ → ℕ → ℤ) (worth : ℤ) → ((j t : ℕ) → IsPermittedVisit n k j t → IsBest n k (earned p k) j t (phi j t)) → IsWorth n k (earned p k) worth → HoldsLocally n k (earned p k) phi worth)
      (decide : (n : Limits) (p : Prices) (worths : List ℤ) (l : ℕ) → IsInstance n.instance → AreInRange p → IsOnRequired n p → AreWorths n p worths → PricesProve n p l ↔ Proves (bound_of n p worths) l) where
    module _ (n : Limits) (instance : IsInstance n.instance) (p : Prices) (is : IsPriced n p) (leaf : Leaf) (same : IsPricedLeaf n p leaf) where
      leaf_valid : IsValidLeaf n p (worths_of leaf) (phi_of n leaf)
      leaf_valid = record {
        range = is.prices.range;
        priced = is.required;
        valid = λ k known. hold n k p (phi_of n leaf k) (worth_of (worths_of leaf) k)
            (λ j t here. best_at n p
            (λ k v known w. worths n k p v instance is.prices.range known w) (λ k v w. least n k p v w) (λ k j t v known here b. bests n k p j t v instance is.prices.range known here b)
            leaf is same (minutes n) (open_ones n) (λ k a m known below. potential n leaf k a m (leaf_written n instance p is leaf same) known below) k j t known here)
            ((leaf_worths n instance p is leaf same).each k known);
      }

      leaf_proves : (l : ℕ) → PricesProve n p l → ProvesIn n (priced_of n leaf) l
      leaf_proves l proved =
          let e = leaf_prices n instance p is leaf same in (
            subst (λ q. IsValidLeaf n q (worths_of leaf) (phi_of n leaf)) (sym e) leaf_valid,
            subst (λ q. Proves (bound_of n q (worths_of leaf)) l) (sym e) ((decide n p (worths_of leaf) l instance is.prices.range is.required (leaf_worths n instance p is leaf same)).0 proved),
          )

    -- what a claim holds
    claim_good : (n : Limits) → IsInstance n.instance → (l u : ℕ) (given : ClaimedLeaf) (claim : Claim Leaf) → IsPricedClaim n given claim → IsPriced n given.prices
        → IsProvedLeaf n l u given.state given.prices → IsWrittenClaim n claim × IsSoundLeaf n l u (claim_of n claim)
    claim_good n instance l u given Bare same is proved = (tt, subst (λ s. IsProvedLeaf n l u s given.prices) same proved)
    claim_good n instance l u given (Open leaf) same is proved = (
      leaf_written n instance given.prices is leaf same.1,
      leaf_proves n instance given.prices is leaf same.1 l (subst (λ s. IsProvedLeaf n l u s given.prices) same.0 proved),
    )
    claim_good n instance l u given (Closed leaf) same is proved =
        let both = subst (λ s. IsProvedLeaf n l u s given.prices) same.0 proved in (
          leaf_written n instance given.prices is leaf same.1,
          (leaf_proves n instance given.prices is leaf same.1 l both.0, leaf_proves n instance given.prices is leaf same.1 u both.1),
        )

    -- a tree that is written of one that is proved
    pub tree_good : (n : Limits) → IsInstance n.instance → (l u : ℕ) (t : BranchTree) (w : Written) → IsPricedTree n t w → IsProvedTree n l u t
        → AreWritten n w × IsSound (tree_of n w) n l u
    tree_good n instance l u (LeafNode given) (LeafNode claim) same proved = claim_good n instance l u given claim same proved.0 proved.1
    tree_good n instance l u (LeafNode given) (SplitNode split low high) same proved = absurd same
    tree_good n instance l u (SplitNode choice first second) (LeafNode claim) same proved = absurd same
    tree_good n instance l u (SplitNode choice first second) (SplitNode split low high) same proved =
        let e : choice ≡ split.choice = same.0 in
        let a = tree_good (child n split.choice First) (child_is n split.choice First instance) l u first low
        (subst (λ x. IsPricedTree (child n x First) first low) e same.1) (subst (λ x. IsProvedTree (child n x First) l u first) e proved.1) in
        let b = tree_good (child n split.choice Second) (child_is n split.choice Second instance) l u second high
        (subst (λ x. IsPricedTree (child n x Second) second high) e same.2) (subst (λ x. IsProvedTree (child n x Second) l u second) e proved.2) in
        ((a.0, b.0), (subst (CanSplit n) e proved.0, a.1, b.1))
