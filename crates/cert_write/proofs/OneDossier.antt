-- parts have one dossier
use Rattle.std.proofs.Common.{◌≡◌, ◌<◌, ◌+◌, ◌++◌, ◌∷◌, [], ℕ, suc, List, length, get_or, ap, sym, refl, subst, ◌∙◌, arith}
use Rattle.std.specs.Prelude.{ℤ, pos}
use Rattle.std.proofs.lemmas.List.{length-append}
use Rattle.crew_terms.specs.Branches.{LeafNode, SplitNode, Claim, Bare, Open, Closed, splits}
use Rattle.crew_terms.specs.Leaf.{Prices, IsWorth, earned}
use Rattle.crew_terms.specs.Limits.{Limits, root_limits, teams_in}
use Rattle.crew_terms.specs.Minutes.{first_minute, open_tasks}
use Rattle.crew_terms.specs.Tree.{child}
use Rattle.crew_terms.specs.declared.Side.TheVariants.{First, Second}
use Rattle.dossier_terms.specs.Dossier.{Leaf, Potentials, Written}
use Rattle.branch_tree.specs.Trees.{BranchTree, ClaimedLeaf, preorder}
use Rattle.branch_tree.specs.declared.tree.LeafState.TheVariants as states
use Rattle.label_pricing.specs.Best.{IsBest}
use Rattle.cert_write.specs.Given.{Given}
use Rattle.cert_write.specs.Dossiers.{AreBestRows, ArePricedTables, IsBestRow, IsPricedClaim, IsPricedLeaf, IsPricedTable, IsPricedTree, IsTreeOfGiven, causes_of}

-- two lists with the same numbers
same_list : (xs ys : List ℤ) → length xs ≡ length ys → ((m : ℕ) → m < length xs → get_or xs m (pos 0) ≡ get_or ys m (pos 0)) → xs ≡ ys
same_list [] [] n each = refl
same_list [] (y ∷ ys) n each = absurd (omega arith)
same_list (x ∷ xs) [] n each = absurd (omega arith)
same_list (x ∷ xs) (y ∷ ys) n each = ap (λ v. v ∷ xs) (each 0 (omega arith)) ∙ ap (λ vs. y ∷ vs) (same_list xs ys (omega arith) (λ m b. each (suc m) (omega arith)))

module _ (one : (n : Limits) (k : ℕ) (p : Prices) (j t : ℕ) (v w : ℤ) → IsBest n k (earned p k) j t v → IsBest n k (earned p k) j t w → v ≡ w)
    (one_worth : (n : Limits) (k : ℕ) (p : Prices) (v w : ℤ) → IsWorth n k (earned p k) v → IsWorth n k (earned p k) w → v ≡ w) where
  one_row : (n : Limits) (k : ℕ) (p : Prices) (j : ℕ) (xs ys : List ℤ) → IsBestRow n k p j xs → IsBestRow n k p j ys → xs ≡ ys
  one_row n k p j xs ys a b = same_list xs ys (a.count ∙ sym b.count) (λ m h. one n k p j (first_minute n k j + m) _ _ (a.each m h) (b.each m (let x = a.count in let y = b.count in omega (arith, h, x, y))))

  one_rows : (n : Limits) (k : ℕ) (p : Prices) (js : List ℕ) (xs ys : List (List ℤ)) → AreBestRows n k p js xs → AreBestRows n k p js ys → xs ≡ ys
  one_rows n k p [] [] [] a b = refl
  one_rows n k p [] [] (y ∷ ys) a b = absurd b
  one_rows n k p [] (x ∷ xs) ys a b = absurd a
  one_rows n k p (j ∷ js) [] ys a b = absurd a
  one_rows n k p (j ∷ js) (x ∷ xs) [] a b = absurd b
  one_rows n k p (j ∷ js) (x ∷ xs) (y ∷ ys) a b = ap (λ r. r ∷ xs) (one_row n k p j x y a.0 b.0) ∙ ap (λ rs. y ∷ rs) (one_rows n k p js xs ys a.1 b.1)

  one_table : (n : Limits) (k : ℕ) (p : Prices) (t u : Potentials) → IsPricedTable n k p t → IsPricedTable n k p u → t ≡ u
  one_table n k p t u a b =
      ap (λ w. record { worth = w; phi = t.phi }) (one_worth n k p t.worth u.worth a.worth b.worth)
      ∙ ap (λ rows. record { worth = u.worth; phi = rows }) (one_rows n k p (open_tasks n k) t.phi u.phi a.rows b.rows)

  tables_count : (n : Limits) (p : Prices) (k : ℕ) (ts : List Potentials) → ArePricedTables n p k ts → k + length ts ≡ teams_in n
  tables_count n p k [] are = (let e : k + 0 ≡ k = omega arith in e) ∙ are
  tables_count n p k (t ∷ ts) are = (let e : k + suc (length ts) ≡ suc k + length ts = omega arith in e) ∙ tables_count n p (suc k) ts are.1

  one_tables : (n : Limits) (p : Prices) (k : ℕ) (ts us : List Potentials) → ArePricedTables n p k ts → ArePricedTables n p k us → length ts ≡ length us → ts ≡ us
  one_tables n p k [] [] a b e = refl
  one_tables n p k [] (u ∷ us) a b e = absurd (omega arith)
  one_tables n p k (t ∷ ts) [] a b e = absurd (omega arith)
  one_tables n p k (t ∷ ts) (u ∷ us) a b e = ap (λ x. x ∷ ts) (one_table n k p t u a.0 b.0) ∙ ap (λ xs. u ∷ xs) (one_tables n p (suc k) ts us a.1 b.1 (omega arith))

  one_leaf : (n : Limits) (p : Prices) (x y : Leaf) → IsPricedLeaf n p x → IsPricedLeaf n p y → x ≡ y
  one_leaf n p x y a b =
      let c = tables_count n p 0 x.tables a.tables in
      let d = tables_count n p 0 y.tables b.tables in
      ap (λ v. record { prices = v; extras = x.extras; tables = x.tables }) (a.prices ∙ sym b.prices)
      ∙ ap (λ v. record { prices = y.prices; extras = v; tables = x.tables }) (a.extras ∙ sym b.extras)
      ∙ ap (λ v. record { prices = y.prices; extras = y.extras; tables = v }) (one_tables n p 0 x.tables y.tables a.tables b.tables (omega (arith, c, d)))

  one_claim : (n : Limits) (given : ClaimedLeaf) (x y : Claim Leaf) → IsPricedClaim n given x → IsPricedClaim n given y → x ≡ y
  one_claim n given Bare Bare a b = refl
  one_claim n given Bare (Open y) a b = let e : states.Bare ≡ states.Open = sym a ∙ b.0 in cc
  one_claim n given Bare (Closed y) a b = let e : states.Bare ≡ states.Closed = sym a ∙ b.0 in cc
  one_claim n given (Open x) Bare a b = let e : states.Open ≡ states.Bare = sym a.0 ∙ b in cc
  one_claim n given (Open x) (Open y) a b = ap Open (one_leaf n given.prices x y a.1 b.1)
  one_claim n given (Open x) (Closed y) a b = let e : states.Open ≡ states.Closed = sym a.0 ∙ b.0 in cc
  one_claim n given (Closed x) Bare a b = let e : states.Closed ≡ states.Bare = sym a.0 ∙ b in cc
  one_claim n given (Closed x) (Open y) a b = let e : states.Closed ≡ states.Open = sym a.0 ∙ b.0 in cc
  one_claim n given (Closed x) (Closed y) a b = ap Closed (one_leaf n given.prices x y a.1 b.1)

  causes_count : (n : Limits) (t : BranchTree) (w : Written) → IsPricedTree n t w → length (causes_of w) ≡ splits t
  causes_count n (LeafNode given) (LeafNode claim) is = refl
  causes_count n (LeafNode given) (SplitNode split low high) is = absurd is
  causes_count n (SplitNode choice first second) (LeafNode claim) is = absurd is
  causes_count n (SplitNode choice first second) (SplitNode split low high) is =
      let a = causes_count (child n choice First) first low is.1 in
      let b = causes_count (child n choice Second) second high is.2 in
      let l = length-append (causes_of low) (causes_of high) in
      omega (arith, a, b, l)

  -- two lists that are joined of as long ones
  split_lists : {A : Type 0} (xs bs ys ds : List A) → length xs ≡ length ys → xs ++ bs ≡ ys ++ ds → (xs ≡ ys) × (bs ≡ ds)
  split_lists [] bs [] ds n e = (refl, e)
  split_lists [] bs (y ∷ ys) ds n e = absurd (omega arith)
  split_lists (x ∷ xs) bs [] ds n e = absurd (omega arith)
  split_lists (x ∷ xs) bs (y ∷ ys) ds n e =
      let head : x ≡ y = cc in
      let tail : xs ++ bs ≡ ys ++ ds = cc in
      let rest = split_lists xs bs ys ds (omega arith) tail in
      (ap (λ v. v ∷ xs) head ∙ ap (λ vs. y ∷ vs) rest.0, rest.1)

  one_tree : (n : Limits) (t : BranchTree) (w v : Written) → IsPricedTree n t w → IsPricedTree n t v → causes_of w ≡ causes_of v → w ≡ v
  one_tree n (LeafNode given) (LeafNode x) (LeafNode y) a b e = ap LeafNode (one_claim n given x y a b)
  one_tree n (LeafNode given) (LeafNode x) (SplitNode split low high) a b e = absurd b
  one_tree n (LeafNode given) (SplitNode split low high) v a b e = absurd a
  one_tree n (SplitNode choice first second) (LeafNode x) v a b e = absurd a
  one_tree n (SplitNode choice first second) (SplitNode split low high) (LeafNode y) a b e = absurd b
  one_tree n (SplitNode choice first second) (SplitNode split low high) (SplitNode other left right) a b e =
      let why : split.cause ≡ other.cause = cc in
      let rest : causes_of low ++ causes_of high ≡ causes_of left ++ causes_of right = cc in
      let parts = split_lists (causes_of low) (causes_of high) (causes_of left) (causes_of right) (causes_count (child n choice First) first low a.1 ∙ sym (causes_count (child n choice First) first left b.1)) rest in
      ap (λ s. SplitNode s low high) (ap (λ x. record { choice = x; cause = split.cause }) (sym a.0 ∙ b.0) ∙ ap (λ x. record { choice = other.choice; cause = x }) why)
      ∙ ap (λ x. SplitNode other x high) (one_tree (child n choice First) first low left a.1 b.1 parts.0)
      ∙ ap (λ x. SplitNode other left x) (one_tree (child n choice Second) second high right a.2 b.2 parts.1)

  pub one_written : (g : Given) (w v : Written) → ((t u : BranchTree) → preorder t ≡ preorder u → t ≡ u) → IsTreeOfGiven g w → IsTreeOfGiven g v → w ≡ v
  one_written g w v unique a b =
      one_tree (root_limits g.instance) b.tree w v (subst (λ t. IsPricedTree (root_limits g.instance) t w) (unique a.tree b.tree (sym a.nodes ∙ b.nodes)) a.same) b.same (a.causes ∙ sym b.causes)
