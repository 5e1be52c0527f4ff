-- each set of parts has a dossier
use Rattle.std.proofs.Common.{◌≡◌, ◌<◌, ◌≤◌, ◌+◌, ◌++◌, ◌∷◌, [], ℕ, zero, suc, List, Bool, true, false, length, map, take, drop, ap, sym, refl, subst, ◌∙◌, arith, length-drop}
use Rattle.std.specs.Prelude.{ℤ, pos}
use Rattle.std.specs.List.{filter, range_with_len}
use Rattle.std.proofs.lemmas.List.{take_all}
use Rattle.std.proofs.lemmas.List.FromFn.{length-map-range_with_len, get_or-map-range_with_len}
use Rattle.crew_terms.specs.Branches.{LeafNode, SplitNode, Claim, Bare, Open, Closed, splits}
use Rattle.crew_terms.specs.Leaf.{Prices, IsWorth, rho_of, earned}
use Rattle.crew_terms.specs.Limits.{Limits, IsPermittedVisit, root_limits, tasks_in, teams_in}
use Rattle.crew_terms.specs.Minutes.{first_minute, minute_count, open_tasks, priced, required_teams}
use Rattle.crew_terms.specs.Rules.{IsInstance}
use Rattle.crew_terms.specs.Tree.{child}
use Rattle.crew_terms.specs.declared.Side.TheVariants.{First, Second}
use Rattle.crew_terms.specs.Children.{child_is}
use Rattle.dossier_terms.specs.Causes.{Cause}
use Rattle.dossier_terms.specs.Dossier.{Dossier, Leaf, Potentials, Written}
use Rattle.dossier_terms.specs.declared.DossierForm.TheVariants.{Two}
use Rattle.branch_tree.specs.Trees.{BranchTree}
use Rattle.branch_tree.specs.declared.tree.LeafState.{LeafState}
use Rattle.branch_tree.specs.declared.tree.LeafState.TheVariants as states
use Rattle.label_pricing.specs.Best.{IsBest}
use Rattle.cert_write.specs.Given.{AreWritable, Given}
use Rattle.cert_write.specs.Dossiers.{AreBestRows, ArePricedTables, IsBestRow, IsDossierOf, IsPricedClaim, IsPricedLeaf, IsPricedTable, IsPricedTree, causes_of}
use Rattle.dossier_out.specs.Tables.{MinutesLaw, may_begin}

-- a team has a worth, and from each visit on a greatest sum
abbrev pub HaveBests : Type 0
HaveBests = (n : Limits) (k : ℕ) (p : Prices) → IsInstance n.instance
    → (worth : ℤ) × (phi : ℕ → ℕ → ℤ) × IsWorth n k (earned p k) worth × ((j t : ℕ) → IsPermittedVisit n k j t → IsBest n k (earned p k) j t (phi j t))

-- ---- the tables of a leaf

module _ (law : MinutesLaw) (n : Limits) (k : ℕ) (p : Prices) (phi : ℕ → ℕ → ℤ) (best : (j t : ℕ) → IsPermittedVisit n k j t → IsBest n k (earned p k) j t (phi j t)) where
  abbrev row : ℕ → List ℤ
  row j = map (phi j) (range_with_len (first_minute n k j) (minute_count n k j))

  row_is_best : (j : ℕ) → j < tasks_in n → IsBestRow n k p j (row j)
  row_is_best j known = record {
    count = length-map-range_with_len (phi j) (first_minute n k j) (minute_count n k j);
    each = λ m below.
        let f = first_minute n k j in
        let c = minute_count n k j in
        let l = length-map-range_with_len (phi j) f c in
        let in_time : m < c = omega (arith, below, l) in
        subst (IsBest n k (earned p k) j (f + m)) (sym (get_or-map-range_with_len (phi j) f c m (f + m) (pos 0) in_time refl))
        (best j (f + m) ((law n k j (f + m)).1 (record { known = known; from = omega arith; until = omega arith })));
  }

  rows_are_best : (a m : ℕ) → a + m ≤ tasks_in n → AreBestRows n k p (filter (may_begin n k) (range_with_len a m)) (map row (filter (may_begin n k) (range_with_len a m)))
  rows_are_best a zero within = tt
  rows_are_best a (suc m) within = by (may_begin n k a) refl (rows_are_best (a + 1) m (omega arith))
    where
      by : (b : Bool) → may_begin n k a ≡ b → AreBestRows n k p (filter (may_begin n k) (range_with_len (a + 1) m)) (map row (filter (may_begin n k) (range_with_len (a + 1) m)))
          → AreBestRows n k p (filter (may_begin n k) (range_with_len a (suc m))) (map row (filter (may_begin n k) (range_with_len a (suc m))))
      by true is rest = rw is (row_is_best a (omega arith), rest)
      by false is rest = rw is rest

  pub table_is_best : (worth : ℤ) → IsWorth n k (earned p k) worth → IsPricedTable n k p (record { worth = worth; phi = map row (open_tasks n k) })
  table_is_best worth is = record { worth = is; rows = rows_are_best 0 (tasks_in n) (omega arith) }

module _ (law : MinutesLaw) (have : HaveBests) where
  tables : (n : Limits) (p : Prices) → IsInstance n.instance → (m k : ℕ) → k + m ≡ teams_in n → (ts : List Potentials) × ArePricedTables n p k ts
  tables n p is zero k e = ([], (let f : k ≡ k + 0 = omega arith in f) ∙ e)
  tables n p is (suc m) k e =
      let found = have n k p is in
      let rest = tables n p is m (suc k) ((let f : suc k + m ≡ k + suc m = omega arith in f) ∙ e) in
      (record { worth = found.0; phi = map (row law n k p found.1 found.3) (open_tasks n k) } ∷ rest.0, (table_is_best law n k p found.1 found.3 found.0 found.2, rest.1))

  leaf : (n : Limits) (p : Prices) → IsInstance n.instance → (leaf : Leaf) × IsPricedLeaf n p leaf
  leaf n p is =
      let ts = tables n p is (teams_in n) 0 (omega arith) in
      (record { prices = p.pi; extras = map (λ j. map (λ k. rho_of p k j) (required_teams n j)) (priced n); tables = ts.0 }, record { prices = refl; extras = refl; tables = ts.1 })

  claim : (n : Limits) (state : LeafState) (p : Prices) → IsInstance n.instance → (claim : Claim Leaf) × IsPricedClaim n (record { state = state; prices = p }) claim
  claim n states.Bare p is = (Bare, refl)
  claim n states.Open p is = let l = leaf n p is in (Open l.0, (refl, l.1))
  claim n states.Closed p is = let l = leaf n p is in (Closed l.0, (refl, l.1))

  -- ---- trees

  take_both : {A : Type 0} (m k : ℕ) (xs : List A) → take m xs ++ take k (drop m xs) ≡ take (m + k) xs
  take_both zero k xs = ap (λ i. take i xs) (let e : k ≡ zero + k = omega arith in e)
  take_both (suc m) k [] = take_none k ∙ sym (take_none (suc m + k))
    where
      take_none : {A : Type 0} (i : ℕ) → take {A = A} i [] ≡ []
      take_none zero = refl
      take_none (suc i) = refl
  take_both (suc m) k (x ∷ xs) = ap (λ r. x ∷ r) (take_both m k xs) ∙ ap (λ i. take i (x ∷ xs)) (let e : suc (m + k) ≡ suc m + k = omega arith in e)

  -- the tree that is written of this one, with the first causes of the list
  tree : (n : Limits) (t : BranchTree) (causes : List Cause) → IsInstance n.instance → splits t ≤ length causes
      → (w : Written) × IsPricedTree n t w × (causes_of w ≡ take (splits t) causes)
  tree n (LeafNode given) causes is enough = let c = claim n given.state given.prices is in (LeafNode c.0, c.1, refl)
  tree n (SplitNode choice first second) [] is enough = absurd (omega arith)
  tree n (SplitNode choice first second) (cause ∷ causes) is enough =
      let low = tree (child n choice First) first causes (child_is n choice First is) (omega arith) in
      let high = tree (child n choice Second) second (drop (splits first) causes) (child_is n choice Second is) (let l = length-drop (splits first) causes in omega (arith, l)) in (
        SplitNode (record { choice = choice; cause = cause }) low.0 high.0,
        (refl, low.1, high.1),
        ap (λ r. cause ∷ (r ++ causes_of high.0)) low.2 ∙ ap (λ r. cause ∷ (take (splits first) causes ++ r)) high.2
            ∙ ap (λ r. cause ∷ r) (take_both (splits first) (splits second) causes)
            ∙ ap (λ i. take i (cause ∷ causes)) (let e : suc (splits first + splits second) ≡ splits first + splits second + 1 = omega arith in e),
      )

  pub some_dossier : (g : Given) → IsInstance g.instance → AreWritable g → (d : Dossier) × IsDossierOf g d
  some_dossier g is valid =
      let root = root_limits g.instance in
      let t = tree root valid.tree g.causes is (let e = valid.causes in omega arith) in (
        record { form = Two; instance = g.instance; budget = g.nodes; kept = g.kept; pool = g.columns; plan = g.plan; bound = g.bound; tree = t.0 },
        record {
          form = refl;
          instance = refl;
          budget = refl;
          kept = refl;
          pool = refl;
          plan = refl;
          bound = refl;
          tree = record {
            tree = valid.tree;
            nodes = valid.nodes;
            same = t.1;
            causes = t.2 ∙ take_all (splits valid.tree) g.causes (let e = valid.causes in omega arith);
          };
        },
      )
