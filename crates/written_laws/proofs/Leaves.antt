-- a leaf as it is written has the numbers that its node wants, and stands for its prices, worths and potentials
use Rattle.std.proofs.Common.{◌≡◌, ◌≢◌, ◌<◌, ◌+◌, ◌-◌, ◌↔◌, ◌∷◌, [], ℕ, zero, suc, List, length, map, get_or, ap, sym, refl, subst, ◌∙◌, arith}
use Rattle.std.specs.Prelude.{ℤ, pos, Contains, FitsSigned, ◌≤ℤ◌, slice_index}
use Rattle.std.specs.Int.{w64}
use Rattle.std.specs.List.{AllByRecursion, range_with_len}
use Rattle.std.proofs.lemmas.Int.{ints}
use Rattle.std.proofs.lemmas.List.{get_or_default, get_or-map, length-map}
use Rattle.std.proofs.lemmas.List.Elements.{All-get_or, All-from_get_or, recursion_from_All}
use Rattle.std.proofs.lemmas.List.FromFn.{fill_by_all, get_or-map-range_with_len}
use Rattle.crew_terms.specs.Leaf.{Prices, IsOnRequired, IsPrice, IsWorth, rho_of, worth_of, earned}
use Rattle.crew_terms.specs.Limits.{Limits, IsPermittedVisit, pair_of, tasks_in, teams_in}
use Rattle.crew_terms.specs.Minutes.{IsListOf, IsMinuteOf, first_minute, minute_count, open_tasks, priced, required_teams}
use Rattle.crew_terms.specs.declared.Pair.{Pair}
use Rattle.crew_terms.specs.declared.Pair.TheVariants.{Free, Forbidden, Required}
use Rattle.dossier_terms.specs.Dossier.{AreRows, IsSigned, IsWritten, Leaf, Potentials, Tables, no_potentials, extra_of, phi_of, prices_of, worths_of}
use Rattle.label_pricing.specs.Best.{IsBest}
use Rattle.label_pricing.specs.Worths.{AreWorths}
use Rattle.cert_write.specs.Given.{IsPriced}
use Rattle.cert_write.specs.Dossiers.{AreBestRows, ArePricedTables, IsBestRow, IsPricedLeaf, IsPricedTable}

-- ---- the numbers that a node wants

rows_mapped : (In : ℤ → Type 0) (wants : ℕ → ℕ) (f : ℕ → List ℤ) (keys : List ℕ) → ((j : ℕ) → length (f j) ≡ wants j) → ((j : ℕ) → AllByRecursion In (f j)) → AreRows In wants keys (map f keys)
rows_mapped In wants f [] count each = tt
rows_mapped In wants f (j ∷ js) count each = (count j, each j, rows_mapped In wants f js count each)

all_mapped : (In : ℤ → Type 0) (f : ℕ → ℤ) (xs : List ℕ) → ((x : ℕ) → In (f x)) → AllByRecursion In (map f xs)
all_mapped In f [] each = tt
all_mapped In f (x ∷ xs) each = (each x, all_mapped In f xs each)

module _ (n : Limits) (p : Prices)
    (worths_fit : (k : ℕ) (v : ℤ) → k < teams_in n → IsWorth n k (earned p k) v → FitsSigned w64 v)
    (worths_least : (k : ℕ) (v : ℤ) → IsWorth n k (earned p k) v → pos 0 ≤ℤ v)
    (bests_fit : (k j t : ℕ) (v : ℤ) → k < teams_in n → IsPermittedVisit n k j t → IsBest n k (earned p k) j t v → FitsSigned w64 v) where
  best_rows : (k : ℕ) → k < teams_in n → (js : List ℕ) (rows : List (List ℤ)) → AreBestRows n k p js rows → AreRows IsSigned (minute_count n k) js rows
  best_rows k known [] [] are = tt
  best_rows k known [] (row ∷ rows) are = absurd are
  best_rows k known (j ∷ js) [] are = absurd are
  best_rows k known (j ∷ js) (row ∷ rows) are = (
    are.0.count,
    recursion_from_All IsSigned row (All-from_get_or IsSigned row (pos 0) (λ m b. let v = are.0.each m b in bests_fit k j (first_minute n k j + m) (get_or row m (pos 0)) known v.attained.1.0 v)),
    best_rows k known js rows are.1,
  )

  tables_fit : (k : ℕ) (ts : List Potentials) → ArePricedTables n p k ts → k + length ts ≡ teams_in n → Tables n k ts
  tables_fit k [] are count = are
  tables_fit k (t ∷ ts) are count =
      let known : k < teams_in n = omega (arith, count) in
      let fits = worths_fit k t.worth known are.0.worth in
      let least = worths_least k t.worth are.0.worth in (
        record { worth = record { least = least; most = omega (arith, ints) }; rows = best_rows k known (open_tasks n k) t.phi are.0.rows },
        tables_fit (suc k) ts are.1 (omega (arith, count)),
      )

  tables_count : (k : ℕ) (ts : List Potentials) → ArePricedTables n p k ts → k + length ts ≡ teams_in n
  tables_count k [] are = (let e : k + 0 ≡ k = omega arith in e) ∙ are
  tables_count k (t ∷ ts) are = (let e : k + suc (length ts) ≡ suc k + length ts = omega arith in e) ∙ tables_count (suc k) ts are.1

  table_at : (k : ℕ) (ts : List Potentials) (i : ℕ) → ArePricedTables n p k ts → i < length ts → IsPricedTable n (k + i) p (get_or ts i no_potentials)
  table_at k [] i are below = absurd (omega arith)
  table_at k (t ∷ ts) zero are below = subst (λ m. IsPricedTable n m p t) (let e : k ≡ k + 0 = omega arith in e) are.0
  table_at k (t ∷ ts) (suc i) are below =
      subst (λ m. IsPricedTable n m p (get_or ts i no_potentials)) (let e : suc k + i ≡ k + suc i = omega arith in e) (table_at (suc k) ts i are.1 (omega arith))

  module _ (leaf : Leaf) (is : IsPriced n p) (same : IsPricedLeaf n p leaf) where
    pub written : IsWritten n leaf
    written = record {
      prices = ap length same.prices ∙ is.counts.tasks;
      price_range = subst (AllByRecursion IsPrice) (sym same.prices) (recursion_from_All IsPrice p.pi (All-from_get_or IsPrice p.pi (pos 0) (λ j b. is.prices.range.tasks j)));
      extras = subst (AreRows IsPrice (λ j. length (required_teams n j)) (priced n)) (sym same.extras)
          (rows_mapped IsPrice (λ j. length (required_teams n j)) (λ j. map (λ k. rho_of p k j) (required_teams n j)) (priced n) (λ j. length-map (required_teams n j) (λ k. rho_of p k j))
          (λ j. all_mapped IsPrice (λ k. rho_of p k j) (required_teams n j) (λ k. is.prices.range.pairs k j)));
      tables = tables_fit 0 leaf.tables same.tables (tables_count 0 leaf.tables same.tables);
    }

    table_of : (k : ℕ) → k < teams_in n → IsPricedTable n k p (get_or leaf.tables k no_potentials)
    table_of k known =
        let c = tables_count 0 leaf.tables same.tables in
        subst (λ m. IsPricedTable n m p (get_or leaf.tables k no_potentials)) (let e : 0 + k ≡ k = omega arith in e) (table_at 0 leaf.tables k same.tables (omega (arith, c)))

    -- ---- worths

    worth_at : (k : ℕ) → k < teams_in n → worth_of (worths_of leaf) k ≡ (get_or leaf.tables k no_potentials).worth
    worth_at k known =
        let c = tables_count 0 leaf.tables same.tables in
        get_or-map (λ (t : Potentials). t.worth) leaf.tables k no_potentials (pos 0) (omega (arith, c))

    pub are_worths : AreWorths n p (worths_of leaf)
    are_worths = record {
      count = (let c = tables_count 0 leaf.tables same.tables in let l = length-map leaf.tables (λ (t : Potentials). t.worth) in omega (arith, c, l));
      each = λ k known. subst (IsWorth n k (earned p k)) (sym (worth_at k known)) (table_of k known).worth;
    }

    -- ---- potentials

    row_at : (k : ℕ) (js : List ℕ) (rows : List (List ℤ)) (a : ℕ) → AreBestRows n k p js rows → a < length js → IsBestRow n k p (slice_index js a) (get_or rows a [])
    row_at k [] rows a are below = absurd (omega arith)
    row_at k (j ∷ js) [] a are below = absurd are
    row_at k (j ∷ js) (row ∷ rows) zero are below = are.0
    row_at k (j ∷ js) (row ∷ rows) (suc a) are below = row_at k js rows a are.1 (omega arith)

    module _ (minutes : (k j t : ℕ) → IsPermittedVisit n k j t ↔ IsMinuteOf n k j t)
        (open_ones : (k : ℕ) → IsListOf (λ j. (t : ℕ) × IsPermittedVisit n k j t) (open_tasks n k))
        (placed : (k a m : ℕ) → k < teams_in n → a < length (open_tasks n k)
        → phi_of n leaf k (slice_index (open_tasks n k) a) (first_minute n k (slice_index (open_tasks n k) a) + m) ≡ get_or (get_or (get_or leaf.tables k no_potentials).phi a []) m (pos 0)) where
      pub best_at : (k j t : ℕ) → k < teams_in n → IsPermittedVisit n k j t → IsBest n k (earned p k) j t (phi_of n leaf k j t)
      best_at k j t known here = found ((open_ones k).each j).1 (t, here)
        where
          minute : IsMinuteOf n k j t
          minute = (minutes k j t).0 here

          at_place : (a : ℕ) → a < length (open_tasks n k) → slice_index (open_tasks n k) a ≡ j → IsBest n k (earned p k) j t (phi_of n leaf k j t)
          at_place a below is_j =
              let row = row_at k (open_tasks n k) (get_or leaf.tables k no_potentials).phi a (table_of k known).rows below in
              let m = t - first_minute n k j in
              let from = minute.from in
              let until = minute.until in
              let row_j = subst (λ i. IsBestRow n k p i (get_or (get_or leaf.tables k no_potentials).phi a [])) is_j row in
              let count = row_j.count in
              let t_is : first_minute n k j + m ≡ t = omega (arith, from) in
              let value = subst (λ i. phi_of n leaf k i (first_minute n k i + m) ≡ get_or (get_or (get_or leaf.tables k no_potentials).phi a []) m (pos 0)) is_j (placed k a m known below) in
              subst (λ u. IsBest n k (earned p k) j u (phi_of n leaf k j u)) t_is
              (subst (IsBest n k (earned p k) j (first_minute n k j + m)) (sym value) (row_j.each m (omega (arith, count, from, until))))

          found : ((t : ℕ) × IsPermittedVisit n k j t → Contains (open_tasks n k) j) → (t : ℕ) × IsPermittedVisit n k j t → IsBest n k (earned p k) j t (phi_of n leaf k j t)
          found has may = let x = has may in at_place x.0 x.1 (index_is x.0 x.1 x.2)
            where
              index_is : (a : ℕ) → a < length (open_tasks n k) → get_or (open_tasks n k) a j ≡ j → slice_index (open_tasks n k) a ≡ j
              index_is a below e = get_or_default (open_tasks n k) a 0 j below ∙ e

    -- ---- prices

    module _ (required : (j : ℕ) → IsListOf (λ k. (k < teams_in n) × (pair_of n k j ≡ Required)) (required_teams n j))
        (priced_ones : IsListOf (λ j. (j < tasks_in n) × ((k : ℕ) × (k < teams_in n) × (pair_of n k j ≡ Required))) (priced n))
        (on_required : IsOnRequired n (prices_of n leaf))
        (placed : (a b : ℕ) → a < length (priced n) → b < length (required_teams n (slice_index (priced n) a))
        → rho_of (prices_of n leaf) (slice_index (required_teams n (slice_index (priced n) a)) b) (slice_index (priced n) a) ≡ get_or (get_or leaf.extras a []) b (pos 0)) where
      extra_is : (a b : ℕ) → a < length (priced n) → b < length (required_teams n (slice_index (priced n) a))
          → get_or (get_or leaf.extras a []) b (pos 0) ≡ rho_of p (slice_index (required_teams n (slice_index (priced n) a)) b) (slice_index (priced n) a)
      extra_is a b below within =
          let f : ℕ → List ℤ = λ j. map (λ k. rho_of p k j) (required_teams n j) in
          ap (λ rows. get_or (get_or rows a []) b (pos 0)) same.extras
          ∙ ap (λ row. get_or row b (pos 0)) (get_or-map f (priced n) a 0 [] below)
          ∙ get_or-map (λ k. rho_of p k (slice_index (priced n) a)) (required_teams n (slice_index (priced n) a)) b 0 (pos 0) within

      required_same : (k j : ℕ) → k < teams_in n → j < tasks_in n → pair_of n k j ≡ Required → rho_of (prices_of n leaf) k j ≡ rho_of p k j
      required_same k j team task e = at_place x.0 x.1 (get_or_default (priced n) x.0 0 j x.1 ∙ x.2)
        where
          x : Contains (priced n) j
          x = (priced_ones.each j).1 (task, (k, team, e))

          y : Contains (required_teams n j) k
          y = ((required j).each k).1 (team, e)

          at_place : (a : ℕ) → a < length (priced n) → slice_index (priced n) a ≡ j → rho_of (prices_of n leaf) k j ≡ rho_of p k j
          at_place a below a_is =
              let k_is : slice_index (required_teams n j) y.0 ≡ k = get_or_default (required_teams n j) y.0 0 k y.1 ∙ y.2 in
              let within = subst (λ i. y.0 < length (required_teams n i)) (sym a_is) y.1 in
              let both = placed a y.0 below within ∙ extra_is a y.0 below within in
              let at_j = subst (λ i. rho_of (prices_of n leaf) (slice_index (required_teams n i) y.0) i ≡ rho_of p (slice_index (required_teams n i) y.0) i) a_is both in
              subst (λ i. rho_of (prices_of n leaf) i j ≡ rho_of p i j) k_is at_j

      other_same : (k j : ℕ) → pair_of n k j ≢ Required → rho_of (prices_of n leaf) k j ≡ rho_of p k j
      other_same k j ne = on_required k j ne ∙ sym (is.required k j ne)

      rho_same : (k j : ℕ) → k < teams_in n → j < tasks_in n → (x : Pair) → pair_of n k j ≡ x → rho_of (prices_of n leaf) k j ≡ rho_of p k j
      rho_same k j team task Free e = other_same k j (λ r. let f : Free ≡ Required = sym e ∙ r in cc)
      rho_same k j team task Forbidden e = other_same k j (λ r. let f : Forbidden ≡ Required = sym e ∙ r in cc)
      rho_same k j team task Required e = required_same k j team task e

      extra_rho : (k j : ℕ) → k < teams_in n → j < tasks_in n → rho_of p k j ≡ extra_of n leaf k j
      extra_rho k j team task = sym (rho_same k j team task (pair_of n k j) refl) ∙ rho_written k j team task
        where
          rho_written : (k j : ℕ) → k < teams_in n → j < tasks_in n → rho_of (prices_of n leaf) k j ≡ extra_of n leaf k j
          rho_written k j team task =
              ap (λ row. get_or row j (pos 0)) (get_or-map-range_with_len (λ h. map (extra_of n leaf h) (range_with_len 0 (tasks_in n))) 0 (teams_in n) k k [] team (omega arith))
              ∙ get_or-map-range_with_len (extra_of n leaf k) 0 (tasks_in n) j j (pos 0) task (omega arith)

      pub prices_same : prices_of n leaf ≡ p
      prices_same =
          ap (λ vs. record { pi = vs; rho = (prices_of n leaf).rho }) same.prices
          ∙ ap (λ rows. record { pi = p.pi; rho = rows })
          (sym (fill_by_all (λ k. map (extra_of n leaf k) (range_with_len 0 (tasks_in n))) p.rho (teams_in n) [] is.counts.teams
          (λ k team. fill_by_all (extra_of n leaf k) (get_or p.rho k []) (tasks_in n) (pos 0)
          (All-get_or (λ row. length row ≡ length p.pi) p.rho k [] (let t = is.counts.teams in omega (arith, t, team)) is.prices.columns ∙ is.counts.tasks)
          (λ j task. extra_rho k j team task))))
