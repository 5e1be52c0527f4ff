-- the lines of a valid leaf are read
use Rattle.std.proofs.Common.{◌≡◌, ◌<◌, ◌≤◌, ◌+◌, ℕ, zero, suc, ℤ, List, [], ◌∷◌, ◌++◌, length, ap, sym, refl, ◌∙◌, subst, arith, append_assoc, append-nil, length-append, true}
use Rattle.std.specs.Prelude.{slice_index_or, pos}
use Rattle.std.specs.List.{AllByRecursion}
use Rattle.std.specs.Fmt.{signed_decimal}
use Rattle.std.proofs.lemmas.List.{get_or-map, length-map, nil_from_length}
use Rattle.crew_terms.specs.Limits.{Limits, teams_in}
use Rattle.crew_terms.specs.Plan.{unassigned_count}
use Rattle.crew_terms.specs.Leaf.{Prices as TaskPrices, HoldsLocally, IsValidLeaf, Proves, bound_of, IsPrice, earned}
use Rattle.dossier_terms.specs.Dossier.{Leaf, Potentials, no_potentials, AreRows, Tables, IsTable, IsWritten, IsSigned, prices_of, worths_of, phi_in, phi_of}
use Rattle.crew_terms.specs.Minutes.{priced, open_tasks, required_teams, first_minute, minute_count}
use Rattle.crew_terms.specs.declared.TheConstants.{LAST_MINUTE}
use Rattle.dossier_terms.specs.declared.DossierForm.{DossierForm}
use Rattle.dossier_terms.specs.declared.DossierForm.TheVariants.{One, Two}
use Rattle.dossier_terms.specs.Lines.{extra_line, rows_lines, table_lines, leaf_lines}
use Rattle.dossier_terms.specs.Runs.{AreRuns, runs_of}
use Rattle.dossier_terms.specs.Ranges.{IsStepsLine}
use Rattle.dossier_terms.specs.Counted.{steps_pairs}
use Rattle.dossier_terms.specs.Reading.{Reading, Answer, More, limits_of, leaf_done, Prices, Extras, Worths, Phis, LeafSite}
use Rattle.dossier_terms.specs.Rules.{Holds, HoldsOfAll, Spelled, On}
use Rattle.dossier_terms.specs.Table.{Reaches}
use Rattle.dossier_terms.specs.LeafTable.{after_table, after_phi, after_extra, potentials_row}
use Rattle.dossier_laws.proofs.SoFar.{TablesHold, row_line}
use Rattle.dossier_laws.proofs.Rules.{reaches-append}
use Rattle.dossier_laws.proofs.Days.{IsOpen, tasks_in_time}
use Rattle.dossier_laws.proofs.Runs.{they_are_runs, some_runs, runs_below, runs_in, values_again}
use Rattle.dossier_laws.specs.Days.{IsDay}

-- ---- what is due after the last line of a part

abbrev tables_next : LeafSite → Leaf → ℕ → Reading
tables_next a leaf zero = leaf_done a leaf
tables_next a leaf (suc left) = Worths a leaf left

abbrev with_table : Leaf → Potentials → Leaf
with_table leaf table = record leaf { tables = leaf.tables ++ table ∷ [] }

abbrev phis_next : LeafSite → Leaf → ℕ → Potentials → List ℕ → Reading
phis_next a leaf left table [] = tables_next a (with_table leaf table) left
phis_next a leaf left table (j ∷ js) = Phis a leaf left table j js

abbrev extras_next : LeafSite → Leaf → List ℕ → Reading
extras_next a leaf [] = tables_next a leaf (teams_in (limits_of a))
extras_next a leaf (j ∷ js) = Extras a leaf j js

abbrev Bounds : LeafSite → Leaf → Type 0
Bounds a leaf = Proves (bound_of (limits_of a) (prices_of (limits_of a) leaf) (worths_of leaf)) a.begun.bound
    × (a.is_closed ≡ true → Proves (bound_of (limits_of a) (prices_of (limits_of a) leaf) (worths_of leaf)) (unassigned_count a.begun.plan))

after_table_holds : (a : LeafSite) (leaf : Leaf) (left : ℕ) → (left ≡ 0 → Bounds a leaf) → after_table a leaf left (More (tables_next a leaf left))
after_table_holds a leaf zero h = Holds (h refl).0 (Holds (h refl).1 (On refl))
after_table_holds a leaf (suc left) h = On refl

-- the next team's table holds
abbrev TableHolds : LeafSite → Leaf → Potentials → Type 0
TableHolds a leaf table = HoldsLocally (limits_of a) (length leaf.tables) (earned (prices_of (limits_of a) leaf) (length leaf.tables)) (phi_in (limits_of a) (length leaf.tables) table) table.worth

after_phi_holds : (a : LeafSite) (leaf : Leaf) (left : ℕ) (table : Potentials) (keys : List ℕ)
    → (keys ≡ [] → TableHolds a leaf table × (left ≡ 0 → Bounds a (with_table leaf table)))
    → after_phi a leaf left table keys (More (phis_next a leaf left table keys))
after_phi_holds a leaf left table [] h =
    let v = (h refl).0 in
    HoldsOfAll (λ j l. v.tasks j) (Holds v.worth_rules (after_table_holds a (with_table leaf table) left (h refl).1))
after_phi_holds a leaf left table (j ∷ js) h = On refl

no_rows : (In : ℤ → Type 0) (wants : ℕ → ℕ) (keys : List ℕ) (rows : List (List ℤ)) → AreRows In wants keys rows → keys ≡ [] → rows ≡ []
no_rows In wants keys [] h e = refl
no_rows In wants [] (r ∷ rows) h e = absurd h
no_rows In wants (k ∷ keys) (r ∷ rows) h e = absurd (cc)

-- the line of a row of potentials is read
potentials_hold : (form : DossierForm) (n : Limits) (k j : ℕ) (vs : List ℤ) (rest : List ℤ → Answer → Type 0) (said : Answer) → IsOpen n k j → length vs ≡ minute_count n k j → AllByRecursion IsSigned vs
    → rest vs said → potentials_row form n k j (row_line form n k j vs) rest said
potentials_hold One n k j vs rest said may count each h = Holds (_, refl, length-map vs signed_decimal ∙ count) (Spelled vs (record { count = count; each = each }) refl h)
potentials_hold Two n k j vs rest said may count each h =
    let first = first_minute n k j in
    let past = first + minute_count n k j in
    let ends : past ≡ first + length vs = omega arith in
    let are : AreRuns first past (runs_of first vs) = they_are_runs past first vs ends (omega (arith, may.0)) in
    let some : 1 ≤ length (runs_of first vs) = some_runs first past (runs_of first vs) are in
    let line : IsStepsLine (runs_of first vs) = record { some = some; minutes = runs_below first past LAST_MINUTE (runs_of first vs) are (omega (arith, may.0)) (omega (arith, may.1)); numbers = runs_in IsSigned first vs each } in
    Holds ((_, refl), steps_pairs j (runs_of first vs) some) (Spelled (runs_of first vs) line refl
    (Holds are (subst (λ ws. rest ws said) (sym (values_again past first vs ends)) h)))

phis_reached : (a : LeafSite) (leaf : Leaf) (left : ℕ) (t : Potentials) → TableHolds a leaf t → (left ≡ 0 → Bounds a (with_table leaf t))
    → (done : List (List ℤ)) (keys : List ℕ) (rows : List (List ℤ)) → t.phi ≡ done ++ rows
    → AllByRecursion (IsOpen (limits_of a) (length leaf.tables)) keys → AreRows IsSigned (minute_count (limits_of a) (length leaf.tables)) keys rows
    → Reaches (phis_next a leaf left (record t { phi = done }) keys) (rows_lines (row_line a.begun.form (limits_of a) (length leaf.tables)) keys rows) (tables_next a (with_table leaf t) left)
phis_reached a leaf left t v b done [] [] e may h = ap (λ phi. tables_next a (with_table leaf (record t { phi = phi })) left) (sym (e ∙ append-nil done))
phis_reached a leaf left t v b done [] (r ∷ rows) e may h = absurd h
phis_reached a leaf left t v b done (j ∷ js) [] e may h = absurd h
phis_reached a leaf left t v b done (j ∷ js) (r ∷ rows) e may h =
    let n = limits_of a in
    let k = length leaf.tables in
    let whole : t.phi ≡ (done ++ r ∷ []) ++ rows = e ∙ sym (append_assoc done (r ∷ []) rows) in
    let last = λ (z : js ≡ []). whole ∙ ap (λ w. (done ++ r ∷ []) ++ w) (no_rows IsSigned (minute_count n k) js rows h.2 z) ∙ append-nil (done ++ r ∷ []) in
    let next : Potentials = record t { phi = done ++ r ∷ [] } in (
      phis_next a leaf left next js,
      potentials_hold a.begun.form n k j r (λ vs. after_phi a leaf left (record t { phi = done ++ vs ∷ [] }) js) (More (phis_next a leaf left next js)) may.0 h.0 h.1
          (after_phi_holds a leaf left next js (λ z. (
            subst (λ phi. TableHolds a leaf (record t { phi = phi })) (last z) v,
            λ y. subst (λ phi. Bounds a (with_table leaf (record t { phi = phi }))) (last z) (b y),
          ))),
      phis_reached a leaf left t v b (done ++ r ∷ []) js rows whole may.1 h.2,
    )

abbrev with_tables : Leaf → List Potentials → Leaf
with_tables leaf ts = record leaf { tables = ts }

tables_reached : (a : LeafSite) (leaf : Leaf) → IsDay (limits_of a) → Bounds a leaf
    → (done ts : List Potentials) → leaf.tables ≡ done ++ ts → (k : ℕ) → length done ≡ k → TablesHold (limits_of a) (prices_of (limits_of a) leaf) k ts
    → Reaches (tables_next a (with_tables leaf done) (length ts)) (table_lines a.begun.form (limits_of a) k ts) (leaf_done a leaf)
tables_reached a leaf day b done [] e k q h = ap (λ ts. leaf_done a (with_tables leaf ts)) (sym (e ∙ append-nil done))
tables_reached a leaf day b done (t ∷ ts) e k q h =
    let form = a.begun.form in
    let n = limits_of a in
    let so_far = with_tables leaf done in
    let p = prices_of n leaf in
    let keys = open_tasks n (length done) in
    let whole : leaf.tables ≡ (done ++ t ∷ []) ++ ts = e ∙ sym (append_assoc done (t ∷ []) ts) in
    let valid : TableHolds a so_far t = subst (λ k. HoldsLocally n k (earned p k) (phi_in n k t) t.worth) (sym q) h.0.1 in
    let bounds : length ts ≡ 0 → Bounds a (with_table so_far t) = λ (z : length ts ≡ 0).
    subst (λ ts. Bounds a (with_tables leaf ts)) (whole ∙ ap (λ w. (done ++ t ∷ []) ++ w) (nil_from_length ts z) ∙ append-nil (done ++ t ∷ [])) b in
    let table : IsTable n (length done) t = subst (λ k. IsTable n k t) (sym q) h.0.0 in
    let rest = tables_reached a leaf day b (done ++ t ∷ []) ts whole (suc k) (omega (arith, length-append done (t ∷ []))) h.1 in
    let first : Potentials = record t { phi = [] } in
    let rows = phis_reached a so_far (length ts) t valid bounds [] keys t.phi refl (tasks_in_time n (length done) day) table.rows in (
      phis_next a so_far (length ts) first keys,
      Holds (_, refl, refl) (Spelled t.worth table.worth refl (after_phi_holds a so_far (length ts) first keys (λ z.
          let none : t.phi ≡ [] = no_rows IsSigned (minute_count n (length done)) keys t.phi table.rows z in (
            subst (λ phi. TableHolds a so_far (record t { phi = phi })) none valid,
            λ y. subst (λ phi. Bounds a (with_table so_far (record t { phi = phi }))) none (bounds y),
          )))),
      reaches-append (phis_next a so_far (length ts) first keys) (rows_lines (row_line form n k) (open_tasks n k) t.phi) (tables_next a (with_table so_far t) (length ts)) (table_lines form n (suc k) ts) (leaf_done a leaf)
          (subst (λ k. Reaches (phis_next a so_far (length ts) first keys) (rows_lines (row_line form n k) (open_tasks n k) t.phi) (tables_next a (with_table so_far t) (length ts))) q rows)
          rest,
    )

-- ---- extras

abbrev with_extras : Leaf → List (List ℤ) → Leaf
with_extras leaf rows = record { prices = leaf.prices; extras = rows; tables = [] }

after_extra_holds : (a : LeafSite) (leaf : Leaf) (keys : List ℕ) → (keys ≡ [] → teams_in (limits_of a) ≡ 0 → Bounds a leaf)
    → after_extra a leaf keys (More (extras_next a leaf keys))
after_extra_holds a leaf [] h = after_table_holds a leaf (teams_in (limits_of a)) (h refl)
after_extra_holds a leaf (j ∷ js) h = On refl

extras_reached : (a : LeafSite) (leaf : Leaf) → (teams_in (limits_of a) ≡ 0 → Bounds a (with_extras leaf leaf.extras))
    → (done : List (List ℤ)) (keys : List ℕ) (rows : List (List ℤ)) → leaf.extras ≡ done ++ rows → AreRows IsPrice (λ j. length (required_teams (limits_of a) j)) keys rows
    → Reaches (extras_next a (with_extras leaf done) keys) (rows_lines extra_line keys rows) (tables_next a (with_extras leaf leaf.extras) (teams_in (limits_of a)))
extras_reached a leaf b done [] [] e h = ap (λ rows. tables_next a (with_extras leaf rows) (teams_in (limits_of a))) (sym (e ∙ append-nil done))
extras_reached a leaf b done [] (r ∷ rows) e h = absurd h
extras_reached a leaf b done (j ∷ js) [] e h = absurd h
extras_reached a leaf b done (j ∷ js) (r ∷ rows) e h =
    let whole : leaf.extras ≡ (done ++ r ∷ []) ++ rows = e ∙ sym (append_assoc done (r ∷ []) rows) in (
      extras_next a (with_extras leaf (done ++ r ∷ [])) js,
      Holds (_, refl, length-map r signed_decimal ∙ h.0) (Spelled r (record { count = h.0; each = h.1 }) refl
          (after_extra_holds a (with_extras leaf (done ++ r ∷ [])) js (λ z y.
          subst (λ rows. Bounds a (with_extras leaf rows)) (whole ∙ ap (λ w. (done ++ r ∷ []) ++ w) (no_rows IsPrice (λ j. length (required_teams (limits_of a) j)) js rows h.2 z) ∙ append-nil (done ++ r ∷ [])) (b y)))),
      extras_reached a leaf b (done ++ r ∷ []) js rows whole h.2,
    )

good_tables : (n : Limits) (p : TaskPrices) (k : ℕ) (ts : List Potentials) → Tables n k ts
    → ((j : ℕ) → j < length ts → HoldsLocally n (k + j) (earned p (k + j)) (phi_in n (k + j) (slice_index_or ts j no_potentials)) (slice_index_or ts j no_potentials).worth) → TablesHold n p k ts
good_tables n p k [] h v = tt
good_tables n p k (t ∷ ts) h v =
    let e : k + 0 ≡ k = omega arith in
    let f = v 0 (omega arith) in (
      (h.0, subst (λ q. HoldsLocally n q (earned p q) (phi_in n q t) t.worth) e f),
      good_tables n p (suc k) ts h.1 (λ j l.
          let e : k + suc j ≡ suc k + j = omega arith in
          subst (λ q. HoldsLocally n q (earned p q) (phi_in n q (slice_index_or ts j no_potentials)) (slice_index_or ts j no_potentials).worth) e (v (suc j) (omega arith))),
    )

tables_length : (n : Limits) (k : ℕ) (ts : List Potentials) → Tables n k ts → k + length ts ≡ teams_in n
tables_length n k [] h = omega arith
tables_length n k (t ∷ ts) h = let a = tables_length n (suc k) ts h.1 in omega arith

pub leaf_reached : (a : LeafSite) (leaf : Leaf) → IsDay (limits_of a) → IsWritten (limits_of a) leaf → IsValidLeaf (limits_of a) (prices_of (limits_of a) leaf) (worths_of leaf) (phi_of (limits_of a) leaf) → Bounds a leaf
    → Reaches (Prices a) (leaf_lines a.begun.form (limits_of a) leaf) (leaf_done a leaf)
leaf_reached a leaf day w v b =
    let form = a.begun.form in
    let n = limits_of a in
    let size : 0 + length leaf.tables ≡ teams_in n = tables_length n 0 leaf.tables w.tables in
    let few : teams_in n ≡ length leaf.tables = omega arith in
    let good : TablesHold n (prices_of n leaf) 0 leaf.tables = good_tables n (prices_of n leaf) 0 leaf.tables w.tables (λ j l.
    let e : 0 + j ≡ j = omega arith in
    subst (λ q. HoldsLocally n q (earned (prices_of n leaf) q) (phi_in n q (slice_index_or leaf.tables j no_potentials)) (slice_index_or leaf.tables j no_potentials).worth) (sym e)
    (subst (λ x. HoldsLocally n j (earned (prices_of n leaf) j) (phi_of n leaf j) x) (get_or-map (λ (t : Potentials). t.worth) leaf.tables j no_potentials (pos 0) l) (v.valid j (omega arith)))) in
    let none : teams_in n ≡ 0 → Bounds a (with_extras leaf leaf.extras) = λ (z : teams_in n ≡ 0). subst (λ ts. Bounds a (with_tables leaf ts)) (nil_from_length leaf.tables (omega arith)) b in (
      extras_next a (with_extras leaf []) (priced n),
      Holds (_, refl, length-map leaf.prices signed_decimal ∙ w.prices) (Spelled leaf.prices (record { count = w.prices; each = w.price_range }) refl
          (after_extra_holds a (with_extras leaf []) (priced n) (λ z y.
          subst (λ rows. Bounds a (with_extras leaf rows)) (no_rows IsPrice (λ j. length (required_teams n j)) (priced n) leaf.extras w.extras z) (none y)))),
      reaches-append (extras_next a (with_extras leaf []) (priced n)) (rows_lines extra_line (priced n) leaf.extras) (tables_next a (with_extras leaf leaf.extras) (teams_in n)) (table_lines form n 0 leaf.tables) (leaf_done a leaf)
          (extras_reached a leaf none [] (priced n) leaf.extras refl w.extras)
          (subst (λ m. Reaches (tables_next a (with_extras leaf leaf.extras) m) (table_lines form n 0 leaf.tables) (leaf_done a leaf)) (sym few)
          (tables_reached a leaf day b [] leaf.tables refl 0 refl good)),
    )
