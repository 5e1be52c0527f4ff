-- what is read of a leaf is its lines, and valid
use Rattle.std.proofs.Common.{◌≡◌, ◌<◌, ◌+◌, ◌-◌, ℕ, zero, suc, ℤ, List, [], ◌∷◌, ◌++◌, length, ap, sym, refl, ◌∙◌, subst, arith, append_assoc, append-nil, length-append, Bool, true, false}
use Rattle.std.specs.Prelude.{slice_index_or, if◌then◌else◌, pos}
use Rattle.std.specs.List.{AllByRecursion}
use Rattle.std.proofs.lemmas.List.{get_or-map}
use Rattle.crew_terms.specs.Limits.{Limits, tasks_in, teams_in}
use Rattle.crew_terms.specs.Plan.{unassigned_count}
use Rattle.crew_terms.specs.Leaf.{Prices as TaskPrices, HoldsLocally, IsValidLeaf, Proves, bound_of, IsPrice, HoldsPotential, HoldsWorth, earned}
use Rattle.dossier_terms.specs.declared.DossierForm.{DossierForm}
use Rattle.dossier_terms.specs.declared.DossierForm.TheVariants.{One, Two}
use Rattle.dossier_terms.specs.Dossier.{Leaf, Potentials, no_potentials, AreRows, Tables, IsTable, IsWritten, IsWorthNumber, IsSigned, prices_of, worths_of, phi_in, phi_of}
use Rattle.crew_terms.specs.Branches.{LeafNode, Open, Closed}
use Rattle.crew_terms.specs.Minutes.{priced, open_tasks, required_teams, first_minute, minute_count}
use Rattle.crew_terms.specs.Words.{Words}
use Rattle.dossier_terms.specs.Lines.{open_line, closed_line, price_line, extra_line, worth_line, steps_line, rows_lines, table_lines, node_lines}
use Rattle.dossier_terms.specs.Runs.{values_of}
use Rattle.dossier_terms.specs.Reading.{Reading, Answer, limits_of, Prices, Extras, Worths, Phis, LeafSite}
use Rattle.dossier_terms.specs.LeafTable.{after_table, after_phi, after_extra, price_row, extra_row, worth_row, potentials_row, table_row}
use Rattle.dossier_terms.specs.RunLengths.{values_length}
use Rattle.dossier_laws.proofs.SoFar.{IsLeafSite, NodeHolds, RowsSoFar, AreLeafPrices, TablesHold, IsLeafPart, IsReading, spelled, Follows, nodes_so_far, leaf_line, site_so_far, prices_so_far, tables_so_far, row_line, table_so_far}
use Rattle.dossier_laws.proofs.Rules.{must_then, each_then, spells_then, goes_then}
use Rattle.dossier_laws.proofs.NodeReads.{done_reads}
use Rattle.dossier_laws.proofs.LeafPrices.{on_required, in_range}
use Rattle.dossier_laws.proofs.Lists.{All-at}
use Rattle.dossier_laws.proofs.Days.{tasks_open}
use Rattle.dossier_laws.proofs.Runs.{runs_again, values_in}

-- ---- rows

pub rows_none : (line : ℕ → List ℤ → Words) (keys : List ℕ) → rows_lines line keys [] ≡ []
rows_none line [] = refl
rows_none line (k ∷ ks) = refl

pub rows_more : (In : ℤ → Type 0) (wants : ℕ → ℕ) (line : ℕ → List ℤ → Words) (read : List ℕ) (rows : List (List ℤ)) (j : ℕ) (left : List ℕ) (vs : List ℤ) → AreRows In wants read rows
    → rows_lines line (read ++ j ∷ left) (rows ++ vs ∷ []) ≡ rows_lines line (read ++ j ∷ left) rows ++ line j vs ∷ []
rows_more In wants line [] [] j left vs h = ap (λ w. line j vs ∷ w) (rows_none line left)
rows_more In wants line [] (r ∷ rows) j left vs h = absurd h
rows_more In wants line (k ∷ read) [] j left vs h = absurd h
rows_more In wants line (k ∷ read) (r ∷ rows) j left vs h = ap (λ w. line k r ∷ w) (rows_more In wants line read rows j left vs h.2)

pub rows_push : (In : ℤ → Type 0) (wants : ℕ → ℕ) (read : List ℕ) (rows : List (List ℤ)) (j : ℕ) (vs : List ℤ) → AreRows In wants read rows → length vs ≡ wants j → AllByRecursion In vs
    → AreRows In wants (read ++ j ∷ []) (rows ++ vs ∷ [])
rows_push In wants [] [] j vs h n each = (n, each, tt)
rows_push In wants [] (r ∷ rows) j vs h n each = absurd h
rows_push In wants (k ∷ read) [] j vs h n each = absurd h
rows_push In wants (k ∷ read) (r ∷ rows) j vs h n each = (h.0, h.1, rows_push In wants read rows j vs h.2 n each)

one_more : (In : ℤ → Type 0) (wants : ℕ → ℕ) (keys : List ℕ) (rows : List (List ℤ)) (j : ℕ) (js : List ℕ) (vs : List ℤ) → RowsSoFar In wants keys rows (j ∷ js) → length vs ≡ wants j → AllByRecursion In vs
    → RowsSoFar In wants keys (rows ++ vs ∷ []) js
one_more In wants keys rows j js vs h n each = (h.0 ++ j ∷ [], h.1 ∙ sym (append_assoc h.0 (j ∷ []) js), rows_push In wants h.0 rows j vs h.2 n each)

one_line : (In : ℤ → Type 0) (wants : ℕ → ℕ) (line : ℕ → List ℤ → Words) (keys : List ℕ) (rows : List (List ℤ)) (j : ℕ) (js : List ℕ) (vs : List ℤ) → RowsSoFar In wants keys rows (j ∷ js)
    → rows_lines line keys (rows ++ vs ∷ []) ≡ rows_lines line keys rows ++ line j vs ∷ []
one_line In wants line keys rows j js vs h = subst (λ ks. rows_lines line ks (rows ++ vs ∷ []) ≡ rows_lines line ks rows ++ line j vs ∷ []) (sym h.1) (rows_more In wants line h.0 rows j js vs h.2)

all_rows : (In : ℤ → Type 0) (wants : ℕ → ℕ) (keys : List ℕ) (rows : List (List ℤ)) → RowsSoFar In wants keys rows [] → AreRows In wants keys rows
all_rows In wants keys rows h = subst (λ ks. AreRows In wants ks rows) (sym (h.1 ∙ append-nil h.0)) h.2

-- the row of a key that is due is one of a task that the team may begin
key_open : (n : Limits) (k : ℕ) (rows : List (List ℤ)) (j : ℕ) (js : List ℕ) → RowsSoFar IsSigned (minute_count n k) (open_tasks n k) rows (j ∷ js) → 0 < minute_count n k j
key_open n k rows j js h = All-at (λ j. 0 < minute_count n k j) (open_tasks n k) h.0 j js h.1 (tasks_open n k)

-- ---- tables

table_more : (form : DossierForm) (n : Limits) (k : ℕ) (ts : List Potentials) (t : Potentials)
    → table_lines form n k (ts ++ t ∷ []) ≡ table_lines form n k ts ++ table_so_far form n (k + length ts) t
table_more form n k [] t = append-nil (table_so_far form n k t) ∙ ap (λ m. table_so_far form n m t) (let e : k ≡ k + 0 = omega arith in e)
table_more form n k (x ∷ ts) t =
    let rows = rows_lines (row_line form n k) (open_tasks n k) x.phi in
    ap (λ w. worth_line x.worth ∷ (rows ++ w))
    (table_more form n (suc k) ts t ∙ ap (λ m. table_lines form n (suc k) ts ++ table_so_far form n m t) (let e : suc k + length ts ≡ k + suc (length ts) = omega arith in e))
    ∙ ap (λ w. worth_line x.worth ∷ w) (sym (append_assoc rows (table_lines form n (suc k) ts) (table_so_far form n (k + suc (length ts)) t)))

-- the lines of one table are those so far of the next team
pub tables_more : (form : DossierForm) (n : Limits) (k : ℕ) (ts : List Potentials) (t : Potentials)
    → table_lines form n k (ts ++ t ∷ []) ≡ table_lines form n k ts ++ table_lines form n (k + length ts) (t ∷ [])
tables_more form n k ts t = table_more form n k ts t ∙ ap (λ w. table_lines form n k ts ++ w) (sym (append-nil (table_so_far form n (k + length ts) t)))

tables_push : (n : Limits) (p : TaskPrices) (k m : ℕ) (ts : List Potentials) (t : Potentials) → TablesHold n p k ts → k + length ts ≡ m → IsTable n m t → HoldsLocally n m (earned p m) (phi_in n m t) t.worth
    → TablesHold n p k (ts ++ t ∷ [])
tables_push n p k m [] t h e a b = subst (λ q. (IsTable n q t × HoldsLocally n q (earned p q) (phi_in n q t) t.worth) × Unit {0}) (let f : m ≡ k = omega arith in f) ((a, b), tt)
tables_push n p k m (x ∷ ts) t h e a b = (h.0, tables_push n p (suc k) m ts t h.1 (omega arith) a b)

tables_written : (n : Limits) (p : TaskPrices) (k : ℕ) (ts : List Potentials) → TablesHold n p k ts → k + length ts ≡ teams_in n → Tables n k ts
tables_written n p k [] h e = omega arith
tables_written n p k (t ∷ ts) h e = (h.0.0, tables_written n p (suc k) ts h.1 (omega arith))

tables_valid : (n : Limits) (p : TaskPrices) (k : ℕ) (ts : List Potentials) → TablesHold n p k ts → (j : ℕ) → j < length ts
    → HoldsLocally n (k + j) (earned p (k + j)) (phi_in n (k + j) (slice_index_or ts j no_potentials)) (slice_index_or ts j no_potentials).worth
tables_valid n p k [] h j l = absurd (omega arith)
tables_valid n p k (t ∷ ts) h zero l = subst (λ q. HoldsLocally n q (earned p q) (phi_in n q t) t.worth) (let e : k ≡ k + 0 = omega arith in e) h.0.1
tables_valid n p k (t ∷ ts) h (suc j) l = subst (λ q. HoldsLocally n q (earned p q) (phi_in n q (slice_index_or ts j no_potentials)) (slice_index_or ts j no_potentials).worth) (let e : suc k + j ≡ k + suc j = omega arith in e) (tables_valid n p (suc k) ts h.1 j (omega arith))

leaf_valid : (a : LeafSite) (leaf : Leaf) → IsLeafPart a leaf 0 → IsValidLeaf (limits_of a) (prices_of (limits_of a) leaf) (worths_of leaf) (phi_of (limits_of a) leaf)
leaf_valid a leaf h = record {
  range = in_range (limits_of a) leaf h.prices.each (all_rows IsPrice (λ j. length (required_teams (limits_of a) j)) (priced (limits_of a)) leaf.extras h.prices.rows);
  priced = on_required (limits_of a) leaf;
  valid = λ k l.
      let n = limits_of a in
      let m : k < length leaf.tables = omega (arith, h.count) in
      let v = tables_valid n (prices_of n leaf) 0 leaf.tables h.tables k m in
      let e : 0 + k ≡ k = omega arith in
      let w = subst (λ q. HoldsLocally n q (earned (prices_of n leaf) q) (phi_in n q (slice_index_or leaf.tables k no_potentials)) (slice_index_or leaf.tables k no_potentials).worth) e v in
      subst (λ x. HoldsLocally n k (earned (prices_of n leaf) k) (phi_of n leaf k) x) (sym (get_or-map (λ (t : Potentials). t.worth) leaf.tables k no_potentials (pos 0) m)) w;
}

leaf_written : (a : LeafSite) (leaf : Leaf) → IsLeafPart a leaf 0 → IsWritten (limits_of a) leaf
leaf_written a leaf h = record {
  prices = h.prices.count;
  price_range = h.prices.each;
  extras = all_rows IsPrice (λ j. length (required_teams (limits_of a) j)) (priced (limits_of a)) leaf.extras h.prices.rows;
  tables = tables_written (limits_of a) (prices_of (limits_of a) leaf) 0 leaf.tables h.tables (omega (arith, h.count));
}

-- the lines of a leaf, after those before it
leaf_text : (front : List Words) (kind price : Words) (rows tables : List Words) → front ++ (kind ∷ (price ∷ (rows ++ tables))) ≡ front ++ kind ∷ [] ++ price ∷ [] ++ rows ++ tables
leaf_text front kind price rows tables = simp append_assoc

-- ---- what stands after the last line of a part

done_leaf : (a : LeafSite) (leaf : Leaf) → IsLeafPart a leaf 0 → Proves (bound_of (limits_of a) (prices_of (limits_of a) leaf) (worths_of leaf)) a.begun.bound
    → (closed : Bool) → (closed ≡ true → Proves (bound_of (limits_of a) (prices_of (limits_of a) leaf) (worths_of leaf)) (unassigned_count a.begun.plan))
    → NodeHolds a.begun (limits_of a) (LeafNode (if closed then Closed leaf else Open leaf))
done_leaf a leaf h low true high = (leaf_written a leaf h, ((leaf_valid a leaf h, low), (leaf_valid a leaf h, high refl)), tt)
done_leaf a leaf h low false high = (leaf_written a leaf h, (leaf_valid a leaf h, low), tt)

done_text : (front : List Words) (form : DossierForm) (n : Limits) (leaf : Leaf) (closed : Bool)
    → front ++ node_lines form n (LeafNode (if closed then Closed leaf else Open leaf)) ≡ front ++ leaf_line closed ∷ [] ++ price_line leaf.prices ∷ [] ++ rows_lines extra_line (priced n) leaf.extras ++ table_lines form n 0 leaf.tables
done_text front form n leaf true = leaf_text front closed_line (price_line leaf.prices) (rows_lines extra_line (priced n) leaf.extras) (table_lines form n 0 leaf.tables)
done_text front form n leaf false = leaf_text front open_line (price_line leaf.prices) (rows_lines extra_line (priced n) leaf.extras) (table_lines form n 0 leaf.tables)

table_after : (s : Reading) (ws : Words) (said : Answer) (a : LeafSite) (leaf : Leaf) (left : ℕ) → IsLeafPart a leaf left
    → tables_so_far a leaf ≡ spelled s ++ ws ∷ [] → after_table a leaf left said → Follows s ws said
table_after s ws said a leaf zero r e h = must_then s ws said (λ low g.
    must_then s ws said (λ high g.
    let done = done_reads a.begun a.counts a.above (LeafNode (if a.is_closed then Closed leaf else Open leaf)) r.site.0 r.site.1 (done_leaf a leaf r low a.is_closed high) in
    goes_then s ws said (done.0 ∙ done_text (nodes_so_far a.begun a.counts a.above) a.begun.form (limits_of a) leaf a.is_closed ∙ e, done.1) g) g) h
table_after s ws said a leaf (suc left) r e h = goes_then s ws said (e, r) h

-- the lines with one more table
more_text : (a : LeafSite) (leaf : Leaf) (t : Potentials)
    → tables_so_far a (record leaf { tables = leaf.tables ++ t ∷ [] }) ≡ tables_so_far a leaf ++ table_so_far a.begun.form (limits_of a) (length leaf.tables) t
more_text a leaf t =
    let form = a.begun.form in
    let n = limits_of a in
    ap (λ ls. prices_so_far a leaf ++ ls) (table_more form n 0 leaf.tables t ∙ ap (λ m. table_lines form n 0 leaf.tables ++ table_so_far form n m t) (let q : 0 + length leaf.tables ≡ length leaf.tables = omega arith in q))
    ∙ sym (append_assoc (prices_so_far a leaf) (table_lines form n 0 leaf.tables) (table_so_far form n (length leaf.tables) t))

phi_after : (s : Reading) (ws : Words) (said : Answer) (a : LeafSite) (leaf : Leaf) (left : ℕ) (table : Potentials) (keys : List ℕ)
    → IsLeafPart a leaf (suc left) → IsWorthNumber table.worth
    → RowsSoFar IsSigned (minute_count (limits_of a) (length leaf.tables)) (open_tasks (limits_of a) (length leaf.tables)) table.phi keys
    → tables_so_far a leaf ++ table_so_far a.begun.form (limits_of a) (length leaf.tables) table ≡ spelled s ++ ws ∷ []
    → after_phi a leaf left table keys said → Follows s ws said
phi_after s ws said a leaf left table [] r w all e h =
    let n = limits_of a in
    let k = length leaf.tables in
    let p = prices_of n leaf in
    each_then s ws said (λ (each : (j : ℕ) → j < tasks_in n → HoldsPotential n k (earned p k) (phi_in n k table) j) g.
    must_then s ws said (λ (most : HoldsWorth n k (phi_in n k table) table.worth) g.
    let valid : HoldsLocally n k (earned p k) (phi_in n k table) table.worth = record {
      tasks = λ j. record { alone = λ m per. (each j per.known).alone m per; step = λ m i u per after step. (each j per.known).step m i u per after step };
      worth_rules = most;
    } in
    let is_table : IsTable n k table = record { worth = w; rows = all_rows IsSigned (minute_count n k) (open_tasks n k) table.phi all } in
    let more : Leaf = record leaf { tables = leaf.tables ++ table ∷ [] } in
    let part : IsLeafPart a more left = record {
      site = r.site;
      prices = record { count = r.prices.count; each = r.prices.each; rows = r.prices.rows };
      count = omega (arith, length-append leaf.tables (table ∷ []), r.count);
      tables = tables_push n p 0 k leaf.tables table r.tables (omega arith) is_table valid;
    } in
    table_after s ws said a more left part (more_text a leaf table ∙ e) g) g) h
phi_after s ws said a leaf left table (j ∷ js) r w all e h = goes_then s ws said (e, (r, w, all)) h

extra_after : (s : Reading) (ws : Words) (said : Answer) (a : LeafSite) (leaf : Leaf) (keys : List ℕ) → IsLeafSite a → AreLeafPrices (limits_of a) leaf keys → leaf.tables ≡ []
    → prices_so_far a leaf ≡ spelled s ++ ws ∷ [] → after_extra a leaf keys said → Follows s ws said
extra_after s ws said a leaf [] r p none e h =
    let n = limits_of a in
    table_after s ws said a leaf (teams_in n) (record {
      site = r;
      prices = p;
      count = omega (arith, ap length none);
      tables = subst (TablesHold n (prices_of n leaf) 0) (sym none) tt;
    }) (ap (λ ts. prices_so_far a leaf ++ table_lines a.begun.form n 0 ts) none ∙ append-nil (prices_so_far a leaf) ∙ e) h
extra_after s ws said a leaf (j ∷ js) r p none e h = goes_then s ws said (e, (r, p, none)) h

-- ---- the rows

pub price_follows : (a : LeafSite) (ws : Words) (said : Answer) → IsLeafSite a → price_row a ws said → Follows (Prices a) ws said
price_follows a ws said r h = must_then s ws said (λ shape g.
    spells_then s ws said (λ vs is e g.
    let leaf : Leaf = record { prices = vs; extras = []; tables = [] } in
    extra_after s ws said a leaf (priced (limits_of a)) r (record { count = is.count; each = is.each; rows = ([], refl, tt) }) refl
    (ap (λ w. site_so_far a ++ price_line vs ∷ [] ++ w) (rows_none extra_line (priced (limits_of a))) ∙ append-nil (site_so_far a ++ price_line vs ∷ []) ∙ ap (λ w. site_so_far a ++ w ∷ []) (sym e)) g) g) h
  where
    s : Reading
    s = Prices a

pub extra_follows : (a : LeafSite) (leaf : Leaf) (j : ℕ) (js : List ℕ) (ws : Words) (said : Answer) → IsReading (Extras a leaf j js)
    → extra_row a leaf j js ws said → Follows (Extras a leaf j js) ws said
extra_follows a leaf j js ws said r h = must_then s ws said (λ shape g.
    spells_then s ws said (λ vs is e g.
    let n = limits_of a in
    let wants = λ (j : ℕ). length (required_teams n j) in
    extra_after s ws said a (record leaf { extras = leaf.extras ++ vs ∷ [] }) js r.0 (record { count = r.1.count; each = r.1.each; rows = one_more IsPrice wants (priced n) leaf.extras j js vs r.1.rows is.count is.each }) r.2
    (ap (λ w. site_so_far a ++ price_line leaf.prices ∷ [] ++ w) (one_line IsPrice wants extra_line (priced n) leaf.extras j js vs r.1.rows)
    ∙ sym (append_assoc (site_so_far a ++ price_line leaf.prices ∷ []) (rows_lines extra_line (priced n) leaf.extras) (extra_line j vs ∷ [])) ∙ ap (λ w. prices_so_far a leaf ++ w ∷ []) (sym e)) g) g) h
  where
    s : Reading
    s = Extras a leaf j js

pub worth_follows : (a : LeafSite) (leaf : Leaf) (left : ℕ) (ws : Words) (said : Answer) → IsLeafPart a leaf (suc left)
    → worth_row a leaf left ws said → Follows (Worths a leaf left) ws said
worth_follows a leaf left ws said r h = must_then s ws said (λ shape g.
    spells_then s ws said (λ v is e g.
    let n = limits_of a in
    let k = length leaf.tables in
    phi_after s ws said a leaf left (record { worth = v; phi = [] }) (open_tasks n k) r is ([], refl, tt)
    (ap (λ w. tables_so_far a leaf ++ worth_line v ∷ w) (rows_none (row_line a.begun.form n k) (open_tasks n k)) ∙ ap (λ w. tables_so_far a leaf ++ w ∷ []) (sym e)) g) g) h
  where
    s : Reading
    s = Worths a leaf left

-- a line of potentials gives as many numbers as the team may begin the task at minutes, of which it is the line
potentials_then : (s : Reading) (ws : Words) (said : Answer) (form : DossierForm) (n : Limits) (k j : ℕ) (rest : List ℤ → Answer → Type 0) → 0 < minute_count n k j
    → ((vs : List ℤ) → length vs ≡ minute_count n k j → AllByRecursion IsSigned vs → ws ≡ row_line form n k j vs → rest vs said → Follows s ws said)
    → potentials_row form n k j ws rest said → Follows s ws said
potentials_then s ws said One n k j rest some f h = must_then s ws said (λ shape g. spells_then s ws said (λ vs is e g. f vs is.count is.each e g) g) h
potentials_then s ws said Two n k j rest some f h = must_then s ws said (λ shape g.
    spells_then s ws said (λ runs is e g.
    must_then s ws said (λ are g.
    let first = first_minute n k j in
    let past = first + minute_count n k j in
    f (values_of past runs) (values_length first past runs are ∙ (let q : past - first ≡ minute_count n k j = omega arith in q)) (values_in IsSigned past runs is.numbers)
    (e ∙ ap (steps_line j) (sym (runs_again first past runs are (omega arith)))) g) g) g) h

pub table_follows : (a : LeafSite) (leaf : Leaf) (left : ℕ) (table : Potentials) (j : ℕ) (js : List ℕ) (ws : Words) (said : Answer)
    → IsReading (Phis a leaf left table j js) → table_row a leaf left table j js ws said → Follows (Phis a leaf left table j js) ws said
table_follows a leaf left table j js ws said r h =
    potentials_then s ws said form n k j (λ vs. after_phi a leaf left (record table { phi = table.phi ++ vs ∷ [] }) js) (key_open n k table.phi j js r.2) (λ vs count each e g.
    phi_after s ws said a leaf left (record table { phi = table.phi ++ vs ∷ [] }) js r.0 r.1 (one_more IsSigned wants keys table.phi j js vs r.2 count each)
    (ap (λ w. tables_so_far a leaf ++ worth_line table.worth ∷ w) (one_line IsSigned wants (row_line form n k) keys table.phi j js vs r.2)
    ∙ sym (append_assoc (tables_so_far a leaf) (table_so_far form n k table) (row_line form n k j vs ∷ [])) ∙ ap (λ w. spelled s ++ w ∷ []) (sym e)) g) h
  where
    s : Reading
    s = Phis a leaf left table j js

    form : DossierForm
    form = a.begun.form

    n : Limits
    n = limits_of a

    k : ℕ
    k = length leaf.tables

    keys : List ℕ
    keys = open_tasks n k

    wants : ℕ → ℕ
    wants = minute_count n k
