-- the lines of a good sheet are read to its end
use Rattle.std.proofs.Common.{◌≡◌, ◌<◌, ◌≤◌, ◌+◌, ℕ, zero, suc, ℤ, List, [], ◌∷◌, ◌++◌, length, get_or, ap, sym, refl, ◌∙◌, subst, arith, append_assoc, append-nil, length-append, inl, inr, true}
use Rattle.std.specs.Prelude.{map, pos, nat_lt}
use Rattle.std.specs.List.{AllByRecursion, range_with_len}
use Rattle.std.specs.Fmt.{signed_decimal}
use Rattle.std.proofs.lemmas.Bool.Decides.{Decides-ltb}
use Rattle.std.proofs.lemmas.List.{get_or-map, length-map, nil_from_length}
use Rattle.std.proofs.lemmas.List.Elements.{All-weaker, filter_passes, recursion_from_All}
use Rattle.crew_terms.specs.Instance.{Instance, task_of}
use Rattle.crew_terms.specs.Leaf.{HoldsLocally, IsPrice, Proves, worth_of}
use Rattle.crew_terms.specs.Limits.{Limits, root_limits, tasks_in, teams_in}
use Rattle.crew_terms.specs.Minutes.{first_minute, minute_count, open_tasks}
use Rattle.crew_terms.specs.Rules.{IsInstance}
use Rattle.crew_terms.specs.Words.{Words}
use Rattle.crew_terms.specs.declared.TheConstants.{LAST_MINUTE, MOST_NODES}
use Rattle.dossier_terms.specs.declared.DossierForm.TheVariants.{Two}
use Rattle.dossier_terms.specs.Counted.{steps_pairs}
use Rattle.dossier_terms.specs.Dossier.{Potentials, no_potentials, AreRows, IsSigned, IsTable, Tables, phi_in}
use Rattle.dossier_terms.specs.Lines.{instance_lines, frozen_lines, rows_lines, table_lines, end_line}
use Rattle.dossier_terms.specs.Ranges.{AreNumbers, IsStepsLine}
use Rattle.dossier_terms.specs.Reading.{Sizes, Pools}
use Rattle.dossier_terms.specs.Runs.{runs_of, values_of}
use Rattle.dossier_terms.specs.Table.{Reaches}
use Rattle.dossier_laws.specs.Days.{IsDay, last_minute, minutes_end, root_day}
use Rattle.dossier_laws.specs.Law.{AreRunsOfRow}
use Rattle.squeeze_terms.specs.Bound.{minute_bound}
use Rattle.squeeze_terms.specs.MinutePrices.{MinutePrices, AreMinutePrices, minute_price, price_at, price_count, prices_of}
use Rattle.sheet_terms.specs.Lines.{squeeze_line, bound_line, minutes_line, minutes_lines, lines_of_sheet}
use Rattle.sheet_terms.specs.Rules.{Holds, HoldsOfAll, Spelled}
use Rattle.sheet_terms.specs.Reading.{SheetReading, SheetAnswer, First, Head, Bounds, Prices, Worths, Steps, Ends, More, Whole}
use Rattle.sheet_terms.specs.Sheet.{Sheet, IsGoodSheet, phi_of, worths_in}
use Rattle.sheet_terms.specs.Table.{SaysOfSheet, ReachesInSheet, EndsSheet, after_price, after_steps, after_team, steps_row}
use Rattle.sheet_reads.proofs.Heads.{head_reaches, others}
use Rattle.sheet_reads.proofs.SoFar.{row_line}

-- what the lines rest on
pub record Written : Type 0 where
  pub head : (i : Instance) (budget : ℕ) → IsInstance i → budget ≤ MOST_NODES → Reaches (Sizes Two) (instance_lines i budget ++ frozen_lines Two i.frozen) (Pools Two i budget)
  pub runs : (first : ℕ) (row : List ℤ) → AllByRecursion IsSigned row → 0 < length row → first + length row ≤ LAST_MINUTE + 1 → AreRunsOfRow first (first + length row) (runs_of first row) row

-- ---- lines behind lines

reaches-append : (s : SheetReading) (xs : List Words) (m : SheetReading) (ys : List Words) (t : SheetReading) → ReachesInSheet s xs m → ReachesInSheet m ys t → ReachesInSheet s (xs ++ ys) t
reaches-append s [] m ys t h k = subst (λ z. ReachesInSheet z ys t) (sym h) k
reaches-append s (x ∷ xs) m ys t h k = (h.0, h.1, reaches-append h.0 xs m ys t h.2 k)

ended-append : (s : SheetReading) (xs : List Words) (m : SheetReading) (ys : List Words) (sheet : Sheet) → ReachesInSheet s xs m → EndsSheet m ys sheet → EndsSheet s (xs ++ ys) sheet
ended-append s [] m ys sheet h k = subst (λ z. EndsSheet z ys sheet) (sym h) k
ended-append s (x ∷ xs) m ys sheet h k = inr (h.0, h.1, ended-append h.0 xs m ys sheet h.2 k)

-- ---- what is due after the last line of a part

abbrev with_tables : Sheet → List Potentials → Sheet
with_tables s ts = record s { tables = ts }

abbrev with_table : Sheet → Potentials → Sheet
with_table s t = with_tables s (s.tables ++ t ∷ [])

abbrev team_next : Sheet → ℕ → SheetReading
team_next s zero = Ends s
team_next s (suc left) = Worths s left

abbrev steps_next : Sheet → ℕ → Potentials → List ℕ → SheetReading
steps_next s left table [] = team_next (with_table s table) left
steps_next s left table (j ∷ js) = Steps s left table j js

abbrev price_next : Sheet → ℕ → SheetReading
price_next s zero = team_next s (length s.instance.teams)
price_next s (suc left) = Prices s left

abbrev IsProved : Sheet → Type 0
IsProved s = Proves (minute_bound s.instance s.prices (worths_in s.tables)) s.bound

-- the next team's table holds
abbrev TableHolds : Sheet → Potentials → Type 0
TableHolds s t = HoldsLocally (root_limits s.instance) (length s.tables) (minute_price s.instance s.prices) (phi_in (root_limits s.instance) (length s.tables) t) t.worth

team_says : (s : Sheet) (left : ℕ) → (left ≡ 0 → IsProved s) → after_team s left (More (team_next s left))
team_says s zero h = Holds (h refl) refl
team_says s (suc left) h = refl

steps_say : (s : Sheet) (left : ℕ) (t : Potentials) (keys : List ℕ) → (keys ≡ [] → TableHolds s t × (left ≡ 0 → IsProved (with_table s t))) → after_steps s left t keys (More (steps_next s left t keys))
steps_say s left t [] h =
    let v = (h refl).0 in
    HoldsOfAll (λ j l. v.tasks j) (Holds v.worth_rules (team_says (with_table s t) left (h refl).1))
steps_say s left t (j ∷ js) h = refl

price_says : (s : Sheet) (left : ℕ) → (left ≡ 0 → length s.instance.teams ≡ 0 → IsProved s) → after_price s left (More (price_next s left))
price_says s zero h = team_says s (length s.instance.teams) (h refl)
price_says s (suc left) h = refl

-- ---- rows

no_rows : (In : ℤ → Type 0) (wants : ℕ → ℕ) (keys : List ℕ) (rows : List (List ℤ)) → AreRows In wants keys rows → keys ≡ [] → rows ≡ []
no_rows In wants keys [] h e = refl
no_rows In wants [] (r ∷ rows) h e = absurd h
no_rows In wants (k ∷ keys) (r ∷ rows) h e = absurd (cc)

-- a task that the team may begin, at minutes of two days
abbrev IsOpen : Limits → ℕ → ℕ → Type 0
IsOpen n k j = (0 < minute_count n k j) × (first_minute n k j + minute_count n k j ≤ LAST_MINUTE + 1)

tasks_in_time : (n : Limits) (k : ℕ) → IsDay n → AllByRecursion (IsOpen n k) (open_tasks n k)
tasks_in_time n k day = recursion_from_All (IsOpen n k) (open_tasks n k)
    (All-weaker (λ j. nat_lt 0 (minute_count n k j) ≡ true) (IsOpen n k)
    (λ j e. let l = (Decides-ltb 0 (minute_count n k j)).0 e in (l, let a = minutes_end n k j l in let b = last_minute n j day in omega arith)) (open_tasks n k)
    (filter_passes (λ j. nat_lt 0 (minute_count n k j)) (range_with_len 0 (tasks_in n))))

module _ (law : Written) where
  -- the line of a row of potentials is read
  row_reads : (s : Sheet) (left : ℕ) (t : Potentials) (j : ℕ) (js : List ℕ) (row : List ℤ) (said : SheetAnswer) → IsOpen (root_limits s.instance) (length s.tables) j
      → length row ≡ minute_count (root_limits s.instance) (length s.tables) j → AllByRecursion IsSigned row
      → after_steps s left (record t { phi = t.phi ++ row ∷ [] }) js said → steps_row s left t j js (row_line (root_limits s.instance) (length s.tables) j row) said
  row_reads s left t j js row said may count each h =
      let n = root_limits s.instance in
      let k = length s.tables in
      let first = first_minute n k j in
      let past = first + minute_count n k j in
      let ends : first + length row ≡ past = omega arith in
      let runs = subst (λ p. AreRunsOfRow first p (runs_of first row) row) ends (law.runs first row each (omega (arith, may.0)) (omega (arith, may.1))) in
      Holds ((_, refl), steps_pairs j (runs_of first row) runs.line.some) (Spelled (runs_of first row) runs.line refl
      (Holds runs.runs_are (subst (λ vs. after_steps s left (record t { phi = t.phi ++ vs ∷ [] }) js said) runs.row_again h)))

  rows_reached : (s : Sheet) (left : ℕ) (t : Potentials) → TableHolds s t → (left ≡ 0 → IsProved (with_table s t))
      → (done : List (List ℤ)) (keys : List ℕ) (rows : List (List ℤ)) → t.phi ≡ done ++ rows
      → AllByRecursion (IsOpen (root_limits s.instance) (length s.tables)) keys → AreRows IsSigned (minute_count (root_limits s.instance) (length s.tables)) keys rows
      → ReachesInSheet (steps_next s left (record t { phi = done }) keys) (rows_lines (row_line (root_limits s.instance) (length s.tables)) keys rows) (team_next (with_table s t) left)
  rows_reached s left t v b done [] [] e may h = ap (λ phi. team_next (with_table s (record t { phi = phi })) left) (sym (e ∙ append-nil done))
  rows_reached s left t v b done [] (r ∷ rows) e may h = absurd h
  rows_reached s left t v b done (j ∷ js) [] e may h = absurd h
  rows_reached s left t v b done (j ∷ js) (r ∷ rows) e may h =
      let n = root_limits s.instance in
      let k = length s.tables in
      let whole : t.phi ≡ (done ++ r ∷ []) ++ rows = e ∙ sym (append_assoc done (r ∷ []) rows) in
      let last = λ (z : js ≡ []). whole ∙ ap (λ w. (done ++ r ∷ []) ++ w) (no_rows IsSigned (minute_count n k) js rows h.2 z) ∙ append-nil (done ++ r ∷ []) in
      let next : Potentials = record t { phi = done ++ r ∷ [] } in (
        steps_next s left next js,
        row_reads s left (record t { phi = done }) j js r (More (steps_next s left next js)) may.0 h.0 h.1
            (steps_say s left next js (λ z. (
              subst (λ phi. TableHolds s (record t { phi = phi })) (last z) v,
              λ y. subst (λ phi. IsProved (with_table s (record t { phi = phi }))) (last z) (b y),
            ))),
        rows_reached s left t v b (done ++ r ∷ []) js rows whole may.1 h.2,
      )

  -- the tables from the k-th team on hold
  abbrev TablesHold : Sheet → ℕ → List Potentials → Type 0
  TablesHold s k [] = Unit {0}
  TablesHold s k (t ∷ ts) = (IsTable (root_limits s.instance) k t × HoldsLocally (root_limits s.instance) k (minute_price s.instance s.prices) (phi_in (root_limits s.instance) k t) t.worth)
      × TablesHold s (suc k) ts

  tables_reached : (s : Sheet) → IsDay (root_limits s.instance) → IsProved s → (done ts : List Potentials) → s.tables ≡ done ++ ts → (k : ℕ) → length done ≡ k → TablesHold s k ts
      → ReachesInSheet (team_next (with_tables s done) (length ts)) (table_lines Two (root_limits s.instance) k ts) (Ends s)
  tables_reached s day b done [] e k q h = ap (λ ts. Ends (with_tables s ts)) (sym (e ∙ append-nil done))
  tables_reached s day b done (t ∷ ts) e k q h =
      let n = root_limits s.instance in
      let so_far = with_tables s done in
      let keys = open_tasks n (length done) in
      let whole : s.tables ≡ (done ++ t ∷ []) ++ ts = e ∙ sym (append_assoc done (t ∷ []) ts) in
      let valid : TableHolds so_far t = subst (λ k. HoldsLocally n k (minute_price s.instance s.prices) (phi_in n k t) t.worth) (sym q) h.0.1 in
      let bounds : length ts ≡ 0 → IsProved (with_table so_far t) = λ (z : length ts ≡ 0).
      subst (λ ts. IsProved (with_tables s ts)) (whole ∙ ap (λ w. (done ++ t ∷ []) ++ w) (nil_from_length ts z) ∙ append-nil (done ++ t ∷ [])) b in
      let table : IsTable n (length done) t = subst (λ k. IsTable n k t) (sym q) h.0.0 in
      let rest = tables_reached s day b (done ++ t ∷ []) ts whole (suc k) (omega (arith, length-append done (t ∷ []))) h.1 in
      let first : Potentials = record t { phi = [] } in
      let rows = rows_reached so_far (length ts) t valid bounds [] keys t.phi refl (tasks_in_time n (length done) day) table.rows in (
        steps_next so_far (length ts) first keys,
        Holds (_, refl, refl) (Spelled t.worth table.worth refl (steps_say so_far (length ts) first keys (λ z.
            let none : t.phi ≡ [] = no_rows IsSigned (minute_count n (length done)) keys t.phi table.rows z in (
              subst (λ phi. TableHolds so_far (record t { phi = phi })) none valid,
              λ y. subst (λ phi. IsProved (with_table so_far (record t { phi = phi }))) none (bounds y),
            )))),
        reaches-append (steps_next so_far (length ts) first keys) (rows_lines (row_line n k) (open_tasks n k) t.phi) (team_next (with_table so_far t) (length ts)) (table_lines Two n (suc k) ts) (Ends s)
            (subst (λ k. ReachesInSheet (steps_next so_far (length ts) first keys) (rows_lines (row_line n k) (open_tasks n k) t.phi) (team_next (with_table so_far t) (length ts))) q rows)
            rest,
      )

  -- ---- prices

  abbrev with_prices : Sheet → MinutePrices → Sheet
  with_prices s p = record { instance = s.instance; budget = s.budget; bound = s.bound; prices = p; tables = [] }

  -- the prices from task j on are as many as each has, in their range
  abbrev ArePricesFrom : Instance → ℕ → MinutePrices → Type 0
  ArePricesFrom i j [] = Unit {0}
  ArePricesFrom i j (vs ∷ p) = AreNumbers IsPrice (price_count (task_of i j)) vs × ArePricesFrom i (suc j) p

  prices_reached : (s : Sheet) → (length s.instance.teams ≡ 0 → IsProved (with_prices s s.prices)) → (done ps : MinutePrices) → s.prices ≡ done ++ ps → (j : ℕ) → length done ≡ j → ArePricesFrom s.instance j ps
      → ReachesInSheet (price_next (with_prices s done) (length ps)) (minutes_lines s.instance j ps) (team_next (with_prices s s.prices) (length s.instance.teams))
  prices_reached s b done [] e j q h = ap (λ p. team_next (with_prices s p) (length s.instance.teams)) (sym (e ∙ append-nil done))
  prices_reached s b done (vs ∷ ps) e j q h =
      let whole : s.prices ≡ (done ++ vs ∷ []) ++ ps = e ∙ sym (append_assoc done (vs ∷ []) ps) in
      let next = with_prices s (done ++ vs ∷ []) in
      let fits : AreNumbers IsPrice (price_count (task_of s.instance (length done))) vs = subst (λ m. AreNumbers IsPrice (price_count (task_of s.instance m)) vs) (sym q) h.0 in
      let says : SaysOfSheet (Prices (with_prices s done) (length ps)) (minutes_line s.instance (length done) vs) (More (price_next next (length ps))) =
      Holds (map signed_decimal vs, refl, length-map vs signed_decimal ∙ fits.count) (Spelled vs fits refl
      (price_says next (length ps) (λ z y. subst (λ p. IsProved (with_prices s p)) (whole ∙ ap (λ w. (done ++ vs ∷ []) ++ w) (nil_from_length ps z) ∙ append-nil (done ++ vs ∷ [])) (b y)))) in (
        price_next next (length ps),
        subst (λ m. SaysOfSheet (Prices (with_prices s done) (length ps)) (minutes_line s.instance m vs) (More (price_next next (length ps)))) q says,
        prices_reached s b (done ++ vs ∷ []) ps whole (suc j) (omega (arith, length-append done (vs ∷ []))) h.1,
      )

  -- ---- a good sheet

  all_prices : (vs : List ℤ) → ((x : ℕ) → IsPrice (get_or vs x (pos 0))) → AllByRecursion IsPrice vs
  all_prices [] h = tt
  all_prices (v ∷ vs) h = (h 0, all_prices vs (λ x. h (suc x)))

  abbrev IsRowOf : Instance → ℕ → List ℤ → Type 0
  IsRowOf i j vs = (length vs ≡ price_count (task_of i j)) × ((x : ℕ) → IsPrice (get_or vs x (pos 0)))

  prices_from : (i : Instance) (j : ℕ) (p : MinutePrices) → ((m : ℕ) → m < length p → IsRowOf i (j + m) (get_or p m [])) → ArePricesFrom i j p
  prices_from i j [] h = tt
  prices_from i j (vs ∷ p) h =
      let e : j + 0 ≡ j = omega arith in
      let first = subst (λ m. IsRowOf i m vs) e (h 0 (omega arith)) in (
        record { count = first.0; each = all_prices vs first.1 },
        prices_from i (suc j) p (λ m l. let f : j + suc m ≡ suc j + m = omega arith in subst (λ q. IsRowOf i q (get_or p m [])) f (h (suc m) (omega arith))),
      )

  tables_length : (n : Limits) (k : ℕ) (ts : List Potentials) → Tables n k ts → k + length ts ≡ teams_in n
  tables_length n k [] h = omega arith
  tables_length n k (t ∷ ts) h = let a = tables_length n (suc k) ts h.1 in omega arith

  abbrev HoldsAt : Sheet → ℕ → Potentials → Type 0
  HoldsAt s k t = HoldsLocally (root_limits s.instance) k (minute_price s.instance s.prices) (phi_in (root_limits s.instance) k t) t.worth

  good_tables : (s : Sheet) (k : ℕ) (ts : List Potentials) → Tables (root_limits s.instance) k ts → ((j : ℕ) → j < length ts → HoldsAt s (k + j) (get_or ts j no_potentials)) → TablesHold s k ts
  good_tables s k [] h v = tt
  good_tables s k (t ∷ ts) h v =
      let e : k + 0 ≡ k = omega arith in (
        (h.0, subst (λ q. HoldsAt s q t) e (v 0 (omega arith))),
        good_tables s (suc k) ts h.1 (λ j l. let f : k + suc j ≡ suc k + j = omega arith in subst (λ q. HoldsAt s q (get_or ts j no_potentials)) f (v (suc j) (omega arith))),
      )

  pub good_ended : (s : Sheet) → IsGoodSheet s → EndsSheet First (lines_of_sheet s) s
  good_ended s h = inr (
    Head (Sizes Two),
    Holds refl refl,
    ended-append (Head (Sizes Two)) (heads ++ frozen) (Bounds i s.budget) (bound_line s.bound ∷ ((minutes ++ tables) ++ end_line ∷ [])) s
        (head_reaches (Sizes Two) (heads ++ frozen) i s.budget (others i s.budget) (law.head i s.budget h.instance h.budget))
        (inr (
          price_next (with_prices s []) (length i.tasks),
          first,
          ended-append (price_next (with_prices s []) (length i.tasks)) (minutes ++ tables) (Ends s) (end_line ∷ []) s
              (reaches-append (price_next (with_prices s []) (length i.tasks)) minutes (team_next (with_prices s s.prices) (length i.teams)) tables (Ends s) prices teams)
              (inl (Holds refl refl, refl)),
        )),
  )
    where
      i : Instance
      i = s.instance

      n : Limits
      n = root_limits s.instance

      heads : List Words
      heads = instance_lines s.instance s.budget

      frozen : List Words
      frozen = frozen_lines Two s.instance.frozen

      minutes : List Words
      minutes = minutes_lines s.instance 0 s.prices

      tables : List Words
      tables = table_lines Two (root_limits s.instance) 0 s.tables

      size : length s.tables ≡ length s.instance.teams
      size = let a = tables_length (root_limits s.instance) 0 s.tables h.tables in omega arith

      no_teams : length s.instance.teams ≡ 0 → IsProved (with_prices s s.prices)
      no_teams z = subst (λ ts. IsProved (with_tables s ts)) (nil_from_length s.tables (omega (arith, size))) h.proved

      none : length s.instance.tasks ≡ 0 → length s.instance.teams ≡ 0 → IsProved (with_prices s [])
      none z y = subst (λ p. IsProved (with_prices s p)) (nil_from_length s.prices (let a = h.valid.prices.tasks in omega arith)) (no_teams y)

      first : SaysOfSheet (Bounds s.instance s.budget) (bound_line s.bound) (More (price_next (with_prices s []) (length s.instance.tasks)))
      first = Holds (_, refl, refl) (Spelled s.bound h.bound refl (price_says (with_prices s []) (length s.instance.tasks) none))

      prices : ReachesInSheet (price_next (with_prices s []) (length s.instance.tasks)) (minutes_lines s.instance 0 s.prices) (team_next (with_prices s s.prices) (length s.instance.teams))
      prices =
          let p = h.valid.prices in
          subst (λ m. ReachesInSheet (price_next (with_prices s []) m) (minutes_lines s.instance 0 s.prices) (team_next (with_prices s s.prices) (length s.instance.teams))) p.tasks
          (prices_reached s no_teams [] s.prices refl 0 refl (prices_from s.instance 0 s.prices (λ m l.
          let e : 0 + m ≡ m = omega arith in
          subst (λ q. IsRowOf s.instance q (get_or s.prices m [])) (sym e) (p.counts m (let a = p.tasks in omega arith), p.range m))))

      teams : ReachesInSheet (team_next (with_prices s s.prices) (length s.instance.teams)) (table_lines Two (root_limits s.instance) 0 s.tables) (Ends s)
      teams = subst (λ m. ReachesInSheet (team_next (with_prices s s.prices) m) (table_lines Two (root_limits s.instance) 0 s.tables) (Ends s)) size
          (tables_reached s (root_day s.instance h.instance) h.proved [] s.tables refl 0 refl (good_tables s 0 s.tables h.tables (λ j l.
          let e : 0 + j ≡ j = omega arith in
          let v = h.valid.valid j (let a = size in omega arith) in
          subst (λ q. HoldsAt s q (get_or s.tables j no_potentials)) (sym e)
          (subst (HoldsLocally (root_limits s.instance) j (minute_price s.instance s.prices) (phi_of s j)) (get_or-map (λ (t : Potentials). t.worth) s.tables j no_potentials (pos 0) l) v))))
