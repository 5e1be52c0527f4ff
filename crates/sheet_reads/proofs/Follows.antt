-- what is read of a sheet is its lines
use Rattle.std.proofs.Common.{◌≡◌, ◌<◌, ◌≤◌, ◌+◌, ◌-◌, ℕ, zero, suc, ℤ, List, [], ◌∷◌, ◌++◌, length, get_or, ap, sym, refl, ◌∙◌, subst, arith, append_assoc, append-nil, length-append, true, inl, inr}
use Rattle.std.specs.Prelude.{filter, nat_lt, All}
use Rattle.std.specs.List.{range_with_len}
use Rattle.std.proofs.Math.Seq.{get_or-append_seam}
use Rattle.std.proofs.lemmas.Bool.Decides.{Decides-ltb}
use Rattle.std.proofs.lemmas.List.Elements.{filter_passes}
use Rattle.crew_terms.specs.Instance.{Instance, task_of}
use Rattle.crew_terms.specs.Limits.{Limits, root_limits, tasks_in}
use Rattle.crew_terms.specs.Minutes.{first_minute, minute_count, open_tasks}
use Rattle.crew_terms.specs.Words.{Words}
use Rattle.dossier_terms.specs.declared.DossierForm.TheVariants.{Two}
use Rattle.dossier_terms.specs.declared.Reason.{Reason}
use Rattle.dossier_terms.specs.Dossier.{Potentials, Tables, IsTable, AreRows, IsSigned}
use Rattle.dossier_terms.specs.Lines.{instance_lines, frozen_lines, worth_line, steps_line, rows_lines, table_lines, end_line}
use Rattle.dossier_terms.specs.Reading.{Reading, Answer, Form, Sizes, Pools}
use Rattle.dossier_terms.specs.Reading as dossiers
use Rattle.dossier_terms.specs.Runs.{values_of}
use Rattle.dossier_terms.specs.Table.{Says, Reaches}
use Rattle.dossier_laws.specs.Law.{IsHeadOf}
use Rattle.squeeze_terms.specs.MinutePrices.{MinutePrices}
use Rattle.sheet_terms.specs.Lines.{squeeze_line, bound_line, minutes_line, minutes_lines, lines_of_sheet}
use Rattle.sheet_terms.specs.Rules.{Must, Holds, Fails, MustEach, HoldsOfAll, FailsAt, MustSpell, Spelled, Unspelled}
use Rattle.sheet_terms.specs.Reading.{SheetReading, SheetAnswer, First, Head, Bounds, Prices, Worths, Steps, Ends, More, Whole, No, head_answer, head_due}
use Rattle.sheet_terms.specs.Sheet.{Sheet}
use Rattle.sheet_terms.specs.Table.{SaysOfSheet, ReachesInSheet, EndsSheet, after_price, after_steps, after_team}
use Rattle.sheet_reads.proofs.Laws.{Read}
use Rattle.sheet_reads.proofs.SoFar.{SoFar, Left, IsBegun, ArePricesRead, AreTeamsRead, AreTablesRead, AreRowsRead, IsTeamRead, IsWritten, prices_so_far, tables_so_far, table_so_far, row_line}

-- ---- rules

left : (lines : List Words) (answer said : SheetAnswer) → said ≡ answer → Left lines answer → Left lines said
left lines answer said e h = subst (Left lines) (sym e) h

must_then : {P : Type 0} {r : Reason} {rest : SheetAnswer → Type 0} (lines : List Words) (said : SheetAnswer) → (P → rest said → Left lines said) → Must P (No r) rest said → Left lines said
must_then lines said k (Holds f o) = k f o
must_then lines said k (Fails b t) = left lines (No _) said t tt

each_then : {n : ℕ} {P : ℕ → Type 0} {reason : ℕ → Reason} {rest : SheetAnswer → Type 0} (lines : List Words) (said : SheetAnswer) → (rest said → Left lines said)
    → MustEach n P (λ j. No (reason j)) rest said → Left lines said
each_then lines said k (HoldsOfAll f o) = k o
each_then {reason = reason} lines said k (FailsAt j l first b t) = left lines (No (reason j)) said t tt

spells_then : {V : Type 0} {spell : V → Words} {In : V → Type 0} {ws : Words} {r : Reason} {rest : V → SheetAnswer → Type 0} (lines : List Words) (said : SheetAnswer)
    → ((v : V) → In v → ws ≡ spell v → rest v said → Left lines said) → MustSpell spell In ws (No r) rest said → Left lines said
spells_then lines said k (Spelled v i e o) = k v i e o
spells_then lines said k (Unspelled b t) = left lines (No _) said t tt

-- ---- tables

tables_push : (n : Limits) (k m : ℕ) (ts : List Potentials) (t : Potentials) → AreTablesRead n k ts → k + length ts ≡ m → IsTable n m t → AreTablesRead n k (ts ++ t ∷ [])
tables_push n k m [] t h e a = (subst (λ q. IsTable n q t) (let f : m ≡ k = omega arith in f) a, tt)
tables_push n k m (x ∷ ts) t h e a = (h.0, tables_push n (suc k) m ts t h.1 (omega arith) a)

tables_whole : (n : Limits) (k : ℕ) (ts : List Potentials) → AreTablesRead n k ts → k + length ts ≡ length n.instance.teams → Tables n k ts
tables_whole n k [] h e = omega arith
tables_whole n k (t ∷ ts) h e = (h.0, tables_whole n (suc k) ts h.1 (omega arith))

rows_none : (line : ℕ → List ℤ → Words) (keys : List ℕ) → rows_lines line keys [] ≡ []
rows_none line [] = refl
rows_none line (k ∷ ks) = refl

-- a row that is due is one of a task that the team may begin
key_open : (n : Limits) (k : ℕ) (rows : List (List ℤ)) (j : ℕ) (js : List ℕ) → AreRowsRead n k rows (j ∷ js) → 0 < minute_count n k j
key_open n k rows j js h =
    let P : ℕ → Type 0 = λ (i : ℕ). nat_lt 0 (minute_count n k i) ≡ true in
    let l : length h.0 < length (h.0 ++ j ∷ js) = omega (arith, length-append h.0 (j ∷ js)) in
    let all = subst (All P) h.1 (filter_passes (λ i. nat_lt 0 (minute_count n k i)) (range_with_len 0 (tasks_in n))) in
    (Decides-ltb 0 (minute_count n k j)).0 (subst P (get_or-append_seam h.0 j js j) (all (length h.0) j l))

-- ---- prices

minutes_more : (i : Instance) (j : ℕ) (p : MinutePrices) (vs : List ℤ) → minutes_lines i j (p ++ vs ∷ []) ≡ minutes_lines i j p ++ minutes_line i (j + length p) vs ∷ []
minutes_more i j [] vs = ap (λ m. minutes_line i m vs ∷ []) (let e : j ≡ j + 0 = omega arith in e)
minutes_more i j (row ∷ p) vs = ap (λ w. minutes_line i j row ∷ w)
    (minutes_more i (suc j) p vs ∙ ap (λ m. minutes_lines i (suc j) p ++ minutes_line i m vs ∷ []) (let e : suc j + length p ≡ j + suc (length p) = omega arith in e))

-- ---- what is due after a line

team_left : (lines : List Words) (s : Sheet) (k : ℕ) (said : SheetAnswer) → AreTeamsRead s k → lines ≡ tables_so_far s → after_team s k said → Left lines said
team_left lines s zero said r e h = must_then lines said (λ proved t. left lines (More (Ends s)) said t (r, e)) h
team_left lines s (suc k) said r e h = left lines (More (Worths s k)) said h (r, e)

module _ (law : Read) where
  -- the lines with one more table
  table_text : (s : Sheet) (t : Potentials) → tables_so_far (record s { tables = s.tables ++ t ∷ [] }) ≡ tables_so_far s ++ table_so_far (root_limits s.instance) (length s.tables) t
  table_text s t =
      let n = root_limits s.instance in
      ap (λ w. prices_so_far s ++ w)
      (law.tables Two n 0 s.tables t
      ∙ ap (λ m. table_lines Two n 0 s.tables ++ table_lines Two n m (t ∷ [])) (let e : 0 + length s.tables ≡ length s.tables = omega arith in e)
      ∙ ap (λ w. table_lines Two n 0 s.tables ++ w) (append-nil (table_so_far n (length s.tables) t)))
      ∙ sym (append_assoc (prices_so_far s) (table_lines Two n 0 s.tables) (table_so_far n (length s.tables) t))

  steps_left : (lines : List Words) (s : Sheet) (k : ℕ) (table : Potentials) (keys : List ℕ) (said : SheetAnswer) → IsTeamRead s k table keys
      → lines ≡ tables_so_far s ++ table_so_far (root_limits s.instance) (length s.tables) table → after_steps s k table keys said → Left lines said
  steps_left lines s k table [] said r e h =
      each_then {reason = λ j. Rattle.dossier_terms.specs.declared.Reason.TheVariants.Potential (length s.tables) j} lines said (λ rest. must_then lines said (λ worth others.
      let n = root_limits s.instance in
      let m = length s.tables in
      let whole = subst (λ ks. AreRows IsSigned (minute_count n m) ks table.phi) (sym (r.rows.1 ∙ append-nil r.rows.0)) r.rows.2 in
      let c = r.teams.count in
      team_left lines (record s { tables = s.tables ++ table ∷ [] }) k said (record {
        begun = record { instance = r.teams.begun.instance; budget = r.teams.begun.budget; bound = r.teams.begun.bound };
        tables = tables_push n 0 m s.tables table r.teams.tables (omega arith) (record { worth = r.worth; rows = whole });
        count = (let a = length-append s.tables (table ∷ []) in omega arith);
      }) (e ∙ sym (table_text s table)) others) rest) h
  steps_left lines s k table (j ∷ js) said r e h = left lines (More (Steps s k table j js)) said h (r, e)

  price_left : (lines : List Words) (s : Sheet) (k : ℕ) (said : SheetAnswer) → ArePricesRead s → lines ≡ prices_so_far s → after_price s k said → Left lines said
  price_left lines s zero said r e h =
      let n = root_limits s.instance in
      team_left lines s (length s.instance.teams) said (record {
        begun = r.begun;
        tables = subst (AreTablesRead n 0) (sym r.none) tt;
        count = ap (λ ts. length ts + length s.instance.teams) r.none ∙ (let q : 0 + length s.instance.teams ≡ length s.instance.teams = omega arith in q);
      }) (e ∙ sym (append-nil (prices_so_far s)) ∙ ap (λ ts. prices_so_far s ++ table_lines Two n 0 ts) (sym r.none)) h
  price_left lines s (suc k) said r e h = left lines (More (Prices s k)) said h (r, e)

  -- ---- the rows

  head_left : (lines : List Words) (s : Reading) (ws : Words) (said : SheetAnswer) (a : Answer) (head : List Words) → lines ≡ squeeze_line ∷ head → Reaches (Sizes Two) head s
      → Says s ws a → said ≡ head_answer a → Left (lines ++ ws ∷ []) said
  head_left lines s ws said (dossiers.Whole d) head e r h t = left (lines ++ ws ∷ []) (No _) said t tt
  head_left lines s ws said (dossiers.No reason) head e r h t = left (lines ++ ws ∷ []) (No reason) said t tt
  head_left lines s ws said (dossiers.More next) head e r h t = left (lines ++ ws ∷ []) (More (head_due next)) said t (due next (law.goes_on (Sizes Two) head s ws next r h))
    where
      text : lines ++ ws ∷ [] ≡ squeeze_line ∷ (head ++ ws ∷ [])
      text = ap (λ ls. ls ++ ws ∷ []) e

      due : (next : Reading) → Reaches (Sizes Two) (head ++ ws ∷ []) next → SoFar (lines ++ ws ∷ []) (head_due next)
      due (Pools form i budget) g = (head ++ ws ∷ [], text, (law.head (head ++ ws ∷ []) form i budget g).1)
      due dossiers.Form g = (head ++ ws ∷ [], text, g)
      due (Sizes form) g = (head ++ ws ∷ [], text, g)
      due (dossiers.Places o k i) g = (head ++ ws ∷ [], text, g)
      due (dossiers.Travels o k i) g = (head ++ ws ∷ [], text, g)
      due (dossiers.Teams o k i) g = (head ++ ws ∷ [], text, g)
      due (dossiers.Tasks o k i) g = (head ++ ws ∷ [], text, g)
      due (dossiers.Frozens o i) g = (head ++ ws ∷ [], text, g)
      due (dossiers.Keeps o k from i) g = (head ++ ws ∷ [], text, g)
      due (dossiers.Routes b k) g = (head ++ ws ∷ [], text, g)
      due (dossiers.Plans b) g = (head ++ ws ∷ [], text, g)
      due (dossiers.Jobs b k from) g = (head ++ ws ∷ [], text, g)
      due (dossiers.Trees b) g = (head ++ ws ∷ [], text, g)
      due (dossiers.Nodes b c above) g = (head ++ ws ∷ [], text, g)
      due (dossiers.Whys p) g = (head ++ ws ∷ [], text, g)
      due (dossiers.Parts p now read k from) g = (head ++ ws ∷ [], text, g)
      due (dossiers.Spares p now read) g = (head ++ ws ∷ [], text, g)
      due (dossiers.Prices a) g = (head ++ ws ∷ [], text, g)
      due (dossiers.Extras a leaf j js) g = (head ++ ws ∷ [], text, g)
      due (dossiers.Worths a leaf k) g = (head ++ ws ∷ [], text, g)
      due (dossiers.Phis a leaf k table j js) g = (head ++ ws ∷ [], text, g)
      due (dossiers.Ends b c t) g = (head ++ ws ∷ [], text, g)

  -- the lines of a whole sheet
  whole_text : (front minutes tables : List Words) (bound end : Words) → ((front ++ (bound ∷ minutes)) ++ tables) ++ end ∷ [] ≡ front ++ (bound ∷ ((minutes ++ tables) ++ end ∷ []))
  whole_text front minutes tables bound end = simp append_assoc

  pub follows : (lines : List Words) (s : SheetReading) (ws : Words) (said : SheetAnswer) → SoFar lines s → SaysOfSheet s ws said → Left (lines ++ ws ∷ []) said
  follows lines First ws said r h = must_then (lines ++ ws ∷ []) said (λ is t. left (lines ++ ws ∷ []) (More (Head (Sizes Two))) said t ([], ap (λ ls. ls ++ ws ∷ []) r ∙ ap (λ w. w ∷ []) is, refl)) h
  follows lines (Head s) ws said r h = head_left lines s ws said h.0 r.0 r.1 r.2 h.1 h.2
  follows lines (Bounds i budget) ws said r h = must_then (lines ++ ws ∷ []) said (λ shape rest. spells_then (lines ++ ws ∷ []) said (λ l few e others.
      let s : Sheet = record { instance = i; budget = budget; bound = l; prices = []; tables = [] } in
      price_left (lines ++ ws ∷ []) s (length i.tasks) said (record { begun = record { instance = r.2.instance; budget = r.2.budget; bound = few }; none = refl })
      (ap (λ ls. ls ++ ws ∷ []) (r.1 ∙ ap (λ ls. squeeze_line ∷ ls) r.2.spelled) ∙ ap (λ w. (squeeze_line ∷ (instance_lines i budget ++ frozen_lines Two i.frozen)) ++ w ∷ []) e) others) rest) h
  follows lines (Prices s k) ws said r h = must_then (lines ++ ws ∷ []) said (λ shape rest. spells_then (lines ++ ws ∷ []) said (λ vs fits e others.
      let front = squeeze_line ∷ (instance_lines s.instance s.budget ++ frozen_lines Two s.instance.frozen) in
      let more = minutes_more s.instance 0 s.prices vs ∙ ap (λ m. minutes_lines s.instance 0 s.prices ++ minutes_line s.instance m vs ∷ []) (let q : 0 + length s.prices ≡ length s.prices = omega arith in q) in
      price_left (lines ++ ws ∷ []) (record s { prices = s.prices ++ vs ∷ [] }) k said (record { begun = record { instance = r.0.begun.instance; budget = r.0.begun.budget; bound = r.0.begun.bound }; none = r.0.none })
      (ap (λ ls. ls ++ ws ∷ []) r.1 ∙ ap (λ w. prices_so_far s ++ w ∷ []) e
      ∙ append_assoc front (bound_line s.bound ∷ minutes_lines s.instance 0 s.prices) (minutes_line s.instance (length s.prices) vs ∷ [])
      ∙ ap (λ w. front ++ (bound_line s.bound ∷ w)) (sym more)) others) rest) h
  follows lines (Worths s k) ws said r h = must_then (lines ++ ws ∷ []) said (λ shape rest. spells_then (lines ++ ws ∷ []) said (λ v is e others.
      let n = root_limits s.instance in
      let m = length s.tables in
      steps_left (lines ++ ws ∷ []) s k (record { worth = v; phi = [] }) (open_tasks n m) said (record { teams = r.0; worth = is; rows = ([], refl, tt) })
      (ap (λ ls. ls ++ ws ∷ []) r.1 ∙ ap (λ w. tables_so_far s ++ w ∷ []) e ∙ ap (λ w. tables_so_far s ++ (worth_line v ∷ w)) (sym (rows_none (row_line n m) (open_tasks n m)))) others) rest) h
  follows lines (Steps s k table j js) ws said r h = must_then (lines ++ ws ∷ []) said (λ shape rest. spells_then (lines ++ ws ∷ []) said (λ runs fits e rest2. must_then (lines ++ ws ∷ []) said (λ are others.
      let n = root_limits s.instance in
      let m = length s.tables in
      let first = first_minute n m j in
      let past = first + minute_count n m j in
      let some = key_open n m table.phi j js r.0.rows in
      let row = values_of past runs in
      let of = law.runs first past runs are fits (omega arith) in
      let read = r.0.rows.0 in
      let more = law.rows (minute_count n m) (row_line n m) read js table.phi j row r.0.rows.2 (let c = of.count in omega arith) of.signed in
      let keys = r.0.rows.1 in
      let text : rows_lines (row_line n m) (open_tasks n m) (table.phi ++ row ∷ []) ≡ rows_lines (row_line n m) (open_tasks n m) table.phi ++ row_line n m j row ∷ [] =
      subst (λ ks. rows_lines (row_line n m) ks (table.phi ++ row ∷ []) ≡ rows_lines (row_line n m) ks table.phi ++ row_line n m j row ∷ []) (sym keys) more.1 in
      steps_left (lines ++ ws ∷ []) s k (record table { phi = table.phi ++ row ∷ [] }) js said
      (record { teams = r.0.teams; worth = r.0.worth; rows = (read ++ j ∷ [], keys ∙ sym (append_assoc read (j ∷ []) js), more.0) })
      (ap (λ ls. ls ++ ws ∷ []) r.1 ∙ ap (λ w. (tables_so_far s ++ table_so_far n m table) ++ w ∷ []) (e ∙ ap (steps_line j) of.runs_again)
      ∙ append_assoc (tables_so_far s) (table_so_far n m table) (row_line n m j row ∷ [])
      ∙ ap (λ w. tables_so_far s ++ (worth_line table.worth ∷ w)) (sym text)) others) rest2) rest) h
  follows lines (Ends s) ws said r h = must_then (lines ++ ws ∷ []) said (λ is t.
      let n = root_limits s.instance in
      let front = squeeze_line ∷ (instance_lines s.instance s.budget ++ frozen_lines Two s.instance.frozen) in
      left (lines ++ ws ∷ []) (Whole s) said t (
        ap (λ ls. ls ++ ws ∷ []) r.1 ∙ ap (λ w. tables_so_far s ++ w ∷ []) is
            ∙ whole_text front (minutes_lines s.instance 0 s.prices) (table_lines Two n 0 s.tables) (bound_line s.bound) end_line,
        record { begun = r.0.begun; tables = tables_whole n 0 s.tables r.0.tables (let c = r.0.count in omega arith) },
      )) h

  -- ---- runs of lines

  pub reached : (lines more : List Words) (s t : SheetReading) → SoFar lines s → ReachesInSheet s more t → SoFar (lines ++ more) t
  reached lines [] s t r h = subst (λ ls. SoFar ls t) (sym (append-nil lines)) (subst (SoFar lines) h r)
  reached lines (ws ∷ more) s t r h =
      subst (λ ls. SoFar ls t) (append_assoc lines (ws ∷ []) more)
      (reached (lines ++ ws ∷ []) more h.0 t (follows lines s ws (More h.0) r h.1) h.2)

  pub ended : (lines more : List Words) (s : SheetReading) (sheet : Sheet) → SoFar lines s → EndsSheet s more sheet → (lines ++ more ≡ lines_of_sheet sheet) × IsWritten sheet
  ended lines [] s sheet r h = absurd h
  ended lines (ws ∷ more) s sheet r (inl h) =
      let a = follows lines s ws (Whole sheet) r h.0 in
      (ap (λ ls. lines ++ ws ∷ ls) h.1 ∙ a.0, a.1)
  ended lines (ws ∷ more) s sheet r (inr h) =
      let a = ended (lines ++ ws ∷ []) more h.0 sheet (follows lines s ws (More h.0) r h.1) h.2 in
      (sym (append_assoc lines (ws ∷ []) more) ∙ a.0, a.1)
