-- the lines of a team: the rows of the table behind what is read, and what the reader has then
use Rattle.std.proofs.Common.{◌≡◌, ◌<◌, ◌+◌, ◌-◌, ℕ, suc, ℤ, true, List, [], ◌∷◌, ◌++◌, length, ap, sym, subst, refl, ◌∙◌, arith, length-append}
use Rattle.std.specs.Prelude.{Result, Ok, None, Some, filter}
use Rattle.std.specs.List.{flat_map, range_with_len}
use Rattle.std.specs.Fmt.{signed_decimal}
use Rattle.std.proofs.lemmas.List.{length-map, map-append}
use Rattle.std.proofs.lemmas.Bool.Decides.{Decides-ltb}
use Rattle.crew_terms.specs.Words.{Words}
use Rattle.crew_terms.specs.Instance.{Instance}
use Rattle.crew_terms.specs.Limits.{Limits, root_limits, tasks_in}
use Rattle.crew_terms.specs.Minutes.{first_minute, minute_count, open_tasks}
use Rattle.dossier_terms.specs.Dossier.{Potentials, IsWorthNumber}
use Rattle.dossier_terms.specs.Counted.{steps_pairs}
use Rattle.dossier_terms.specs.Lines.{worth_line, steps_line, run_words}
use Rattle.dossier_terms.specs.Ranges.{IsPairs, IsStepsLine}
use Rattle.dossier_terms.specs.RunLengths.{values_length}
use Rattle.dossier_terms.specs.Runs.{Run, AreRuns, values_of}
use Rattle.dossier_terms.specs.declared.Reason.TheVariants as reasons
use Rattle.line_in.specs.declared.refusals.Refusal.{Refusal}
use Rattle.leaf_check.specs.Keys.{has_minutes}
use Rattle.sheet_lines.specs.Rows.{IsRowNext, open_from}
use Rattle.sheet_terms.specs.Rules.{Holds, Fails, Spelled}
use Rattle.sheet_terms.specs.Sheet.{worths_in}
use Rattle.sheet_terms.specs.Reading.{Steps, No as Refuses}
use Rattle.sheet_terms.specs.Table.{after_steps, worth_row, steps_row}
use Rattle.sheet_reader.specs.Reader.{HasTable, HasTables, HasWorths, IsRowDue, SheetTells, sheet_of}
use Rattle.sheet_reader.specs.declared.reader.SheetDue.TheVariants as due
use Rattle.sheet_reader.specs.declared.reader.SheetReader.{SheetReader}
use Rattle.sheet_reader.specs.declared.reader.SheetStep.{SheetStep}
use Rattle.sheet_reader.specs.declared.reader.SheetStep.TheVariants.{More}
use Rattle.sheet_reader.proofs.Rows.{one_row}
use Rattle.sheet_reader.proofs.Told.{tells_rest}

-- there is a table for each worth
pub table_count : (i : Instance) (r : SheetReader) (tables : List Potentials) (left team : ℕ) → HasTables i r tables left → HasWorths i r team → length tables ≡ team
table_count i r tables left team read has = sym (length-map tables (λ (t : Potentials). t.worth)) ∙ ap length (sym read.worths) ∙ has.count

-- the next team is one
pub known_team : (i : Instance) (r : SheetReader) (tables : List Potentials) (left team : ℕ) → HasTables i r tables (suc left) → HasWorths i r team → team < length i.teams
known_team i r tables left team read has = let c = read.count in let e = table_count i r tables (suc left) team read has in omega arith

-- ---- a line `worth`

-- the tasks that a team may begin are those from the first on
pub open_all : (n : Limits) (k : ℕ) → open_from n k 0 ≡ open_tasks n k
open_all n k = let e : tasks_in n - 0 ≡ tasks_in n = omega arith in ap (λ m. filter (has_minutes n k) (range_with_len 0 m)) e

module _ (i : Instance) (budget : ℕ) (r : SheetReader) (tables : List Potentials) (left team : ℕ) (ws : Words) (count : length tables ≡ team) where
  pub worth_read : (v : ℤ) (rows : List (List ℤ)) (step : Result SheetStep Refusal) (new : SheetReader) → IsWorthNumber v → ws ≡ worth_line v → rows ≡ []
      → SheetTells i budget (after_steps (sheet_of i budget r tables) left (record { worth = v; phi = [] }) (open_from (root_limits i) team (length rows))) step new
      → SheetTells i budget (worth_row (sheet_of i budget r tables) left ws) step new
  worth_read v rows step new fits is none told =
      let table : Potentials = record { worth = v; phi = [] } in
      let keys : open_from (root_limits i) team (length rows) ≡ open_tasks (root_limits i) (length tables) =
      ap (λ m. open_from (root_limits i) team (length m)) none ∙ open_all (root_limits i) team ∙ ap (open_tasks (root_limits i)) (sym count) in
      tells_rest i budget (after_steps (sheet_of i budget r tables) left table (open_tasks (root_limits i) (length tables))) (worth_row (sheet_of i budget r tables) left ws) step new
      (λ said others. Holds (signed_decimal v ∷ [], is, refl) (Spelled v fits is others))
      (subst (λ ks. SheetTells i budget (after_steps (sheet_of i budget r tables) left table ks) step new) keys told)

-- ---- a line `steps`

-- the task that is due has a minute
pub some_minute : (n : Limits) (k j : ℕ) → has_minutes n k j ≡ true → 0 < minute_count n k j
some_minute n k j is = (Decides-ltb 0 (minute_count n k j)).0 is

-- the minutes that are counted at limits of the root are those of the table
pub minutes_at : (i : Instance) (n : Limits) (k team task first count : ℕ) → n ≡ root_limits i → k ≡ team → first ≡ first_minute n team task → count ≡ minute_count n team task
    → (first ≡ first_minute (root_limits i) k task) × (first + count ≡ first_minute (root_limits i) k task + minute_count (root_limits i) k task)
minutes_at i n k team task first count root is opens counted =
    let a : first ≡ first_minute (root_limits i) k task = opens ∙ ap (λ m. first_minute m team task) root ∙ ap (λ h. first_minute (root_limits i) h task) (sym is) in
    let b : count ≡ minute_count (root_limits i) k task = counted ∙ ap (λ m. minute_count m team task) root ∙ ap (λ h. minute_count (root_limits i) h task) (sym is) in
    (a, ap (λ x. x + count) a ∙ ap (λ x. first_minute (root_limits i) k task + x) b)

module _ (i : Instance) (budget : ℕ) (r : SheetReader) (tables : List Potentials) (left : ℕ) (table : Potentials) (task : ℕ) (js : List ℕ) (ws : Words) (runs : List Run)
    (fits : IsStepsLine runs) (is : ws ≡ steps_line task runs) (first past : ℕ)
    (opens : first ≡ first_minute (root_limits i) (length tables) task)
    (ends : past ≡ first_minute (root_limits i) (length tables) task + minute_count (root_limits i) (length tables) task) where
  abbrev start : ℕ
  start = first_minute (root_limits i) (length tables) task

  abbrev stop : ℕ
  stop = first_minute (root_limits i) (length tables) task + minute_count (root_limits i) (length tables) task

  pub steps_broken : (AreRuns first past runs → ⊥) → steps_row (sheet_of i budget r tables) left table task js ws (Refuses reasons.Steps)
  steps_broken none =
      Holds ((flat_map run_words runs, is), subst IsPairs (sym is) (steps_pairs task runs fits.some))
      (Spelled runs fits is (Fails (λ are. none (subst (λ f. AreRuns f past runs) (sym opens) (subst (λ p. AreRuns start p runs) (sym ends) are))) refl))

  pub steps_read : (row : List ℤ) (step : Result SheetStep Refusal) (new : SheetReader) → AreRuns first past runs → row ≡ values_of past runs
      → SheetTells i budget (after_steps (sheet_of i budget r tables) left (record { worth = table.worth; phi = table.phi ++ row ∷ [] }) js) step new
      → SheetTells i budget (steps_row (sheet_of i budget r tables) left table task js ws) step new
  steps_read row step new are row_is told =
      let here : AreRuns start stop runs = subst (λ p. AreRuns start p runs) ends (subst (λ f. AreRuns f past runs) opens are) in
      let given : row ≡ values_of stop runs = row_is ∙ ap (λ p. values_of p runs) ends in
      tells_rest i budget (after_steps (sheet_of i budget r tables) left (record { worth = table.worth; phi = table.phi ++ values_of stop runs ∷ [] }) js)
      (steps_row (sheet_of i budget r tables) left table task js ws) step new
      (λ said others. Holds ((flat_map run_words runs, is), subst IsPairs (sym is) (steps_pairs task runs fits.some)) (Spelled runs fits is (Holds here others)))
      (subst (λ vs. SheetTells i budget (after_steps (sheet_of i budget r tables) left (record { worth = table.worth; phi = table.phi ++ vs ∷ [] }) js) step new) given told)

-- the table has one more row
pub table_more : (i : Instance) (old new : SheetReader) (team task : ℕ) (js : List ℕ) (table : Potentials) (row : List ℤ) (first past : ℕ) (runs : List Run) → HasTable i old team table → IsRowDue i old team task js
    → first ≡ first_minute (root_limits i) team task → past ≡ first_minute (root_limits i) team task + minute_count (root_limits i) team task
    → AreRuns first past runs → row ≡ values_of past runs → new ≡ record old { rows = old.rows ++ row ∷ [] }
    → HasTable i new team (record { worth = table.worth; phi = table.phi ++ row ∷ [] })
table_more i old new team task js table row first past runs has row_due opens ends are row_is is = subst (λ r. HasTable i r team (record { worth = table.worth; phi = table.phi ++ row ∷ [] })) (sym is) (record {
  worth = has.worth;
  rows = one_row (root_limits i) team old.rows table.phi row has.rows (let b = row_due.before in let k = row_due.known in omega arith)
      (ap length row_is ∙ values_length first past runs are ∙ (let e : past - first ≡ minute_count (root_limits i) team task = omega arith in e) ∙ ap (minute_count (root_limits i) team) (sym row_due.before))
      (ap (has_minutes (root_limits i) team) row_due.before ∙ row_due.opens);
})

-- the rows that are left after it
pub keys_after : (i : Instance) (r : SheetReader) (team task : ℕ) (js : List ℕ) (row : List ℤ) → IsRowDue i r team task js → open_from (root_limits i) team (length (r.rows ++ row ∷ [])) ≡ js
keys_after i r team task js row due =
    let e : length (r.rows ++ row ∷ []) ≡ suc task = (let a = length-append r.rows (row ∷ []) in let b = due.before in omega arith) in
    ap (open_from (root_limits i) team) e ∙ sym due.later

-- ---- what is due behind a row

pub row_due : (i : Instance) (budget : ℕ) (n : Limits) (r : SheetReader) (team task left : ℕ) (tables : List Potentials) (table : Potentials) (rows : List (List ℤ)) → n ≡ root_limits i
    → HasWorths i r team → HasTables i r tables (suc left) → HasTable i r team table → IsRowNext n team r.rows rows table.phi (Some task)
    → SheetTells i budget (after_steps (sheet_of i budget r tables) left table (open_from (root_limits i) team (length r.rows))) (Ok More) (record r { rows = rows; due = due.Steps team task })
row_due i budget n r team task left tables table rows root has read begun next =
    let now : IsRowNext (root_limits i) team r.rows rows table.phi (Some task) = subst (λ m. IsRowNext m team r.rows rows table.phi (Some task)) root next in
    let js = open_from (root_limits i) team (suc task) in
    subst (λ ks. SheetTells i budget (after_steps (sheet_of i budget r tables) left table ks) (Ok More) (record r { rows = rows; due = due.Steps team task })) (sym now.4) (
      Steps (sheet_of i budget r tables) left table task js,
      refl,
      record {
        has = record { roomy = record { room = has.roomy.room; possible = has.roomy.possible }; prices = has.prices; count = has.count; few = has.few };
        tables = tables;
        left = left;
        read = record { worths = read.worths; count = read.count };
        table = table;
        js = js;
        begun = record { worth = begun.worth; rows = now.0 };
        row = record { before = now.1; known = now.2; opens = now.3; later = refl };
        is = refl;
      },
    )

-- no row is left
pub rows_whole : (i : Instance) (n : Limits) (r : SheetReader) (team : ℕ) (table : Potentials) (rows : List (List ℤ)) → n ≡ root_limits i → HasTable i r team table → IsRowNext n team r.rows rows table.phi None
    → HasTable i (record r { rows = rows }) team table × (length rows ≡ length i.tasks) × (open_from (root_limits i) team (length r.rows) ≡ [])
rows_whole i n r team table rows root begun next =
    let now : IsRowNext (root_limits i) team r.rows rows table.phi None = subst (λ m. IsRowNext m team r.rows rows table.phi None) root next in
    (record { worth = begun.worth; rows = now.0 }, now.1, now.2)

-- one more worth
pub worth_more : (i : Instance) (old new : SheetReader) (team left : ℕ) (tables : List Potentials) (table : Potentials) (worth : ℤ) → HasTables i old tables (suc left) → worth ≡ table.worth
    → new.worths.items ≡ old.worths.items ++ worth ∷ [] → HasTables i new (tables ++ table ∷ []) left
worth_more i old new team left tables table worth read same is = record {
  worths = is ∙ ap (λ xs. xs ++ worth ∷ []) read.worths ∙ ap (λ w. worths_in tables ++ w ∷ []) same ∙ sym (map-append (λ (t : Potentials). t.worth) tables (table ∷ []));
  count = (let c = read.count in let a = length-append tables (table ∷ []) in omega arith);
}
