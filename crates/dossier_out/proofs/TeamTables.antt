-- the lines of a team's potentials
use Rattle.std.proofs.Common.{◌≡◌, ◌<◌, ◌≤◌, ◌+◌, ◌-◌, ◌++◌, ◌∷◌, [], ℕ, List, Bool, true, false, map, ap, sym, refl, ◌∙◌, append-nil, arith, ◌⊎◌, inl, inr}
use Rattle.std.specs.Prelude.{ℤ, nat_lt}
use Rattle.std.specs.List.{filter, range_with_len}
use Rattle.std.proofs.lemmas.Bool.{cases_lt, lt-ltb}
use Rattle.crew_terms.specs.Instance.{task_of}
use Rattle.crew_terms.specs.Limits.{Limits, tasks_in}
use Rattle.crew_terms.specs.Minutes.{first_minute, minute_count, open_tasks}
use Rattle.crew_terms.specs.Words.{Words, line_text}
use Rattle.dossier_terms.specs.Lines.{potentials_line, steps_line, worth_line}
use Rattle.dossier_terms.specs.Runs.{runs_of}
use Rattle.dossier_terms.specs.declared.DossierForm.TheVariants.{Two}
use Rattle.node_limits.specs.Minutes.{AreMinutes, HasNoMinute}
use Rattle.potentials.specs.Table.{PotentialRow, CoversMinute, IsTableOf}
use Rattle.dossier_out.specs.Steps.{row_in, row_of, table_in}
use Rattle.dossier_out.specs.Tables.{MinutesLaw, may_begin, row_line, team_lines}
use Rattle.crew_io.specs.Fronts.{IsFront}
use Rattle.dossier_out.specs.Texts.{front_of, rows_mapped, text}

-- ---- lines of those tasks that the team may begin

pub none_passes : (p : ℕ → Bool) (line : ℕ → Words) (j : ℕ) → p j ≡ false → [] ≡ text (map line (filter p (j ∷ [])))
none_passes p line j is = rw is refl

pub one_passes : (p : ℕ → Bool) (line : ℕ → Words) (j : ℕ) → p j ≡ true → line_text (line j) ≡ text (map line (filter p (j ∷ [])))
one_passes p line j is = rw is (sym (append-nil (line_text (line j))))

-- the first minute and how many there are
pub record AreCounted (n : Limits) (k j first end : ℕ) : Type 0 where
  pub order : first < end
  pub opens : first ≡ first_minute n k j
  pub count : end - first ≡ minute_count n k j
  pub some : may_begin n k j ≡ true

pub counted : MinutesLaw → (n : Limits) (k j a b : ℕ) → AreMinutes n k j a b → AreCounted n k j a (b + 1)
counted law n k j a b are =
    let order = are.order in
    let first = (law n k j a).0 ((are.each a).1 (omega arith, omega arith)) in
    let last = (law n k j b).0 ((are.each b).1 (omega arith, omega arith)) in
    let f = first_minute n k j in
    let m = minute_count n k j in
    let x = first.from in
    let y = first.until in
    let z = last.from in
    let w = last.until in
    let begins = (are.each f).0 ((law n k j f).1 (record { known = first.known; from = omega arith; until = omega arith })) in
    let ends = (are.each (f + m - 1)).0 ((law n k j (f + m - 1)).1 (record { known = first.known; from = omega arith; until = omega arith })) in
    let g = begins.0 in
    let h = ends.1 in
    record { order = omega arith; opens = omega arith; count = omega arith; some = lt-ltb 0 m (omega arith) }

pub uncounted : MinutesLaw → (n : Limits) (k j : ℕ) → j < tasks_in n → HasNoMinute n k j → may_begin n k j ≡ false
uncounted law n k j known none = by (cases_lt 0 (minute_count n k j))
  where
    by : (0 < minute_count n k j) ⊎ (minute_count n k j ≤ 0) → may_begin n k j ≡ false
    by (inr l) = ap (λ m. nat_lt 0 m) (let e : minute_count n k j ≡ 0 = omega arith in e)
    by (inl l) = absurd (none (first_minute n k j) ((law n k j (first_minute n k j)).1 (record { known = known; from = omega arith; until = omega arith })))

-- the line of a task's minutes
pub row_is_line : (n : Limits) (k j : ℕ) (table : List PotentialRow) (first end : ℕ) → AreCounted n k j first end
    → line_text (steps_line j (runs_of first (row_of table j first (end - first)))) ≡ text (map (row_line n k table) (filter (may_begin n k) (j ∷ [])))
row_is_line n k j table first end are =
    ap (λ f. line_text (steps_line j (runs_of f (row_of table j f (end - first))))) are.opens
    ∙ ap (λ m. line_text (steps_line j (runs_of (first_minute n k j) (row_of table j (first_minute n k j) m)))) are.count
    ∙ one_passes (may_begin n k) (row_line n k table) j are.some

-- the table has these minutes
pub covers : (n : Limits) (table : List PotentialRow) (j first end : ℕ) → IsTableOf n.instance table → j < tasks_in n
    → (task_of n.instance j).earliest ≤ first → end ≤ (task_of n.instance j).latest + 1 → (t : ℕ) → first ≤ t → t < end → CoversMinute table j t
covers n table j first end is known early late t from before =
    let a = is.first j known in
    let b = is.minutes j known in
    record { early = omega (arith, a, b); late = omega (arith, a, b) }

-- ---- the lines of a team

pub table_text : (n : Limits) (k : ℕ) (worth : ℤ) (table : List PotentialRow)
    → line_text (worth_line worth) ++ text (map (row_line n k table) (filter (may_begin n k) (range_with_len 0 (tasks_in n)))) ≡ text (team_lines n k (table_in n k worth table))
table_text n k worth table =
    ap (λ lines. line_text (worth_line worth) ++ text lines) (sym (rows_mapped (λ j. potentials_line Two (first_minute n k j) j) (row_in n k table) (open_tasks n k)))

pub table_front : (n : Limits) (k : ℕ) (worth : ℤ) (table : List PotentialRow) → IsFront (line_text (worth_line worth)) (text (team_lines n k (table_in n k worth table)))
table_front n k worth table =
    front_of (line_text (worth_line worth)) (text (map (row_line n k table) (filter (may_begin n k) (range_with_len 0 (tasks_in n))))) _ (sym (table_text n k worth table))
