-- each line of a good sheet is a line
use Rattle.std.proofs.Common.{◌≡◌, ◌≤◌, ◌<◌, ◌+◌, ◌-◌, [], ◌∷◌, ◌++◌, ℕ, suc, ℤ, List, length, subst, refl, arith, Bool, true, false, cond}
use Rattle.std.specs.Prelude.{codes, pos}
use Rattle.std.specs.Ordering.{int_eq}
use Rattle.std.specs.List.{All, AllByRecursion}
use Rattle.std.specs.Fmt.{signed_decimal}
use Rattle.std.proofs.lemmas.List.{get_or_default, length-map}
use Rattle.std.proofs.lemmas.List.Elements.{All-from_recursion, recursion_from_All}
use Rattle.crew_terms.specs.Instance.{Instance, no_task, task_of}
use Rattle.crew_terms.specs.Rules.{IsInstance}
use Rattle.crew_terms.specs.Leaf.{IsPrice}
use Rattle.crew_terms.specs.Limits.{Limits, tasks_in, root_limits}
use Rattle.crew_terms.specs.Minutes.{open_tasks, first_minute, minute_count}
use Rattle.crew_terms.specs.Words.{Words}
use Rattle.crew_terms.specs.declared.TheConstants.{LAST_MINUTE, MOST_TASKS}
use Rattle.dossier_terms.specs.declared.DossierForm.TheVariants.{Two}
use Rattle.dossier_terms.specs.Runs.{Run, runs_after, runs_of}
use Rattle.dossier_terms.specs.Dossier.{Potentials, AreRows, IsSigned, Tables}
use Rattle.dossier_terms.specs.Lines.{rows_lines, potentials_line, instance_lines, frozen_lines, table_lines, end_line}
use Rattle.dossier_terms.specs.Counted.{IsWide, price_wide, worth_wide, signed_wide}
use Rattle.dossier_laws.specs.Days.{IsDay, last_minute, root_day, minutes_end}
use Rattle.text_laws.specs.Texts.{AreLine}
use Rattle.text_laws.proofs.Lists.{rec-append, rec-map, rec_weaker}
use Rattle.text_laws.proofs.Heads.{picked_less, until_day}
use Rattle.text_laws.proofs.Plans.{head_good}
use Rattle.text_laws.proofs.Short.{IsShort, short_line, fixed, number, signed_number}
use Rattle.text_laws.proofs.Spellings.{IsFew, IsFewRun, steps_is_line, worth_is_line, end_is_line}
use Rattle.squeeze_terms.specs.MinutePrices.{MinutePrices, AreMinutePrices, is_joint, prices_of}
use Rattle.sheet_terms.specs.Lines.{lines_of_sheet, squeeze_line, bound_line, price_word, minutes_line, minutes_lines}
use Rattle.sheet_terms.specs.Sheet.{Sheet, IsGoodSheet}

-- a first word, numbers, and no more
fixed_words : (n : ℕ) (w : List ℕ) (ws : Words) → n ≤ 6241 → length (w ∷ ws) ≤ n → AllByRecursion (IsShort 20) (w ∷ ws) → AreLine (w ∷ ws)
fixed_words n w ws room count h = short_line 20 6241 w ws (omega arith) (omega arith) h

-- ---- the first line, and the bound

squeeze_is_line : AreLine squeeze_line
squeeze_is_line = fixed_words 3 (codes "crew") _ (omega arith) (omega arith)
    (fixed 20 (codes "crew") refl (omega arith), (fixed 20 (codes "squeeze") refl (omega arith), (fixed 20 (codes "1") refl (omega arith), tt)))

bound_is_line : (l : ℕ) → IsFew l → AreLine (bound_line l)
bound_is_line l few = fixed_words 2 (codes "bound") _ (omega arith) (omega arith) (fixed 20 (codes "bound") refl (omega arith), (number 20 l (omega arith) few, tt))

-- ---- the prices of a task

price_word_short : (joint : Bool) → IsShort 20 (cond joint (codes "clock") (codes "price"))
price_word_short true = fixed 20 (codes "clock") refl (omega arith)
price_word_short false = fixed 20 (codes "price") refl (omega arith)

minutes_is_line : (i : Instance) (j : ℕ) (vs : List ℤ) → IsFew j → length vs ≤ LAST_MINUTE + 1 → AllByRecursion IsWide vs → AreLine (minutes_line i j vs)
minutes_is_line i j vs l count h = fixed_words (LAST_MINUTE + 3) (price_word i j) _ (omega arith) (omega (arith, length-map vs signed_decimal))
    (price_word_short (is_joint (task_of i j)), (number 20 j (omega arith) l, rec-map IsWide (IsShort 20) signed_decimal signed_number vs h))

-- a window ends within two days
prices_few : (joint : Bool) (earliest latest : ℕ) → latest ≤ LAST_MINUTE → cond joint (latest + 1 - earliest) 1 ≤ LAST_MINUTE + 1
prices_few true earliest latest h = omega arith
prices_few false earliest latest h = omega arith

-- a task's prices are few, and in their range
record AreFewPrices (vs : List ℤ) : Type 0 where
  count : length vs ≤ LAST_MINUTE + 1
  each : AllByRecursion IsPrice vs

few_prices : (i : Instance) (p : MinutePrices) (j : ℕ) → IsInstance i → AreMinutePrices i p → j < length i.tasks → AreFewPrices (prices_of p j)
few_prices i p j h prices l =
    let t = h.parts.tasks j no_task l in
    let few = prices_few (is_joint (task_of i j)) (task_of i j).earliest (task_of i j).latest t.window.day in
    record {
      count = (let c = prices.counts j l in omega (arith, c, few));
      each = recursion_from_All IsPrice (prices_of p j) (λ x d m. subst IsPrice (get_or_default (prices_of p j) x (pos 0) d m) (prices.range j x));
    }

minutes_good : (i : Instance) (j : ℕ) (p : MinutePrices) → j + length p ≤ MOST_TASKS → ((x : ℕ) → x < length p → AreFewPrices (prices_of p x)) → AllByRecursion AreLine (minutes_lines i j p)
minutes_good i j [] few h = tt
minutes_good i j (vs ∷ p) few h =
    let first = h 0 (omega arith) in (
      minutes_is_line i j vs (omega arith) first.count (rec_weaker IsPrice IsWide price_wide vs first.each),
      minutes_good i (suc j) p (omega arith) (λ x l. h (suc x) (omega arith)),
    )

-- ---- the potentials of a team

-- a team can begin a task at a minute of its shift
chosen_le : (t : Bool) (stop first most : ℕ) → stop ≤ most → cond t (stop - first) 0 ≤ most
chosen_le true stop first most h = omega arith
chosen_le false stop first most h = omega arith

minutes_few : (n : Limits) (k j : ℕ) → IsInstance n.instance → minute_count n k j ≤ LAST_MINUTE + 1
minutes_few n k j h = let until = until_day n.instance h k in chosen_le _ _ _ (LAST_MINUTE + 1) (omega arith)

-- there are no more runs than numbers, and they begin within two days
AreFewRuns : ℕ → List Run → Type 0
AreFewRuns most runs = (length runs ≤ most) × AllByRecursion IsFewRun runs

runs_after_few : (last : ℤ) (t : ℕ) (vs : List ℤ) → t + length vs ≤ LAST_MINUTE + 1 → AllByRecursion IsSigned vs → AreFewRuns (length vs) (runs_after last t vs)
unfolding AreFewRuns
runs_after_few last t [] l h = (omega arith, tt)
runs_after_few last t (v ∷ vs) l h = at (int_eq v last) (runs_after_few last (suc t) vs (omega arith) h.1) (runs_after_few v (suc t) vs (omega arith) h.1)
  where
    at : (b : Bool) → AreFewRuns (length vs) (runs_after last (suc t) vs) → AreFewRuns (length vs) (runs_after v (suc t) vs)
        → AreFewRuns (suc (length vs)) (cond b (runs_after last (suc t) vs) (record { from = t; value = v } ∷ runs_after v (suc t) vs))
    at true a b = (omega (arith, a.0), a.1)
    at false a b = (omega (arith, b.0), (record { from = omega arith; value = signed_wide v h.0 }, b.1))

runs_few : (t : ℕ) (vs : List ℤ) → (0 < length vs → t + length vs ≤ LAST_MINUTE + 1) → AllByRecursion IsSigned vs → AreFewRuns (length vs) (runs_of t vs)
unfolding AreFewRuns
runs_few t [] l h = (omega arith, tt)
runs_few t (v ∷ vs) l h =
    let room : t + length (v ∷ vs) ≤ LAST_MINUTE + 1 = l (omega arith) in
    let a = runs_after_few v (suc t) vs (omega arith) h.1 in
    (omega (arith, a.0), (record { from = omega arith; value = signed_wide v h.0 }, a.1))

-- the line of a team's potentials at a task
abbrev line_at : Limits → ℕ → ℕ → List ℤ → Words
line_at n k j = potentials_line Two (first_minute n k j) j

potentials_good : (n : Limits) (k j : ℕ) (row : List ℤ) → IsInstance n.instance → IsDay n → j < tasks_in n → length row ≡ minute_count n k j → AllByRecursion IsSigned row → AreLine (line_at n k j row)
unfolding AreFewRuns
potentials_good n k j row h day l count each =
    let a = runs_few (first_minute n k j) row (λ some. let b = minutes_end n k j (omega arith) in let c = last_minute n j day in omega arith) each in
    steps_is_line j (runs_of (first_minute n k j) row) (omega (arith, h.parts.few_tasks)) (omega (arith, a.0, minutes_few n k j h)) a.1

rows_good : (n : Limits) (k : ℕ) → IsInstance n.instance → IsDay n → (js : List ℕ) (rows : List (List ℤ)) → AllByRecursion (λ j. j < tasks_in n) js → AreRows IsSigned (minute_count n k) js rows
    → AllByRecursion AreLine (rows_lines (line_at n k) js rows)
rows_good n k h day [] rows l r = tt
rows_good n k h day (j ∷ js) [] l r = tt
rows_good n k h day (j ∷ js) (row ∷ rows) l r = (potentials_good n k j row h day l.0 r.0 r.1, rows_good n k h day js rows l.1 r.2)

tables_good : (n : Limits) (k : ℕ) (ts : List Potentials) → IsInstance n.instance → IsDay n → Tables n k ts → AllByRecursion AreLine (table_lines Two n k ts)
tables_good n k [] h day w = tt
tables_good n k (t ∷ ts) h day w = (
  worth_is_line t.worth (worth_wide t.worth w.0.worth),
  rec-append AreLine (rows_lines (line_at n k) (open_tasks n k) t.phi) (table_lines Two n (suc k) ts)
      (rows_good n k h day (open_tasks n k) t.phi (picked_less (tasks_in n) _) w.0.rows) (tables_good n (suc k) ts h day w.1),
)

-- ---- all of them

pub all_good : (s : Sheet) → IsGoodSheet s → AllByRecursion AreLine (lines_of_sheet s)
all_good s h =
    let i = s.instance in
    let n = root_limits i in
    let p = h.valid.prices in
    let tasks = h.instance.parts.few_tasks in (
      squeeze_is_line,
      rec-append AreLine (instance_lines i s.budget ++ frozen_lines Two i.frozen) _ (head_good Two i s.budget h.instance h.budget).1 (
        bound_is_line s.bound (omega (arith, h.bound, tasks)),
        rec-append AreLine (minutes_lines i 0 s.prices ++ table_lines Two n 0 s.tables) (end_line ∷ [])
            (rec-append AreLine (minutes_lines i 0 s.prices) (table_lines Two n 0 s.tables)
            (minutes_good i 0 s.prices (let c = p.tasks in omega (arith, c, tasks)) (λ j l. few_prices i s.prices j h.instance p (let c = p.tasks in omega (arith, c, l))))
            (tables_good n 0 s.tables h.instance (root_day i h.instance) h.tables))
            (end_is_line, tt),
      ),
    )

pub lines_good : (s : Sheet) → IsGoodSheet s → All AreLine (lines_of_sheet s)
lines_good s h = All-from_recursion AreLine (lines_of_sheet s) (all_good s h)
