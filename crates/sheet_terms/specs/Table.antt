-- the table of a sheet's lines: what is said of a line where a kind of line is due
use Rattle.std.specs.Prelude.{◌≡◌, ◌≤◌, ◌+◌, ◌++◌, ◌⊎◌, ℕ, zero, suc, List, [], ◌∷◌, length, codes}
use Rattle.crew_terms.specs.Words.{Words}
use Rattle.crew_terms.specs.Instance.{Instance, task_of}
use Rattle.crew_terms.specs.Limits.{root_limits}
use Rattle.crew_terms.specs.Minutes.{first_minute, minute_count, open_tasks}
use Rattle.crew_terms.specs.Leaf.{HoldsPotential, HoldsWorth, IsPrice, Proves}
use Rattle.dossier_terms.specs.declared.DossierForm.TheVariants.{Two}
use Rattle.dossier_terms.specs.declared.Reason.TheVariants.{Shape, Number, Steps as BadSteps, Potential, Worth, Bound}
use Rattle.dossier_terms.specs.Dossier.{Potentials, IsWorthNumber, phi_in}
use Rattle.dossier_terms.specs.Runs.{AreRuns, values_of}
use Rattle.dossier_terms.specs.Lines.{worth_line, steps_line, end_line}
use Rattle.dossier_terms.specs.Ranges.{AreNumbers, IsStepsLine, IsPairs, IsRow, BeginsAt}
use Rattle.dossier_terms.specs.Rules.{IsShape}
use Rattle.dossier_terms.specs.Reading.{Reading, Answer, Sizes}
use Rattle.dossier_terms.specs.Table as dossiers
use Rattle.squeeze_terms.specs.MinutePrices.{minute_price, price_count}
use Rattle.squeeze_terms.specs.Bound.{minute_bound}
use Rattle.sheet_terms.specs.Lines.{squeeze_line, bound_line, minutes_line}
use Rattle.sheet_terms.specs.Rules.{Must, MustEach, MustSpell}
use Rattle.sheet_terms.specs.Sheet.{Sheet, worths_in}
use Rattle.sheet_terms.specs.Reading.{SheetReading, SheetAnswer, First, Head, Bounds, Prices, Worths, Steps, Ends, More, Whole, No, head_answer}

-- this is said of the line
abbrev pub Tells : SheetAnswer → SheetAnswer → Type 0
Tells answer said = said ≡ answer

-- ---- what is said after a line

-- what is said after the lines of the teams so far, of which this many are left: after the last one the bound is judged
abbrev pub after_team : Sheet → ℕ → SheetAnswer → Type 0
after_team s zero = Must (Proves (minute_bound s.instance s.prices (worths_in s.tables)) s.bound) (No Bound) (Tells (More (Ends s)))
after_team s (suc left) = Tells (More (Worths s left))

-- what is said after a line of the next team, of which the rows of these tasks are left: after the last one its rules are judged
abbrev pub after_steps : Sheet → ℕ → Potentials → List ℕ → SheetAnswer → Type 0
after_steps s left table [] =
    let n = root_limits s.instance in
    let k = length s.tables in
    MustEach (length s.instance.tasks) (HoldsPotential n k (minute_price s.instance s.prices) (phi_in n k table)) (λ j. No (Potential k j))
    (Must (HoldsWorth n k (phi_in n k table) table.worth) (No (Worth k))
    (after_team (record s { tables = s.tables ++ table ∷ [] }) left))
after_steps s left table (j ∷ js) = Tells (More (Steps s left table j js))

-- what is said after the prices of the tasks so far, of which this many are left
abbrev pub after_price : Sheet → ℕ → SheetAnswer → Type 0
after_price s zero = after_team s (length s.instance.teams)
after_price s (suc left) = Tells (More (Prices s left))

-- ---- the rows

-- the first line
abbrev pub first_row : Words → SheetAnswer → Type 0
first_row ws = Must (ws ≡ squeeze_line) (No Shape) (Tells (More (Head (Sizes Two))))

-- a line of the instance or of its frozen jobs: what the table of a dossier's lines says
abbrev pub head_row : Reading → Words → SheetAnswer → Type 0
head_row s ws said = (a : Answer) × dossiers.Says s ws a × (said ≡ head_answer a)

-- the line `bound`
abbrev pub bound_row : Instance → ℕ → Words → SheetAnswer → Type 0
bound_row i budget ws = Must (IsShape (codes "bound") 1 ws) (No Shape)
    (MustSpell bound_line (λ l. l ≤ length i.tasks) ws (No Number) λ l.
    after_price (record { instance = i; budget = budget; bound = l; prices = []; tables = [] }) (length i.tasks))

-- a line of the next task's prices
abbrev pub price_row : Sheet → ℕ → Words → SheetAnswer → Type 0
price_row s left ws =
    let j = length s.prices in
    let count = price_count (task_of s.instance j) in
    Must (IsRow (minutes_line s.instance) j count ws) (No Shape)
    (MustSpell (minutes_line s.instance j) (AreNumbers IsPrice count) ws (No Number) λ vs.
    after_price (record s { prices = s.prices ++ vs ∷ [] }) left)

-- a line `worth`
abbrev pub worth_row : Sheet → ℕ → Words → SheetAnswer → Type 0
worth_row s left ws = Must (IsShape (codes "worth") 1 ws) (No Shape)
    (MustSpell worth_line IsWorthNumber ws (No Number) λ worth.
    after_steps s left (record { worth = worth; phi = [] }) (open_tasks (root_limits s.instance) (length s.tables)))

-- a line `steps` of the next team's potentials at task j
abbrev pub steps_row : Sheet → ℕ → Potentials → ℕ → List ℕ → Words → SheetAnswer → Type 0
steps_row s left table j js ws =
    let n = root_limits s.instance in
    let first = first_minute n (length s.tables) j in
    let past = first + minute_count n (length s.tables) j in
    Must (BeginsAt (codes "steps") j ws × IsPairs ws) (No Shape)
    (MustSpell (steps_line j) IsStepsLine ws (No Number) λ runs.
    Must (AreRuns first past runs) (No BadSteps)
    (after_steps s left (record table { phi = table.phi ++ values_of past runs ∷ [] }) js))

-- the line `end`
abbrev pub end_row : Sheet → Words → SheetAnswer → Type 0
end_row s ws = Must (ws ≡ end_line) (No Shape) (Tells (Whole s))

-- what may be said of a line
abbrev pub SaysOfSheet : SheetReading → Words → SheetAnswer → Type 0
SaysOfSheet First ws = first_row ws
SaysOfSheet (Head s) ws = head_row s ws
SaysOfSheet (Bounds i budget) ws = bound_row i budget ws
SaysOfSheet (Prices s left) ws = price_row s left ws
SaysOfSheet (Worths s left) ws = worth_row s left ws
SaysOfSheet (Steps s left table j js) ws = steps_row s left table j js ws
SaysOfSheet (Ends s) ws = end_row s ws

-- the lines lead from one state to another
abbrev pub ReachesInSheet : SheetReading → List Words → SheetReading → Type 0
ReachesInSheet s [] after = s ≡ after
ReachesInSheet s (ws ∷ lines) after = (next : SheetReading) × SaysOfSheet s ws (More next) × ReachesInSheet next lines after

-- the lines end the sheet with the last of them
abbrev pub EndsSheet : SheetReading → List Words → Sheet → Type 0
EndsSheet s [] sheet = ⊥
EndsSheet s (ws ∷ lines) sheet = (SaysOfSheet s ws (Whole sheet) × (lines ≡ [])) ⊎ ((next : SheetReading) × SaysOfSheet s ws (More next) × EndsSheet next lines sheet)
