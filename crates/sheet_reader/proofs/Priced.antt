-- the lines `bound` and those of prices: the rows of the table behind what is read, and what the reader has then
use Rattle.std.proofs.Common.{◌≡◌, ◌≤◌, ◌<◌, ◌+◌, ℕ, zero, suc, ℤ, List, [], ◌∷◌, ◌++◌, length, ap, sym, subst, refl, ◌∙◌, arith, length-append}
use Rattle.std.specs.Prelude.{Result, Ok, Err, codes}
use Rattle.crew_terms.specs.Words.{Words}
use Rattle.crew_terms.specs.Instance.{Instance, task_of}
use Rattle.crew_terms.specs.Leaf.{IsPrice, Proves}
use Rattle.dossier_terms.specs.Dossier.{Potentials}
use Rattle.dossier_terms.specs.Ranges.{AreNumbers, IsRow}
use Rattle.dossier_terms.specs.Rules.{IsShape}
use Rattle.dossier_terms.specs.declared.Reason.TheVariants.{Bound}
use Rattle.line_in.specs.Faults.{reason_for}
use Rattle.line_in.specs.declared.faults.LineFault.{LineFault}
use Rattle.line_in.specs.declared.refusals.Refusal.{Refusal}
use Rattle.squeeze_terms.specs.MinutePrices.{MinutePrices, AreMinutePrices, price_count}
use Rattle.squeeze_terms.specs.Bound.{minute_bound}
use Rattle.sheet_laws.specs.Priced.{ArePriced}
use Rattle.sheet_lines.specs.Spelled.{ReadsSpelling}
use Rattle.sheet_terms.specs.Lines.{bound_line, minutes_line}
use Rattle.sheet_terms.specs.Rules.{Holds, Fails, Spelled}
use Rattle.sheet_terms.specs.Sheet.{worths_in}
use Rattle.sheet_terms.specs.Reading.{Prices, Worths, Ends, No as Refuses}
use Rattle.sheet_terms.specs.Table.{after_price, after_team, bound_row, price_row}
use Rattle.sheet_reader.specs.Reader.{HasPrices, HasWorths, HasTables, SheetTells, sheet_of}
use Rattle.sheet_reader.specs.declared.reader.SheetDue.TheVariants as due
use Rattle.sheet_reader.specs.declared.reader.SheetReader.{SheetReader}
use Rattle.sheet_reader.specs.declared.reader.SheetStep.{SheetStep}
use Rattle.sheet_reader.specs.declared.reader.SheetStep.TheVariants.{More}
use Rattle.sheet_reader.proofs.Told.{spelling_fault, tells_rest}

none_of : {A : Type 0} (xs : List A) → length xs ≡ 0 → xs ≡ []
none_of [] e = refl
none_of (x ∷ xs) e = absurd (omega arith)

-- ---- the line `bound`

pub bound_fault : (i : Instance) (budget tasks : ℕ) (ws : Words) (fault : LineFault) → tasks ≡ length i.tasks
    → ReadsSpelling (IsShape (codes "bound") 1 ws) bound_line (λ l. l ≤ tasks) ws (Err fault) → bound_row i budget ws (Refuses (reason_for fault))
bound_fault i budget tasks ws fault all h = spelling_fault (IsShape (codes "bound") 1 ws) bound_line (λ l. l ≤ length i.tasks) ws fault _
    (subst (λ m. ReadsSpelling (IsShape (codes "bound") 1 ws) bound_line (λ l. l ≤ m) ws (Err fault)) all h)

pub bound_read : (i : Instance) (budget tasks l : ℕ) (prices : MinutePrices) (ws : Words) (step : Result SheetStep Refusal) (new : SheetReader) → tasks ≡ length i.tasks
    → ReadsSpelling (IsShape (codes "bound") 1 ws) bound_line (λ l. l ≤ tasks) ws (Ok l) → length prices ≡ 0
    → SheetTells i budget (after_price (record { instance = i; budget = budget; bound = l; prices = prices; tables = [] }) (length i.tasks)) step new
    → SheetTells i budget (bound_row i budget ws) step new
bound_read i budget tasks l prices ws step new all h none told =
    let few : l ≤ length i.tasks = subst (λ m. l ≤ m) all h.1 in
    tells_rest i budget (after_price (record { instance = i; budget = budget; bound = l; prices = []; tables = [] }) (length i.tasks)) (bound_row i budget ws) step new
    (λ said others. Holds h.0 (Spelled l few h.2 others))
    (subst (λ p. SheetTells i budget (after_price (record { instance = i; budget = budget; bound = l; prices = p; tables = [] }) (length i.tasks)) step new) (none_of prices none) told)

-- ---- a line of prices

-- what the reader of such a line gives
abbrev pub ReadsPrices : Instance → ℕ → Words → Result (List ℤ) LineFault → Type 0
ReadsPrices i j ws = ReadsSpelling (IsRow (minutes_line i) j (price_count (task_of i j)) ws) (minutes_line i j) (AreNumbers IsPrice (price_count (task_of i j))) ws

module _ (i : Instance) (budget : ℕ) (r : SheetReader) (task left : ℕ) (ws : Words) (count : length r.prices ≡ task) where
  pub price_fault : (fault : LineFault) → ReadsPrices i task ws (Err fault) → price_row (sheet_of i budget r []) left ws (Refuses (reason_for fault))
  price_fault fault h =
      let j = length r.prices in
      spelling_fault (IsRow (minutes_line i) j (price_count (task_of i j)) ws) (minutes_line i j) (AreNumbers IsPrice (price_count (task_of i j))) ws fault _
      (subst (λ j. ReadsPrices i j ws (Err fault)) (sym count) h)

  pub price_read : (vs : List ℤ) (prices : MinutePrices) (step : Result SheetStep Refusal) (new : SheetReader) → ReadsPrices i task ws (Ok vs) → prices ≡ r.prices ++ vs ∷ []
      → SheetTells i budget (after_price (record { instance = i; budget = budget; bound = r.bound; prices = prices; tables = [] }) left) step new
      → SheetTells i budget (price_row (sheet_of i budget r []) left ws) step new
  price_read vs prices step new h is told =
      let g : ReadsPrices i (length r.prices) ws (Ok vs) = subst (λ j. ReadsPrices i j ws (Ok vs)) (sym count) h in
      tells_rest i budget (after_price (record { instance = i; budget = budget; bound = r.bound; prices = r.prices ++ vs ∷ []; tables = [] }) left) (price_row (sheet_of i budget r []) left ws) step new
      (λ said others. Holds g.0 (Spelled vs g.1 g.2 others))
      (subst (λ p. SheetTells i budget (after_price (record { instance = i; budget = budget; bound = r.bound; prices = p; tables = [] }) left) step new) is told)

-- the reader with these prices
abbrev pub with_prices : SheetReader → MinutePrices → SheetReader
with_prices r p = record r { prices = p }

abbrev pub MorePrices : Type 0
MorePrices = (i : Instance) (p : MinutePrices) (vs : List ℤ) → ArePriced i p → AreNumbers IsPrice (price_count (task_of i (length p))) vs → ArePriced i (p ++ vs ∷ [])

pub has_more : MorePrices → (i : Instance) (old new : SheetReader) (task : ℕ) (vs : List ℤ) → HasPrices i old task → task < length i.tasks → AreNumbers IsPrice (price_count (task_of i task)) vs
    → new ≡ record old { prices = old.prices ++ vs ∷ [] } → HasPrices i new (task + 1)
has_more law i old new task vs has known fits is = subst (λ r. HasPrices i r (task + 1)) (sym is) (record {
  roomy = record { room = has.roomy.room; possible = has.roomy.possible };
  prices = law i old.prices vs has.prices (subst (λ j. AreNumbers IsPrice (price_count (task_of i j)) vs) (sym has.count) fits);
  count = length-append old.prices (vs ∷ []) ∙ ap (λ n. n + 1) has.count;
  few = omega arith;
  none = has.none;
})

-- ---- what is due behind the prices

pub price_due : (i : Instance) (budget : ℕ) (r : SheetReader) (tasks left : ℕ) → HasPrices i r tasks → tasks + left ≡ length i.tasks → tasks < length i.tasks
    → SheetTells i budget (after_price (sheet_of i budget r []) left) (Ok More) (record r { due = due.Price tasks })
price_due i budget r tasks zero has all less = absurd (omega arith)
price_due i budget r tasks (suc left) has all less = (
  Prices (sheet_of i budget r []) left,
  refl,
  record {
    has = record { roomy = record { room = has.roomy.room; possible = has.roomy.possible }; prices = has.prices; count = has.count; few = has.few; none = has.none };
    left = left;
    tasks = all;
    is = refl;
  },
)

-- all prices are read
pub all_prices : ((i : Instance) (p : MinutePrices) → ArePriced i p → length p ≡ length i.tasks → AreMinutePrices i p) → (i : Instance) (r : SheetReader) (tasks : ℕ) → HasPrices i r tasks → length i.tasks ≤ tasks
    → HasWorths i r 0
all_prices law i r tasks has all = record {
  roomy = has.roomy;
  prices = law i r.prices has.prices (let c = has.count in let f = has.few in omega arith);
  count = ap length has.none;
  few = omega arith;
}

pub no_table : (i : Instance) (r : SheetReader) (tasks : ℕ) → HasPrices i r tasks → HasTables i r [] (length i.teams)
no_table i r tasks has = record { worths = has.none; count = omega arith }

-- behind the last prices the first team is due
pub teams_due : (i : Instance) (budget : ℕ) (r new : SheetReader) (step : Result SheetStep Refusal) (tasks left : ℕ) → tasks + left ≡ length i.tasks → length i.tasks ≤ tasks
    → SheetTells i budget (after_team (sheet_of i budget r []) (length i.teams)) step new → SheetTells i budget (after_price (sheet_of i budget r []) left) step new
teams_due i budget r new step tasks left e all told =
    let none : left ≡ 0 = omega arith in
    subst (λ m. SheetTells i budget (after_price (sheet_of i budget r []) m) step new) (sym none) told

-- ---- what is due behind a team

pub worth_due : (i : Instance) (budget : ℕ) (r : SheetReader) (teams left : ℕ) (tables : List Potentials) → HasWorths i r teams → HasTables i r tables left → length tables ≡ teams → teams < length i.teams
    → SheetTells i budget (after_team (sheet_of i budget r tables) left) (Ok More) (record r { due = due.Worth teams })
worth_due i budget r teams zero tables has read count less = let c = read.count in absurd (omega arith)
worth_due i budget r teams (suc left) tables has read count less = (
  Worths (sheet_of i budget r tables) left,
  refl,
  record {
    has = record { roomy = record { room = has.roomy.room; possible = has.roomy.possible }; prices = has.prices; count = has.count; few = has.few };
    tables = tables;
    left = left;
    read = record { worths = read.worths; count = read.count };
    is = refl;
  },
)

-- no team is left
pub bound_due : (i : Instance) (budget : ℕ) (r new : SheetReader) (step : Result SheetStep Refusal) (teams left : ℕ) (tables : List Potentials) → HasTables i r tables left → length tables ≡ teams → length i.teams ≤ teams
    → (HasTables i r tables 0 → SheetTells i budget (after_team (sheet_of i budget r tables) 0) step new) → SheetTells i budget (after_team (sheet_of i budget r tables) left) step new
bound_due i budget r new step teams left tables read count all told =
    let c = read.count in
    let none : left ≡ 0 = omega arith in
    subst (λ m. SheetTells i budget (after_team (sheet_of i budget r tables) m) step new) (sym none) (told (record { worths = read.worths; count = omega arith }))

module _ (i : Instance) (budget : ℕ) (r : SheetReader) (tables : List Potentials) (proved : ℤ) (worths : List ℤ) (read : worths ≡ worths_in tables) (is : proved ≡ minute_bound i r.prices worths) where
  of_tables : proved ≡ minute_bound i r.prices (worths_in tables)
  of_tables = is ∙ ap (minute_bound i r.prices) read

  pub bound_fails : (Proves proved r.bound → ⊥) → after_team (sheet_of i budget r tables) 0 (Refuses Bound)
  bound_fails broken = Fails (λ h. broken (subst (λ x. Proves x r.bound) (sym of_tables) h)) refl

  pub bound_holds : Proves proved r.bound → SheetTells i budget (after_team (sheet_of i budget r tables) 0) (Ok More) (record r { due = due.End })
  bound_holds h = (Ends (sheet_of i budget r tables), Holds (subst (λ x. Proves x r.bound) of_tables h) refl, (tables, refl))
