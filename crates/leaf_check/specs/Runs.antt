-- runs of potentials by their numbers in a line
use Rattle.std.specs.Prelude.{◌≡◌, ◌≢◌, ◌≤◌, ◌<◌, ◌-◌, ℕ, suc, ℤ, pos, List, length, drop, slice_index_or}
use Rattle.std.specs.List.{AllByRecursion, flat_map}
use Rattle.crew_terms.specs.declared.TheConstants.{LAST_MINUTE}
use Rattle.dossier_terms.specs.Runs.{Run, AreRuns, begin_of}
use Rattle.line_in.specs.Fields.{run_numbers}
use Rattle.potentials.specs.Table.{PotentialRow}
use Rattle.leaf_check.specs.Rows.{HasRoomAt}

-- the numbers are those of some runs, each of which begins at a minute of the day
pub record AreRunNumbers (ns : List ℤ) : Type 0 where
  pub runs : List Run
  pub some : 1 ≤ length runs
  pub numbers : ns ≡ flat_map run_numbers runs
  pub minutes : AllByRecursion (λ (r : Run). r.from ≤ LAST_MINUTE) runs

-- it holds of the runs whose numbers these are
abbrev pub OfRuns : List ℤ → (List Run → Type 0) → Type 0
OfRuns ns P = (runs : List Run) → ns ≡ flat_map run_numbers runs → P runs

abbrev pub no_run : Run
no_run = record { from = 0; value = pos 0 }

-- the minute at which run n begins; `past` where there is none
abbrev pub begin_of_run : ℕ → List Run → ℕ → ℕ
begin_of_run past runs n = begin_of past (drop n runs)

-- the number of run n
abbrev pub number_of_run : List Run → ℕ → ℤ
number_of_run runs n = (slice_index_or runs n no_run).value

-- the run behind run n begins later than it and before `past`, with another number
pub record GoesOn (past : ℕ) (runs : List Run) (n : ℕ) : Type 0 where
  pub rises : begin_of_run past runs n < begin_of_run past runs (suc n)
  pub before : begin_of_run past runs (suc n) < past
  pub differs : number_of_run runs (suc n) ≢ number_of_run runs n

-- the table has a potential of task j at each minute of the runs, which end before `past`
pub record CanSetRuns (kept : List PotentialRow) (j past : ℕ) (ns : List ℤ) : Type 0 where
  pub runs : List Run
  pub first : ℕ
  pub some : first < past
  pub numbers : ns ≡ flat_map run_numbers runs
  pub are : AreRuns first past runs
  pub room : HasRoomAt kept j first (past - first)
