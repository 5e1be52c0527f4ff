-- rows by their runs
use Rattle.std.proofs.Common.{◌≡◌, ◌<◌, ◌≤◌, ◌+◌, ◌-◌, ℕ, ℤ, List, length, sym, refl, arith}
use Rattle.std.specs.List.{AllByRecursion}
use Rattle.crew_terms.specs.declared.TheConstants.{LAST_MINUTE}
use Rattle.dossier_terms.specs.Dossier.{IsSigned}
use Rattle.dossier_terms.specs.Ranges.{IsStepsLine}
use Rattle.dossier_terms.specs.RunLengths.{values_length}
use Rattle.dossier_terms.specs.Runs.{Run, AreRuns, runs_of, values_of}
use Rattle.dossier_laws.specs.Law.{AreRunsOfRow}
use Rattle.dossier_laws.proofs.Runs.{they_are_runs, some_runs, runs_below, runs_in, runs_again, values_again, values_in}

pub row_read : (first past : ℕ) (runs : List Run) → AreRuns first past runs → IsStepsLine runs → first < past → AreRunsOfRow first past runs (values_of past runs)
row_read first past runs are line some = record {
  count = (let e = values_length first past runs are in omega arith);
  signed = values_in IsSigned past runs line.numbers;
  runs_are = are;
  line = line;
  runs_again = sym (runs_again first past runs are some);
  row_again = refl;
}

pub row_written : (first : ℕ) (row : List ℤ) → AllByRecursion IsSigned row → 0 < length row → first + length row ≤ LAST_MINUTE + 1 → AreRunsOfRow first (first + length row) (runs_of first row) row
row_written first row signed some day =
    let past : ℕ = first + length row in
    let are : AreRuns first past (runs_of first row) = they_are_runs past first row refl some in
    record {
      count = refl;
      signed = signed;
      runs_are = are;
      line = record { some = some_runs first past (runs_of first row) are; minutes = runs_below first past LAST_MINUTE (runs_of first row) are (omega arith) (omega arith); numbers = runs_in IsSigned first row signed };
      runs_again = refl;
      row_again = sym (values_again past first row refl);
    }
