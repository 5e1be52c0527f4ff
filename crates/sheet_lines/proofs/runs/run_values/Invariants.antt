use Rattle.std.proofs.Common.{◌≡◌, ◌++◌, List, drop}
use Rattle.std.specs.List.{flat_map}
use Rattle.dossier_terms.specs.Runs.{Run, values_of}
use Rattle.line_in.specs.Fields.{run_numbers}
use Rattle.sheet_lines.proofs.runs.run_values.Given as goal

abbrev pub invariant-loop-n : goal.invariant-loop-n
invariant-loop-n l = (runs : List Run) → l.pairs ≡ flat_map run_numbers runs → l.row.items ++ values_of l.past (drop l.n runs) ≡ values_of l.past runs
