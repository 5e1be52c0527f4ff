use Rattle.std.proofs.Common.{◌≡◌, ◌<◌, ℕ, List}
use Rattle.std.specs.List.{flat_map}
use Rattle.dossier_terms.specs.Runs.{Run}
use Rattle.line_in.specs.Fields.{run_numbers}
use Rattle.leaf_check.specs.Runs.{GoesOn}
use Rattle.leaf_check.proofs.runs.are_runs.Given as goal

abbrev pub invariant-loop-n : goal.invariant-loop-n
invariant-loop-n l = (runs : List Run) → l.pairs ≡ flat_map run_numbers runs → (k : ℕ) → k < l.n → GoesOn l.past runs k
