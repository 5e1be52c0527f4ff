-- the numbers that runs stand for, run by run
use Rattle.std.proofs.Common.{◌≡◌, ◌<◌, ◌≤◌, ◌-◌, ◌*◌, ◌++◌, ℕ, zero, suc, ℤ, List, [], ◌∷◌, length, drop, replicate, ap, refl, ◌∙◌, arith}
use Rattle.std.specs.List.{flat_map}
use Rattle.std.proofs.lemmas.List.{drop_all}
use Rattle.dossier_terms.specs.Runs.{Run, values_of}
use Rattle.line_in.specs.Fields.{run_numbers}
use Rattle.leaf_check.specs.Runs.{begin_of_run, number_of_run}

-- runs have two numbers each
pub numbers_length : (runs : List Run) → length (flat_map run_numbers runs) ≡ 2 * length runs
numbers_length [] = refl
numbers_length (r ∷ rs) = let l = numbers_length rs in omega arith

-- the numbers of a run, and of those behind it
pub run_step : (past : ℕ) (runs : List Run) (n : ℕ) → n < length runs
    → values_of past (drop n runs) ≡ replicate (begin_of_run past runs (suc n) - begin_of_run past runs n) (number_of_run runs n) ++ values_of past (drop (suc n) runs)
run_step past [] n l = absurd (omega arith)
run_step past (r ∷ rs) zero l = refl
run_step past (r ∷ rs) (suc n) l = run_step past rs n (omega arith)

pub run_past : (past : ℕ) (runs : List Run) (n : ℕ) → length runs ≤ n → values_of past (drop n runs) ≡ []
run_past past runs n l = ap (values_of past) (drop_all n runs l)
