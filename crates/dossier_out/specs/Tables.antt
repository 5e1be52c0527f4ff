-- the lines of a team in a node
use Rattle.std.specs.Prelude.{◌↔◌, ℕ, nat_lt, Bool, List, ◌∷◌}
use Rattle.crew_terms.specs.Limits.{Limits, IsPermittedVisit}
use Rattle.crew_terms.specs.Minutes.{IsMinuteOf, first_minute, minute_count, open_tasks}
use Rattle.crew_terms.specs.Words.{Words}
use Rattle.dossier_terms.specs.Dossier.{Potentials}
use Rattle.dossier_terms.specs.Lines.{potentials_line, rows_lines, steps_line, worth_line}
use Rattle.dossier_terms.specs.Runs.{runs_of}
use Rattle.dossier_terms.specs.declared.DossierForm.TheVariants.{Two}
use Rattle.potentials.specs.Table.{PotentialRow}
use Rattle.dossier_out.specs.Steps.{row_in}

-- the minutes that are counted are those at which the team may begin the task
abbrev pub MinutesLaw : Type 0
MinutesLaw = (n : Limits) (k j t : ℕ) → IsPermittedVisit n k j t ↔ IsMinuteOf n k j t

-- team k may begin task j at some minute
abbrev pub may_begin : Limits → ℕ → ℕ → Bool
may_begin n k j = nat_lt 0 (minute_count n k j)

-- the line of the table's potentials of task j
abbrev pub row_line : Limits → ℕ → List PotentialRow → ℕ → Words
row_line n k table j = steps_line j (runs_of (first_minute n k j) (row_in n k table j))

-- the lines of team k
abbrev pub team_lines : Limits → ℕ → Potentials → List Words
team_lines n k t = worth_line t.worth ∷ rows_lines (λ j. potentials_line Two (first_minute n k j) j) (open_tasks n k) t.phi
