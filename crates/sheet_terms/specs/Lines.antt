-- the one spelling of a sheet: its lines, each as its words
use Rattle.std.specs.Prelude.{ℕ, suc, ℤ, List, [], ◌∷◌, ◌++◌, map, codes, if◌then◌else◌}
use Rattle.std.specs.List.{flat_map}
use Rattle.std.specs.Fmt.{decimal, signed_decimal}
use Rattle.crew_terms.specs.Words.{Words, line_text}
use Rattle.crew_terms.specs.Instance.{Instance, task_of}
use Rattle.crew_terms.specs.Limits.{root_limits}
use Rattle.dossier_terms.specs.declared.DossierForm.TheVariants.{Two}
use Rattle.dossier_terms.specs.Lines.{instance_lines, frozen_lines, table_lines, end_line}
use Rattle.squeeze_terms.specs.MinutePrices.{MinutePrices, is_joint}
use Rattle.sheet_terms.specs.Sheet.{Sheet}

-- the first line of a sheet
abbrev pub squeeze_line : Words
squeeze_line = codes "crew" ∷ codes "squeeze" ∷ codes "1" ∷ []

-- how many tasks every legal plan leaves unassigned at least
abbrev pub bound_line : ℕ → Words
bound_line l = codes "bound" ∷ decimal l ∷ []

-- the first word of the line of a task's prices: a joint task has one for each minute
abbrev pub price_word : Instance → ℕ → List ℕ
price_word i j = if is_joint (task_of i j) then codes "clock" else codes "price"

-- the prices of task j
abbrev pub minutes_line : Instance → ℕ → List ℤ → Words
minutes_line i j vs = price_word i j ∷ decimal j ∷ map signed_decimal vs

-- the lines of the prices of the tasks from j on
abbrev pub minutes_lines : Instance → ℕ → MinutePrices → List Words
minutes_lines i j [] = []
minutes_lines i j (vs ∷ p) = minutes_line i j vs ∷ minutes_lines i (suc j) p

-- the lines of a sheet
abbrev pub lines_of_sheet : Sheet → List Words
lines_of_sheet s = squeeze_line ∷ (instance_lines s.instance s.budget ++ frozen_lines Two s.instance.frozen
    ++ bound_line s.bound ∷ (minutes_lines s.instance 0 s.prices ++ table_lines Two (root_limits s.instance) 0 s.tables ++ end_line ∷ []))

-- the one spelling of a sheet
abbrev pub text_of_sheet : Sheet → List ℕ
text_of_sheet s = flat_map line_text (lines_of_sheet s)

-- what is written for a good sheet
abbrev pub yes_bound_line : ℕ → List ℕ
yes_bound_line l = line_text (codes "yes" ∷ codes "bound" ∷ decimal l ∷ [])
