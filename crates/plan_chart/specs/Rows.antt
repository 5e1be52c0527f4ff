-- where the rows of a chart are
use Rattle.std.specs.Prelude.{◌+◌, ◌*◌, ℕ, count_by, is_none, length, take}
use Rattle.crew_terms.specs.Instance.{Instance}
use Rattle.crew_terms.specs.Plan.{Plan}
use Rattle.plan_chart.specs.declared.rows.TheConstants.{GAP, ROW, TOP}

-- how far down a row begins
abbrev pub row_top : ℕ → ℕ
row_top row = TOP + ROW * row

-- how far down the row of open task j begins: below the teams and the open tasks before it
abbrev pub open_top : Instance → Plan → ℕ → ℕ
open_top i p j = row_top (length i.teams) + ROW * count_by is_none (take j p) + GAP
