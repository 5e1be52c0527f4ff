-- the bars of jobs
use Rattle.std.specs.Prelude.{◌+◌, ◌-◌, ◌++◌, ℕ, List, [], ◌∷◌, codes}
use Rattle.std.specs.Fmt.{decimal}
use Rattle.crew_terms.specs.Instance.{Instance, task_of}
use Rattle.crew_terms.specs.Plan.{Plan}
use Rattle.crew_terms.specs.declared.Task.{Task}
use Rattle.each_out.specs.Pieces.{joined}
use Rattle.plan_chart.specs.Rows.{row_top}
use Rattle.plan_chart.specs.Ways.{minutes_to}
use Rattle.plan_chart.specs.Looks.{change_sign, fixed_sign}
use Rattle.plan_chart.specs.declared.bars.TheConstants.{MIDDLE}
use Rattle.plan_chart.specs.declared.looks.Look.{Look}

-- a thin line over these minutes, up to the start
unfoldable pub way_of : ℕ → ℕ → ℕ → List ℕ
way_of top start minutes = joined (
    (10 ∷ codes "<rect class='way' x='") ∷ decimal (start - minutes) ∷ codes "' y='" ∷ decimal (top + MIDDLE) ∷ codes "' width='" ∷ decimal minutes
    ∷ codes "' height='1'/>" ∷ [])

-- the bar: its x is the start, and its width the task's minutes
unfoldable pub box_of : Look → ℕ → Task → ℕ → List ℕ
box_of look top task start = joined (
    (10 ∷ codes "<svg x='") ∷ decimal start ∷ codes "' y='" ∷ decimal (top + 1) ∷ codes "' width='" ∷ decimal task.minutes
    ∷ codes "' height='9'><rect width='100%' height='100%'/>" ∷ fixed_sign look.fixed ∷ codes "<text x='1' y='7'>" ∷ task.name ∷ codes "</text>"
    ∷ change_sign look.change ∷ codes "</svg>" ∷ [])

-- the way of team k to task j, and the bar in the team's row
abbrev pub bar_of : Instance → Plan → Look → ℕ → ℕ → ℕ → List ℕ
bar_of i p look j start k = way_of (row_top k) start (minutes_to i p k j start) ++ box_of look (row_top k) (task_of i j) start
