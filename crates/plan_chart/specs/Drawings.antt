-- what is drawn of a plan, as text
use Rattle.std.specs.Prelude.{◌+◌, ◌*◌, ◌-◌, ◌++◌, ℕ, List, [], ◌∷◌, Option, codes, length}
use Rattle.std.specs.List.{flat_map, range_with_len}
use Rattle.std.specs.Fmt.{decimal}
use Rattle.crew_terms.specs.Instance.{Instance}
use Rattle.crew_terms.specs.Plan.{Plan}
use Rattle.each_out.specs.Pieces.{joined}
use Rattle.plan_chart.specs.Hours.{hours_of}
use Rattle.plan_chart.specs.Rows.{open_top}
use Rattle.plan_chart.specs.declared.hours.Hours.{Hours}
use Rattle.round_changes.specs.Named.{RoundByNames}
use Rattle.plan_chart.specs.RowTexts.{hour_line, link_text, open_row, shift_row}
use Rattle.plan_chart.specs.Jobs.{job_text}
use Rattle.plan_chart.specs.declared.drawings.TheConstants.{EDGE, FOOT, NAMES}

-- how wide a chart with these hours is
abbrev pub width_of : Hours → ℕ
width_of hours = (hours.last * 60 - hours.first * 60) + NAMES + EDGE

-- how high a chart is
abbrev pub bottom_of : Instance → Plan → ℕ
bottom_of i p = open_top i p (length p) + FOOT

-- the frame of a chart with these hours: what is behind it has the minutes of the day as its x
unfoldable pub frame_of : Hours → ℕ → List ℕ
frame_of hours bottom = joined (
    (10 ∷ codes "<div><svg viewBox='-60 0 ") ∷ decimal (width_of hours) ∷ codes " " ∷ decimal bottom ∷ codes "' width='" ∷ decimal (2 * width_of hours)
    ∷ codes "' height='" ∷ decimal (2 * bottom) ∷ codes "'><g transform='translate(-" ∷ decimal (hours.first * 60) ∷ codes ")'>" ∷ [])

-- the lines of these hours
abbrev pub hours_text : Hours → ℕ → List ℕ
hours_text hours bottom = flat_map (λ k. hour_line bottom ((hours.first + k) * 60)) (range_with_len 0 (hours.last + 1 - hours.first))

-- what lies under the jobs: a shift for each team, the hours, and the lines between teams that share a job
unfoldable pub ground_of : Instance → Plan → Hours → ℕ → List ℕ
ground_of i p hours bottom =
    (flat_map (shift_row i (hours.first * 60)) (range_with_len 0 (length i.teams)) ++ hours_text hours bottom) ++ flat_map (link_text p) (range_with_len 0 (length p))

-- the jobs, and the open tasks
unfoldable pub work_of : Instance → Plan → Option RoundByNames → RoundByNames → ℕ → List ℕ
work_of i p before now left =
    flat_map (job_text i p before now) (range_with_len 0 (length i.tasks)) ++ flat_map (open_row i p left) (range_with_len 0 (length i.tasks))

-- all of it, with these hours
abbrev pub drawn_over : Instance → Plan → Option RoundByNames → RoundByNames → Hours → List ℕ
drawn_over i p before now hours = (frame_of hours (bottom_of i p) ++ ground_of i p hours (bottom_of i p)) ++ work_of i p before now (hours.first * 60)

unfoldable pub drawing_of : Instance → Plan → Option RoundByNames → RoundByNames → List ℕ
drawing_of i p before now = drawn_over i p before now (hours_of i)
