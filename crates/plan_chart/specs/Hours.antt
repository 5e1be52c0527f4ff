-- the hours that a chart shows
use Rattle.std.specs.Prelude.{◌+◌, ◌/◌, ℕ, zero, suc, length, max, min}
use Rattle.crew_terms.specs.Instance.{Instance, task_of, team_of}
use Rattle.crew_terms.specs.declared.TheConstants.{LAST_MINUTE}
use Rattle.plan_chart.specs.declared.hours.Hours.{Hours}
use Rattle.plan_chart.specs.declared.hours.Span.{Span}

-- a span that has these minutes too
abbrev pub widened : Span → ℕ → ℕ → Span
widened span from until = record { from = min span.from from; until = max span.until until }

-- the span of the shifts of the first teams
abbrev pub shifts_span : Instance → ℕ → Span
shifts_span i zero = record { from = LAST_MINUTE; until = 0 }
shifts_span i (suc k) = widened (shifts_span i k) (team_of i k).from (team_of i k).until

-- the span of all shifts and of the first tasks, each from when it may begin first to when it may end last
abbrev pub windows_span : Instance → ℕ → Span
windows_span i zero = shifts_span i (length i.teams)
windows_span i (suc j) = widened (windows_span i j) (task_of i j).earliest ((task_of i j).latest + (task_of i j).minutes)

-- the whole hours around a span, within the day and the night behind it
abbrev pub whole_hours : Span → Hours
whole_hours span = record { first = min span.from LAST_MINUTE / 60; last = (min span.until LAST_MINUTE + 59) / 60 }

-- the whole hours around all shifts and tasks
unfoldable pub hours_of : Instance → Hours
hours_of i = whole_hours (windows_span i (length i.tasks))
