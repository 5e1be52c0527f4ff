-- the chart of a round, as text
use Rattle.std.specs.Prelude.{◌++◌, ℕ, List, [], ◌∷◌, Option, codes, length}
use Rattle.crew_terms.specs.Instance.{Instance}
use Rattle.crew_terms.specs.Plan.{Plan, unassigned_count}
use Rattle.each_out.specs.Pieces.{joined}
use Rattle.round_changes.specs.Named.{RoundByNames}
use Rattle.plan_chart.specs.Drawings.{drawing_of}
use Rattle.plan_chart.specs.Headings.{heading_of}

-- the end of a chart
unfoldable pub chart_end : List ℕ
chart_end = joined ((10 ∷ codes "</g></svg></div>" ++ 10 ∷ codes "</section>") ∷ [])

-- the chart of a round: its number, the bound, what is kept of the round before and of this one, the instance and the plan
unfoldable pub chart_text : ℕ → ℕ → Option RoundByNames → RoundByNames → Instance → Plan → List ℕ
chart_text round bound before now i p =
    (heading_of round (unassigned_count p) (length i.tasks) bound before now ++ drawing_of i p before now) ++ chart_end
