-- what is told of jobs
use Rattle.std.specs.Prelude.{◌+◌, ◌++◌, ℕ, List, [], ◌∷◌, codes, slice_index_or}
use Rattle.std.specs.List.{flat_map}
use Rattle.std.specs.Fmt.{decimal}
use Rattle.crew_terms.specs.Instance.{Instance, task_of, team_of}
use Rattle.crew_terms.specs.declared.Task.{Task}
use Rattle.field_table.specs.Clocks.{clock_text}
use Rattle.each_out.specs.Pieces.{joined}
use Rattle.plan_chart.specs.Looks.{change_said, fixed_said, kind_of}
use Rattle.plan_chart.specs.declared.looks.Look.{Look}

-- what is done where
unfoldable pub what_of : Look → List ℕ → Task → List ℕ
what_of look place task = joined ((10 ∷ codes "<g class='") ∷ kind_of look.joint ∷ decimal look.colour ∷ codes "'><title>" ∷ task.name ∷ codes " at " ∷ place ∷ [])

-- from when until when
unfoldable pub when_of : ℕ → ℕ → List ℕ
when_of start minutes = joined (codes ", " ∷ clock_text start ∷ codes " to " ∷ clock_text (start + minutes) ∷ codes ", by" ∷ [])

-- both
abbrev pub work_of : Look → List ℕ → Task → ℕ → List ℕ
work_of look place task start = what_of look place task ++ when_of start task.minutes

-- the name of team k
unfoldable pub name_of : Instance → ℕ → List ℕ
name_of i k = joined (codes " " ∷ (team_of i k).name ∷ [])

-- whether it is fixed, and what is different about it
unfoldable pub ending_of : Look → List ℕ
ending_of look = joined (fixed_said look.fixed ∷ change_said look.change ∷ codes "</title>" ∷ [])

-- all that is told of the job of task j, which begins at this minute
abbrev pub title_of : Instance → Look → ℕ → ℕ → List ℕ → List ℕ
title_of i look j start teams =
    (work_of look (slice_index_or i.places (task_of i j).place []) (task_of i j) start ++ flat_map (name_of i) teams) ++ ending_of look
