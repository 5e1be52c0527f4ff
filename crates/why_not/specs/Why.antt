-- why tasks are open: for each of them what is in the way of each team, minute by minute
use Rattle.std.specs.Prelude.{◌+◌, ◌-◌, ◌&&◌, ◌++◌, ◌∷◌, [], ℕ, Bool, true, false, List, Option, None, Some, codes, filter, length, map, nat_eq, not, if◌then◌else◌}
use Rattle.std.specs.List.{flat_map, range_with_len}
use Rattle.std.specs.Fmt.{decimal}
use Rattle.crew_terms.specs.Words.{Words, line_text}
use Rattle.crew_terms.specs.Instance.{Instance, team_of, task_of}
use Rattle.crew_terms.specs.Plan.{Plan, unassigned_count}
use Rattle.field_table.specs.Clocks.{clock_text}
use Rattle.roster_print.specs.Roster.{unassigned_tasks}
use Rattle.team_days.specs.Obstacles.{obstacle_of}
use Rattle.team_days.specs.declared.obstacles.Obstacle.{Obstacle}
use Rattle.team_days.specs.declared.obstacles.Obstacle.TheVariants.{Free, Skill, Shift, Busy}
use Rattle.why_not.specs.Fits.{first_fit, free_count, obstacles_at}

-- ---- when the obstacles change

-- two obstacles are the same
abbrev pub is_same : Obstacle → Obstacle → Bool
is_same Free Free = true
is_same Free Skill = false
is_same Free Shift = false
is_same Free (Busy h) = false
is_same Skill Free = false
is_same Skill Skill = true
is_same Skill Shift = false
is_same Skill (Busy h) = false
is_same Shift Free = false
is_same Shift Skill = false
is_same Shift Shift = true
is_same Shift (Busy h) = false
is_same (Busy g) Free = false
is_same (Busy g) Skill = false
is_same (Busy g) Shift = false
is_same (Busy g) (Busy h) = nat_eq g h

-- the obstacles of each team are the same in two rows
abbrev pub are_same : List Obstacle → List Obstacle → Bool
are_same [] [] = true
are_same [] (b ∷ bs) = false
are_same (a ∷ others) [] = false
are_same (a ∷ others) (b ∷ bs) = is_same a b && are_same others bs

-- at minute t some team's obstacle is another one than a minute before
unfoldable pub changes_at : Instance → Plan → ℕ → ℕ → Bool
changes_at i p j t = not (are_same (obstacles_at i p j (t - 1)) (obstacles_at i p j t))

-- ---- lines

-- how many tasks are unassigned, and how many there are
abbrev pub head_line : Instance → Plan → Words
head_line i p = codes "why" ∷ decimal (unassigned_count p) ∷ decimal (length i.tasks) ∷ []

-- an open task, and how many teams it needs
abbrev pub task_line : Instance → ℕ → Words
task_line i j = codes "open" ∷ (task_of i j).name ∷ decimal (task_of i j).teams ∷ []

-- what is told of a team, behind its name
abbrev pub obstacle_text : Instance → Obstacle → List ℕ
obstacle_text i Free = codes "=free"
obstacle_text i Skill = codes "=skill"
obstacle_text i Shift = codes "=shift"
obstacle_text i (Busy h) = codes "=busy:" ++ (task_of i h).name

-- team k, and what keeps it from task j at minute t
unfoldable pub team_word : Instance → Plan → ℕ → ℕ → ℕ → List ℕ
team_word i p j t k = (team_of i k).name ++ obstacle_text i (obstacle_of i p k j t)

-- the first and the last minute of a run, how many teams are free then, and what keeps each team
unfoldable pub run_words : Instance → Plan → ℕ → ℕ → ℕ → Words
run_words i p j first last =
    [] ∷ [] ∷ clock_text first ∷ clock_text last ∷ codes "free" ∷ decimal (free_count i p j first)
    ∷ map (team_word i p j first) (range_with_len 0 (length i.teams))

-- the runs of task j: the one that begins at this minute, and those that begin at these; each lasts until the next begins,
-- the last one until the window ends
unfoldable pub runs_from : Instance → Plan → ℕ → ℕ → List ℕ → List Words
runs_from i p j first [] = run_words i p j first (task_of i j).latest ∷ []
runs_from i p j first (next ∷ others) = run_words i p j first (next - 1) ∷ runs_from i p j next others

-- the line of the run that began at minute `first`, if minute t ends it
abbrev pub ended_run : Instance → Plan → ℕ → ℕ → ℕ → List ℕ
ended_run i p j first t = if changes_at i p j t then line_text (run_words i p j first (t - 1)) else []

-- where the run begins that minute t is in, behind one that began at minute `first`
abbrev pub run_start : Instance → Plan → ℕ → ℕ → ℕ → ℕ
run_start i p j first t = if changes_at i p j t then t else first

-- the minutes from t on, to the end of the window, at which the obstacles change
abbrev pub changes_from : Instance → Plan → ℕ → ℕ → List ℕ
changes_from i p j t = filter (changes_at i p j) (range_with_len t ((task_of i j).latest + 1 - t))

-- the longest runs of minutes of the window of task j at which no team's obstacle changes
abbrev pub run_lines : Instance → Plan → ℕ → List Words
run_lines i p j = runs_from i p j (task_of i j).earliest (changes_from i p j ((task_of i j).earliest + 1))

-- the line of the first minute that fits, or that none does
abbrev pub fit_line : Option ℕ → Words
fit_line None = [] ∷ [] ∷ codes "none" ∷ codes "fits" ∷ []
fit_line (Some t) = [] ∷ [] ∷ codes "fits" ∷ clock_text t ∷ []

-- an open task
unfoldable pub task_text : Instance → Plan → ℕ → List ℕ
task_text i p j = (line_text (task_line i j) ++ flat_map line_text (run_lines i p j)) ++ line_text (fit_line (first_fit i p j))

-- why the plan's unassigned tasks are open
unfoldable pub why_text : Instance → Plan → List ℕ
why_text i p = line_text (head_line i p) ++ flat_map (task_text i p) (unassigned_tasks p)
