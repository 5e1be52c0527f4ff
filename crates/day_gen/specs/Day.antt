-- the day with a number
use Rattle.std.specs.Prelude.{ℕ, zero, suc, ◌+◌, ◌*◌, ◌^◌, ◌==◌, ◌++◌, List, [], ◌∷◌, bit_or, codes, if◌then◌else◌}
use Rattle.std.specs.Fmt.{decimal}
use Rattle.rand_pcg.specs.Lcg.{Lcg}
use Rattle.day_terms.specs.declared.Entry.{Entry}
use Rattle.day_terms.specs.declared.Entry.TheVariants.{Place, Travel, Team, Task, Plan}
use Rattle.day_gen.specs.Draws.{generator_of, draw, after}

-- the names: P0, P1 ..; T0, T1 ..; J0, J1 ..
abbrev pub place_name : ℕ → List ℕ
place_name n = codes "P" ++ decimal n

abbrev pub team_name : ℕ → List ℕ
team_name k = codes "T" ++ decimal k

abbrev pub task_name : ℕ → List ℕ
task_name j = codes "J" ++ decimal j

-- so many places, from place n on
abbrev pub place_entries : ℕ → ℕ → List Entry
place_entries n zero = []
place_entries n (suc more) = Place (place_name n) ∷ place_entries (n + 1) more

-- each two of 6 places, by the first and then by the second
unfoldable pub ways : List (ℕ × ℕ)
ways =
    (0, 1) ∷ (0, 2) ∷ (0, 3) ∷ (0, 4) ∷ (0, 5)
    ∷ (1, 2) ∷ (1, 3) ∷ (1, 4) ∷ (1, 5)
    ∷ (2, 3) ∷ (2, 4) ∷ (2, 5)
    ∷ (3, 4) ∷ (3, 5)
    ∷ (4, 5) ∷ []

-- for each of these ways a time of 5 to 15 minutes, which is one draw
abbrev pub travel_entries : Lcg → List (ℕ × ℕ) → List Entry
travel_entries g [] = []
travel_entries g (way ∷ later) = Travel (place_name way.0) (place_name way.1) (5 + draw g 11) ∷ travel_entries (after 1 g) later

-- team k: at home in P0, with a shift of 8 hours from a full hour from 6 to 9, and two skills of 3, which may be the same:
-- the first draw is the hour, and the next two are the skills
abbrev pub team_entry : Lcg → ℕ → Entry
team_entry g k =
    let from = 360 + 60 * draw g 4 in
    Team (team_name k) (place_name 0) from (from + 480) (bit_or (2 ^ draw (after 1 g) 3) (2 ^ draw (after 2 g) 3))

-- so many teams, from team k on
abbrev pub team_entries : Lcg → ℕ → ℕ → List Entry
team_entries g k zero = []
team_entries g k (suc more) = team_entry g k ∷ team_entries (after 3 g) (k + 1) more

-- task j: the first draw is its place, the next ones are its earliest start, how much later the latest is, its
-- minutes, whether it needs two teams or one, and whether it needs a skill; if so, one more is that skill
abbrev pub task_entry : Lcg → ℕ → Entry
task_entry g j =
    let earliest = 360 + draw (after 1 g) 541 in
    let teams = if draw (after 4 g) 4 == 0 then 2 else 1 in
    let skills = if draw (after 5 g) 2 == 0 then 0 else 2 ^ draw (after 6 g) 3 in
    Task (task_name j) (place_name (draw g 6)) earliest (earliest + draw (after 2 g) 61) (20 + draw (after 3 g) 41) teams skills

-- how many draws a task takes
abbrev pub task_draws : Lcg → ℕ
task_draws g = if draw (after 5 g) 2 == 0 then 6 else 7

-- so many tasks, from task j on
abbrev pub task_entries : Lcg → ℕ → ℕ → List Entry
task_entries g j zero = []
task_entries g j (suc more) = task_entry g j ∷ task_entries (after (task_draws g) g) (j + 1) more

-- the entries of the day: its 6 places, the 15 ways between them, the teams, the tasks, and one plan
unfoldable pub generated_day : ℕ → ℕ → ℕ → ℕ → List Entry
generated_day number teams tasks nodes =
    let g = generator_of number in
    place_entries 0 6
    ++ travel_entries g ways
    ++ team_entries (after 15 g) 0 teams
    ++ task_entries (after (3 * teams) (after 15 g)) 0 tasks
    ++ Plan nodes ∷ []
