-- the numbers of a generated day are in their ranges
use Rattle.std.proofs.Common.{◌≤◌, ◌<◌, ◌+◌, ◌*◌, ◌==◌, ◌∷◌, ◌++◌, [], ℕ, zero, suc, List, Bool, true, false, arith}
use Rattle.std.specs.Prelude.{All, if◌then◌else◌}
use Rattle.std.proofs.lemmas.List.Elements.{All-cons, All-nil, All-append}
use Rattle.crew_terms.specs.declared.TheConstants.{MOST_NODES}
use Rattle.day_terms.specs.declared.Entry.TheVariants.{Place, Plan}
use Rattle.day_terms.specs.Ranges.{IsInRange}
use Rattle.rand_pcg.specs.Lcg.{Lcg}
use Rattle.day_gen.specs.Draws.{draw, after, generator_of}
use Rattle.day_gen.specs.Day.{place_name, place_entries, ways, travel_entries, team_entry, team_entries, task_entry, task_draws, task_entries, generated_day}

pub draw_below : (g : Lcg) (k : ℕ) → 0 < k → draw g k < k
unfolding draw
draw_below g k some = omega arith

places : (n more : ℕ) → All IsInRange (place_entries n more)
places n zero = All-nil IsInRange
places n (suc more) = All-cons IsInRange (Place (place_name n)) (place_entries (n + 1) more) tt (places (n + 1) more)

travels : (g : Lcg) (left : List (ℕ × ℕ)) → All IsInRange (travel_entries g left)
travels g [] = All-nil IsInRange
travels g (way ∷ left) = All-cons IsInRange _ (travel_entries (after 1 g) left) (let b = draw_below g 11 (omega arith) in omega arith) (travels (after 1 g) left)

teams_in : (g : Lcg) (k n : ℕ) → All IsInRange (team_entries g k n)
teams_in g k zero = All-nil IsInRange
teams_in g k (suc n) =
    let b : draw g 4 < 4 = draw_below g 4 (omega arith) in
    All-cons IsInRange (team_entry g k) (team_entries (after 3 g) (k + 1) n) (omega arith, omega arith) (teams_in (after 3 g) (k + 1) n)

one_or_two : (b : Bool) → (if b then 2 else 1) ≤ 2
one_or_two true = omega arith
one_or_two false = omega arith

tasks_in : (g : Lcg) (j n : ℕ) → All IsInRange (task_entries g j n)
tasks_in g j zero = All-nil IsInRange
tasks_in g j (suc n) =
    let a : draw (after 1 g) 541 < 541 = draw_below (after 1 g) 541 (omega arith) in
    let b : draw (after 2 g) 61 < 61 = draw_below (after 2 g) 61 (omega arith) in
    let d : draw (after 3 g) 41 < 41 = draw_below (after 3 g) 41 (omega arith) in
    let r : (if draw (after 4 g) 4 == 0 then 2 else 1) ≤ 2 = one_or_two (draw (after 4 g) 4 == 0) in
    All-cons IsInRange (task_entry g j) (task_entries (after (task_draws g) g) (j + 1) n)
    (record { earliest_minute = omega arith; latest_minute = omega arith; duration = record { some = omega arith; day = omega arith }; count = omega arith })
    (tasks_in (after (task_draws g) g) (j + 1) n)

pub day_in_range : (number teams tasks nodes : ℕ) → nodes ≤ MOST_NODES → All IsInRange (generated_day number teams tasks nodes)
unfolding generated_day
day_in_range number teams tasks nodes few =
    let g = generator_of number in
    let ground = place_entries 0 6 ++ travel_entries g ways in
    let with_teams = ground ++ team_entries (after 15 g) 0 teams in
    let with_tasks = with_teams ++ task_entries (after (3 * teams) (after 15 g)) 0 tasks in
    All-append IsInRange with_tasks (Plan nodes ∷ [])
    (All-append IsInRange with_teams (task_entries (after (3 * teams) (after 15 g)) 0 tasks)
    (All-append IsInRange ground (team_entries (after 15 g) 0 teams)
    (All-append IsInRange (place_entries 0 6) (travel_entries g ways) (places 0 6) (travels g ways))
    (teams_in (after 15 g) 0 teams))
    (tasks_in (after (3 * teams) (after 15 g)) 0 tasks))
    (All-cons IsInRange (Plan nodes) [] few (All-nil IsInRange))
