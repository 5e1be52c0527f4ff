-- the roster of a plan: for each team what it does, and the tasks that nobody does
use Rattle.std.specs.Prelude.{◌+◌, ◌==◌, ◌&&◌, ℕ, Bool, false, List, [], ◌∷◌, ◌++◌, length, codes, filter, is_none, map, nat_lt, not, slice_index_or, if◌then◌else◌}
use Rattle.std.specs.List.{flat_map, list_any, range_with_len}
use Rattle.std.specs.Option.{option_map_or}
use Rattle.std.specs.Fmt.{decimal}
use Rattle.crew_terms.specs.Words.{Words, line_text}
use Rattle.crew_terms.specs.Instance.{Instance, team_of, task_of}
use Rattle.crew_terms.specs.Plan.{Plan, Job, job_of, unassigned_count}
use Rattle.crew_terms.specs.declared.TheConstants.{LAST_MINUTE}
use Rattle.field_table.specs.Clocks.{clock_text}

-- how many tasks are unassigned, and how many there are
abbrev pub summary_line : Instance → Plan → Words
summary_line i p = codes "roster" ∷ decimal (unassigned_count p) ∷ decimal (length i.tasks) ∷ []

-- team k and its shift
unfoldable pub shift_line : Instance → ℕ → Words
shift_line i k = codes "team" ∷ (team_of i k).name ∷ clock_text (team_of i k).from ∷ clock_text (team_of i k).until ∷ []

-- by whom team k is joined, where a task has several teams
unfoldable pub partner_words : Instance → ℕ → List ℕ → Words
partner_words i k teams =
    if nat_lt 1 (length teams) then codes "with" ∷ map (λ g. (team_of i g).name) (filter (λ g. not (g == k)) teams) else []

-- task j, as team k does it: from when until when, what, where, and with whom; two blanks set it off
abbrev pub turn_words : Instance → ℕ → ℕ → Job → Words
turn_words i k j job =
    [] ∷ [] ∷ clock_text job.start ∷ clock_text (job.start + (task_of i j).minutes)
    ∷ (task_of i j).name ∷ slice_index_or i.places (task_of i j).place []
    ∷ partner_words i k job.teams

-- the line of task j, if it has a job, among those of team k
unfoldable pub turn_line : Instance → Plan → ℕ → ℕ → Words
turn_line i p k j = option_map_or (turn_words i k j) (job_of p j) []

-- team k begins task j at minute t
abbrev pub begins_at : Plan → ℕ → ℕ → ℕ → Bool
begins_at p k t j = option_map_or (λ job. (job.start == t) && list_any (λ g. g == k) job.teams) (job_of p j) false

-- what team k begins before minute m, by start: at each minute the tasks that it begins then, of which a legal plan has one
unfoldable pub tasks_before : Plan → ℕ → ℕ → List ℕ
tasks_before p k m = flat_map (λ t. filter (begins_at p k t) (range_with_len 0 (length p))) (range_with_len 0 m)

-- what team k does, by start
unfoldable pub tasks_in_turn : Plan → ℕ → List ℕ
tasks_in_turn p k = tasks_before p k (LAST_MINUTE + 1)

-- the lines of team k
unfoldable pub team_lines : Instance → Plan → ℕ → List Words
team_lines i p k = shift_line i k ∷ map (turn_line i p k) (tasks_in_turn p k)

-- a task that nobody does
abbrev pub open_line : Instance → ℕ → Words
open_line i j = codes "open" ∷ (task_of i j).name ∷ []

-- task j has no job
abbrev pub is_unassigned : Plan → ℕ → Bool
is_unassigned p j = is_none (job_of p j)

-- the tasks that nobody does
abbrev pub unassigned_tasks : Plan → List ℕ
unassigned_tasks p = filter (is_unassigned p) (range_with_len 0 (length p))

-- the lines of the roster
abbrev pub roster_lines : Instance → Plan → List Words
roster_lines i p = summary_line i p ∷ flat_map (team_lines i p) (range_with_len 0 (length i.teams)) ++ map (open_line i) (unassigned_tasks p)

-- the roster of the plan
unfoldable pub roster_text : Instance → Plan → List ℕ
roster_text i p = flat_map line_text (roster_lines i p)
