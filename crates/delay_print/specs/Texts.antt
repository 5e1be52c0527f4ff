-- what is written of late work: how many tasks begin later than planned, and for each the chain of those that it waits for
use Rattle.std.specs.Prelude.{◌≡◌, ◌<◌, ◌-◌, ◌++◌, ℕ, Bool, List, [], ◌∷◌, Option, None, Some, length, codes, is_some, nat_lt, map, option_and_then, if◌then◌else◌}
use Rattle.std.specs.List.{filter, flat_map, range_with_len}
use Rattle.std.specs.Option.{option_map, option_map_or}
use Rattle.std.specs.Fmt.{decimal}
use Rattle.crew_terms.specs.Words.{Words, line_text}
use Rattle.crew_terms.specs.Instance.{Instance, task_of}
use Rattle.crew_terms.specs.Plan.{Plan, Job, job_of, unassigned_count}
use Rattle.delay_wave.specs.declared.waits.Wait.{Wait}
use Rattle.delay_wave.specs.Waits.{chain_of, holder_of, start_of}
use Rattle.delay_wave.specs.Order.{planned_start}

-- the two minutes, where the second is later
abbrev pub later_of : ℕ → ℕ → Option (ℕ × ℕ)
later_of planned real = if nat_lt planned real then Some (planned, real) else None

-- the planned start of task j and the real one, where it begins later than planned
abbrev pub delay_of : Plan → List (Option Wait) → ℕ → Option (ℕ × ℕ)
delay_of p w j = option_and_then (λ planned. option_and_then (later_of planned) (start_of w j)) (planned_start p j)

-- task j begins later than planned
abbrev pub is_late : Plan → List (Option Wait) → ℕ → Bool
is_late p w j = is_some (delay_of p w j)

-- the tasks that begin later than planned
abbrev pub late_tasks : Plan → List (Option Wait) → List ℕ
late_tasks p w = filter (is_late p w) (range_with_len 0 (length p))

-- how many tasks begin later than planned, and how many are assigned
abbrev pub wave_line : Plan → List (Option Wait) → Words
wave_line p w = codes "wave" ∷ decimal (length (late_tasks p w)) ∷ decimal (length p - unassigned_count p) ∷ []

-- the names of tasks
abbrev pub names_of : Instance → List ℕ → Words
names_of i tasks = map (λ j. (task_of i j).name) tasks

-- task j, its planned start and its real one, and the chain to it
abbrev pub delay_words : Instance → List (Option Wait) → ℕ → ℕ × ℕ → Words
delay_words i w j starts = codes "delay" ∷ (task_of i j).name ∷ decimal starts.0 ∷ decimal starts.1 ∷ names_of i (chain_of w j)

-- the line of a task that begins later than planned
unfoldable pub delay_line : Instance → Plan → List (Option Wait) → ℕ → Words
delay_line i p w j = option_map_or (delay_words i w j) (delay_of p w j) []

-- all lines
abbrev pub delay_lines : Instance → Plan → List (Option Wait) → List Words
delay_lines i p w = wave_line p w ∷ map (delay_line i p w) (late_tasks p w)

-- what is written of the waits
unfoldable pub delays_text : Instance → Plan → List (Option Wait) → List ℕ
delays_text i p w = flat_map line_text (delay_lines i p w)

-- whatever holds a task up is a task of the instance
pub record AreKnown (i : Instance) (w : List (Option Wait)) : Type 0 where
  pub whole : length w ≡ length i.tasks
  pub holders : (j h : ℕ) → holder_of w j ≡ Some h → h < length i.tasks
