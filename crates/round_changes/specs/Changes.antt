-- what is different in a round, by names
use Rattle.std.specs.Prelude.{◌==◌, ◌&&◌, ℕ, Bool, true, false, List, length, Option, count_by, find, is_none, if◌then◌else◌}
use Rattle.std.specs.List.{list_all, list_any}
use Rattle.std.specs.Option.{option_map_or}
use Rattle.std.specs.Str.{bytes_eq}
use Rattle.round_changes.specs.Named.{JobByNames, RoundByNames}
use Rattle.round_changes.specs.declared.changes.Change.{Change}
use Rattle.round_changes.specs.declared.changes.Change.TheVariants.{Kept, Moved, Others, New}
use Rattle.round_changes.specs.declared.changes.Counts.{Counts}

-- a name is one of these
abbrev pub has_name : List (List ℕ) → List ℕ → Bool
has_name names name = list_any (λ n. bytes_eq n name) names

-- the same teams in any order: as many, and each of the first is one of the others; the names in each list differ
unfoldable pub same_teams : List (List ℕ) → List (List ℕ) → Bool
same_teams xs ys = (length xs == length ys) && list_all (has_name ys) xs

-- the job of the task of this name
abbrev pub job_named : List JobByNames → List ℕ → Option JobByNames
job_named jobs name = find (λ (job : JobByNames). bytes_eq job.task name) jobs

-- a task has a job in both rounds: it is as it was, or begins at another minute, or at the same minute with other teams
abbrev pub change_between : JobByNames → JobByNames → Change
change_between before now = if before.start == now.start then (if same_teams before.teams now.teams then Kept else Others) else Moved

-- a job now, and the job of its task in the round before, if it had one there
abbrev pub change_from : Option JobByNames → JobByNames → Change
change_from before now = option_map_or (λ job. change_between job now) before New

-- a job now, behind these jobs of the round before
abbrev pub change_of : List JobByNames → JobByNames → Change
change_of before now = change_from (job_named before now.task) now

-- the task of a job of the round before has none now
abbrev pub is_gone : List JobByNames → JobByNames → Bool
is_gone now before = is_none (job_named now before.task)

-- the same kind of change
abbrev pub is_same : Change → Change → Bool
is_same Kept Kept = true
is_same Moved Moved = true
is_same Others Others = true
is_same New New = true
is_same a b = false

-- how many jobs now are changed in this way
abbrev pub changed_count : Change → RoundByNames → RoundByNames → ℕ
changed_count change before now = count_by (λ job. is_same (change_of before.jobs job) change) now.jobs

-- how many jobs of the round before are gone
abbrev pub gone_count : RoundByNames → RoundByNames → ℕ
gone_count before now = count_by (is_gone now.jobs) before.jobs

-- how many jobs are as they were, begin at another minute, are done by other teams, are new, and are gone
unfoldable pub counts_of : RoundByNames → RoundByNames → Counts
counts_of before now = record {
  kept = changed_count Kept before now;
  moved = changed_count Moved before now;
  others = changed_count Others before now;
  new = changed_count New before now;
  gone = gone_count before now;
}
