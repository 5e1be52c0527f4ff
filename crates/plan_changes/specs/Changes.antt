-- what changed from a round to the next, as text
use Rattle.std.specs.Prelude.{◌+◌, ◌==◌, ◌&&◌, ◌++◌, ℕ, List, [], ◌∷◌, Option, codes, if◌then◌else◌}
use Rattle.std.specs.List.{flat_map, range_with_len}
use Rattle.std.specs.Option.{option_map_or}
use Rattle.std.specs.Fmt.{decimal}
use Rattle.crew_terms.specs.Words.{Words, line_text}
use Rattle.crew_terms.specs.declared.TheConstants.{LAST_MINUTE}
use Rattle.field_table.specs.Clocks.{clock_text}
use Rattle.round_changes.specs.Named.{JobByNames, RoundByNames}
use Rattle.round_changes.specs.Changes.{change_between, counts_of, has_name, is_gone, job_named}
use Rattle.round_changes.specs.declared.changes.Change.{Change}
use Rattle.round_changes.specs.declared.changes.Change.TheVariants.{Kept, Moved, Others, New}
use Rattle.round_changes.specs.declared.changes.Counts.{Counts}

-- the number of the round, and how many jobs are kept and changed
abbrev pub counts_words : ℕ → Counts → Words
counts_words n c =
    codes "round" ∷ decimal n ∷ codes "kept" ∷ decimal c.kept ∷ codes "moved" ∷ decimal c.moved
    ∷ codes "others" ∷ decimal c.others ∷ codes "new" ∷ decimal c.new ∷ codes "gone" ∷ decimal c.gone ∷ []

-- it begins at another minute
abbrev pub moved_words : JobByNames → JobByNames → Words
moved_words before now = now.task ∷ clock_text before.start ∷ codes "to" ∷ clock_text now.start ∷ []

-- other teams do it
abbrev pub others_words : JobByNames → JobByNames → Words
others_words before now = ((now.task ∷ []) ++ before.teams) ++ (codes "to" ∷ now.teams)

-- it is done now
abbrev pub new_words : JobByNames → Words
new_words now = (now.task ∷ codes "done" ∷ codes "now" ∷ clock_text now.start ∷ []) ++ now.teams

-- nobody does it now: it is open, or no task of the round
abbrev pub gone_words : List (List ℕ) → JobByNames → Words
gone_words tasks before =
    if has_name tasks before.task then before.task ∷ codes "open" ∷ codes "now" ∷ [] else before.task ∷ codes "cancelled" ∷ []

-- the line of a change, of which a job that is kept has none
unfoldable pub change_text : Change → JobByNames → JobByNames → List ℕ
change_text Kept before now = []
change_text Moved before now = line_text (moved_words before now)
change_text Others before now = line_text (others_words before now)
change_text New before now = line_text (new_words now)

-- what changed about a job now, next to the job that its task had before
unfoldable pub job_text : Option JobByNames → JobByNames → List ℕ
job_text before now = option_map_or (λ job. change_text (change_between job now) job now) before (line_text (new_words now))

-- the same, if the job begins at minute m
unfoldable pub job_text_at : List JobByNames → ℕ → JobByNames → List ℕ
job_text_at before m now = if now.start == m then job_text (job_named before now.task) now else []

-- the line of a job of the round before, if it began at minute m and is gone
unfoldable pub gone_text_at : RoundByNames → ℕ → JobByNames → List ℕ
gone_text_at now m before = if (before.start == m) && is_gone now.jobs before then line_text (gone_words now.tasks before) else []

-- the lines of minute m: what begins then, and what began then and is gone
unfoldable pub minute_text : RoundByNames → RoundByNames → ℕ → List ℕ
minute_text before now m = flat_map (job_text_at before.jobs m) now.jobs ++ flat_map (gone_text_at now m) before.jobs

-- what changed in round n: the counts, and a line for each job that isn't kept, in order of its new or old start
unfoldable pub changes_text : ℕ → RoundByNames → RoundByNames → List ℕ
changes_text n before now = line_text (counts_words n (counts_of before now)) ++ flat_map (minute_text before now) (range_with_len 0 (LAST_MINUTE + 1))
