-- the table of lines: the head, from the first line to the last frozen job
use Rattle.std.specs.Prelude.{◌≢◌, ◌≤◌, ◌++◌, ℕ, zero, suc, List, [], ◌∷◌, length, None, Some, slice_set, codes, All}
use Rattle.std.specs.List.Sorted.{IsStrictlyIncreasing}
use Rattle.crew_terms.specs.Words.{Words}
use Rattle.crew_terms.specs.Name.{IsName}
use Rattle.crew_terms.specs.Instance.{Instance}
use Rattle.crew_terms.specs.Rules.{IsShift, IsWindow}
use Rattle.crew_terms.specs.Plan.{Job}
use Rattle.crew_terms.specs.Legal.{IsInWindow, IsTeamList, IsFeasible}
use Rattle.crew_terms.specs.declared.Team.{Team}
use Rattle.crew_terms.specs.declared.Task.{Task}
use Rattle.dossier_terms.specs.declared.DossierForm.{DossierForm}
use Rattle.dossier_terms.specs.declared.Reason.TheVariants.{Shape, Number, Name, Instance as BadInstance}
use Rattle.dossier_terms.specs.Dossier.{mask_of}
use Rattle.dossier_terms.specs.Lines.{form_line, size_line, place_line, travel_line, team_words, task_words, frozen_line, keep_line}
use Rattle.dossier_terms.specs.Reading.{Answer, Opening, nothing, Pools, Sizes, Keeps, places_due, travels_due, teams_due, tasks_due, keeps_due}
use Rattle.dossier_terms.specs.Rules.{Must, MustSpell, Goes, IsShape, IsShapeFrom}
use Rattle.dossier_terms.specs.Ranges.{IsSize, IsTravel, IsTeamLine, IsTaskLine, IsDoLine, HasName}

-- the first line
abbrev pub form_row : Words → Answer → Type 0
form_row ws = MustSpell form_line (λ form. Unit {0}) ws Shape λ form. Goes (Sizes form)

-- a line `size`
abbrev pub size_row : DossierForm → Words → Answer → Type 0
size_row form ws = Must (IsShape (codes "size") 4 ws) Shape
    (MustSpell size_line IsSize ws Number λ z.
    Goes (places_due (record { form = form; size = z }) z.places nothing))

-- what is said after the name of a place
abbrev pub after_place : Opening → ℕ → Instance → List ℕ → Answer → Type 0
after_place o k i name = Must (All (λ p. p ≢ name) i.places) Name
    (Goes (places_due o k (record i { places = i.places ++ name ∷ [] })))

-- a line `place`
abbrev pub place_row : Opening → ℕ → Instance → Words → Answer → Type 0
place_row o k i ws = Must (IsShape (codes "place") 1 ws) Shape
    (MustSpell place_line IsName ws Name λ name.
    after_place o k i name)

-- what is said after the travel times from a place
abbrev pub after_travel : Opening → ℕ → Instance → List ℕ → Answer → Type 0
after_travel o k i row = Goes (travels_due o k (record i { travel = i.travel ++ row ∷ [] }))

-- a line `travel`
abbrev pub travel_row : Opening → ℕ → Instance → Words → Answer → Type 0
travel_row o k i ws = Must (IsShape (codes "travel") o.size.places ws) Shape
    (MustSpell travel_line (IsTravel o.size.places) ws Number λ row.
    after_travel o k i row)

-- no team has the name yet
abbrev pub IsNewTeam : List Team → Team → Type 0
IsNewTeam ts t = All (λ (p : Team). p.name ≢ t.name) ts

-- no task has the name yet
abbrev pub IsNewTask : List Task → Task → Type 0
IsNewTask ts t = All (λ (p : Task). p.name ≢ t.name) ts

-- what is said after the words of a team that has the set of the skills of its line; Rises says that these rise strictly
abbrev pub after_team : Opening → ℕ → Instance → Team → Type 0 → Answer → Type 0
after_team o k i t Rises = Must (IsNewTeam i.teams t) Name
    (Must (IsShift t × Rises) BadInstance
    (Goes (teams_due o k (record i { teams = i.teams ++ t ∷ [] }))))

-- a line `team`
abbrev pub team_row : Opening → ℕ → Instance → Words → Answer → Type 0
team_row o k i ws = Must (IsShapeFrom (codes "team") 4 ws) Shape
    (Must (HasName ws) Name
    (MustSpell team_words (IsTeamLine o.size.places) ws Number λ p.
    after_team o k i (record p.0 { skills = mask_of p.1 }) (IsStrictlyIncreasing p.1)))

-- the same of a task
abbrev pub after_task : Opening → ℕ → Instance → Task → Type 0 → Answer → Type 0
after_task o k i t Rises = Must (IsNewTask i.tasks t) Name
    (Must (IsWindow t × Rises) BadInstance
    (Goes (tasks_due o k (record i { tasks = i.tasks ++ t ∷ []; frozen = i.frozen ++ None ∷ [] }))))

-- a line `task`
abbrev pub task_row : Opening → ℕ → Instance → Words → Answer → Type 0
task_row o k i ws = Must (IsShapeFrom (codes "task") 6 ws) Shape
    (Must (HasName ws) Name
    (MustSpell task_words (IsTaskLine o.size.places) ws Number λ p.
    after_task o k i (record p.0 { skills = mask_of p.1 }) (IsStrictlyIncreasing p.1)))

-- the line `frozen`
abbrev pub frozen_row : Opening → Instance → Words → Answer → Type 0
frozen_row o i ws = Must (IsShape (codes "frozen") 1 ws) Shape
    (MustSpell frozen_line (λ count. count ≤ length i.tasks) ws Number λ count.
    Goes (keeps_due o count 0 i))

-- the job may be frozen: it starts in its task's window, with as many teams as the task needs, each once and in order
pub record CanFreeze (i : Instance) (p : ℕ × Job) : Type 0 where
  pub window : IsInWindow i p.0 p.1
  pub list : IsTeamList i p.0 p.1

-- what is said after a frozen job: the last one is judged with all of them
abbrev pub after_keep : Opening → ℕ → ℕ → Instance → Answer → Type 0
after_keep o zero from i = Must (IsFeasible i i.frozen) BadInstance (Goes (Pools o.form i o.size.nodes))
after_keep o (suc k) from i = Goes (Keeps o k from i)

-- a line `keep`, where k more come after it and the task is at least `from`
abbrev pub keep_row : Opening → ℕ → ℕ → Instance → Words → Answer → Type 0
keep_row o k from i ws = Must (IsShapeFrom (codes "keep") 2 ws) Shape
    (MustSpell keep_line (IsDoLine (length i.teams) (length i.tasks)) ws Number λ p.
    Must (from ≤ p.0) Shape
    (Must (CanFreeze i p) BadInstance
    (after_keep o k (suc p.0) (record i { frozen = slice_set i.frozen p.0 (Some p.1) }))))
