-- the tasks that lines tell of by name
use Rattle.std.specs.Prelude.{◌≡◌, ◌++◌, ℕ, suc, List, ◌∷◌, length, map, bytes_eq, IsSome, All}
use Rattle.std.specs.List.{position_or_len}
use Rattle.crew_terms.specs.Instance.{Instance}
use Rattle.crew_terms.specs.Plan.{Plan, job_of}
use Rattle.crew_terms.specs.declared.Task.{Task}
use Rattle.delay_wave.specs.declared.lates.Late.{Late}
use Rattle.dossier_terms.specs.declared.Reason.{Reason}
use Rattle.dossier_terms.specs.declared.Reason.TheVariants.{Name}
use Rattle.late_lines.specs.declared.first_line.LateLine.{LateLine}
use Rattle.late_lines.specs.declared.halt.Halt.{Halt}
use Rattle.late_lines.specs.declared.halt.Halt.TheVariants.{No, ReadFault, OutOfMemory}

-- the number of the task with this name, that of none where there is none
abbrev pub task_named : Instance → List ℕ → ℕ
task_named i name = position_or_len (λ (t : Task). bytes_eq t.name name) i.tasks

-- the late task that a line tells
abbrev pub late_in : Instance → LateLine → Late
late_in i line = record { task = task_named i line.name; end = line.end }

-- those that all lines tell
abbrev pub lates_in : Instance → List LateLine → List Late
lates_in i lines = map (late_in i) lines

-- the plan does the task of this name
abbrev pub IsDone : Instance → Plan → LateLine → Type 0
IsDone i p line = IsSome (job_of p (task_named i line.name))

-- the first line whose task the plan does not do, numbered from 1
pub record IsFirstUndone (i : Instance) (p : Plan) (lines : List LateLine) (number : ℕ) (reason : Reason) : Type 0 where
  pub before : List LateLine
  pub line : LateLine
  pub after : List LateLine
  pub parts : lines ≡ before ++ line ∷ after
  pub done : All (IsDone i p) before
  pub undone : IsDone i p line → ⊥
  pub is : number ≡ suc (length before)
  pub why : reason ≡ Name

-- why the tasks of lines are not told
abbrev pub HaltsAtTask : Instance → Plan → List LateLine → Halt → Type 0
HaltsAtTask i p lines (No number reason) = IsFirstUndone i p lines number reason
HaltsAtTask i p lines ReadFault = ⊥
HaltsAtTask i p lines OutOfMemory = Unit {0}
