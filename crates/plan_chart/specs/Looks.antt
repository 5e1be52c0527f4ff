-- how jobs are set off from one another
use Rattle.std.specs.Prelude.{◌%◌, ℕ, Bool, true, false, List, [], Option, codes, count_by, is_some, take}
use Rattle.std.specs.Option.{option_map_or}
use Rattle.crew_terms.specs.Instance.{Instance, task_of}
use Rattle.crew_terms.specs.Plan.{Plan, job_of}
use Rattle.plan_chart.specs.Counts.{has_several}
use Rattle.round_changes.specs.Named.{RoundByNames}
use Rattle.round_changes.specs.Changes.{change_of, job_named}
use Rattle.round_changes.specs.declared.changes.Change.{Change}
use Rattle.round_changes.specs.declared.changes.Change.TheVariants.{Kept, Moved, Others, New}
use Rattle.plan_chart.specs.declared.looks.TheConstants.{COLOURS}
use Rattle.plan_chart.specs.declared.looks.Look.{Look}

-- task j has a frozen job
abbrev pub is_fixed : Instance → ℕ → Bool
is_fixed i j = is_some (job_of i.frozen j)

-- what is different about the job of the task of this name, next to the round before
abbrev pub change_among : RoundByNames → RoundByNames → List ℕ → Change
change_among before now name = option_map_or (change_of before.jobs) (job_named now.jobs name) Kept

-- the same, if there was a round before
abbrev pub change_since : Option RoundByNames → RoundByNames → List ℕ → Change
change_since before now name = option_map_or (λ (old : RoundByNames). change_among old now name) before Kept

-- how the job of task j looks: joint jobs have the colours in turn
unfoldable pub look_of : Instance → Plan → Option RoundByNames → RoundByNames → ℕ → Look
look_of i p before now j = record {
  joint = has_several (job_of p j);
  colour = count_by has_several (take j p) % COLOURS;
  fixed = is_fixed i j;
  change = change_since before now (task_of i j).name;
}

-- the word for a job of one team or several
abbrev pub kind_of : Bool → List ℕ
kind_of true = codes "joint c"
kind_of false = codes "single c"

-- what is told of a fixed job, and what lies over its bar
abbrev pub fixed_said : Bool → List ℕ
fixed_said true = codes ", fixed"
fixed_said false = []

abbrev pub fixed_sign : Bool → List ℕ
fixed_sign true = codes "<rect class='fixed' width='100%' height='100%'/>"
fixed_sign false = []

-- what is told of a change, and the mark of a bar
abbrev pub change_said : Change → List ℕ
change_said Kept = []
change_said Moved = codes ", moved"
change_said Others = codes ", by other teams"
change_said New = codes ", new"

abbrev pub change_sign : Change → List ℕ
change_sign Kept = []
change_sign Moved = codes "<rect class='mark' width='100%' height='2'/>"
change_sign Others = codes "<rect class='mark' width='100%' height='2'/>"
change_sign New = codes "<rect class='mark' width='100%' height='2'/>"
