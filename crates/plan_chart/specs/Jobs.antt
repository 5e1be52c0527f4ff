-- the jobs of a chart, as text
use Rattle.std.specs.Prelude.{◌++◌, ℕ, List, [], Option, codes}
use Rattle.std.specs.List.{flat_map}
use Rattle.std.specs.Option.{option_map_or}
use Rattle.crew_terms.specs.Instance.{Instance}
use Rattle.crew_terms.specs.Plan.{Job, Plan, job_of}
use Rattle.round_changes.specs.Named.{RoundByNames}
use Rattle.plan_chart.specs.Bars.{bar_of}
use Rattle.plan_chart.specs.Looks.{look_of}
use Rattle.plan_chart.specs.Titles.{title_of}
use Rattle.plan_chart.specs.declared.looks.Look.{Look}

-- a job: what is told of it, and a bar for each of its teams
abbrev pub job_group : Instance → Plan → Look → ℕ → ℕ → List ℕ → List ℕ
job_group i p look j start teams = (title_of i look j start teams ++ flat_map (bar_of i p look j start) teams) ++ codes "</g>"

-- the job of task j, if it has one
unfoldable pub job_text : Instance → Plan → Option RoundByNames → RoundByNames → ℕ → List ℕ
job_text i p before now j = option_map_or (λ (job : Job). job_group i p (look_of i p before now j) j job.start job.teams) (job_of p j) []
