-- the words of a trial, its dossier and its line
use Rattle.std.specs.Prelude.{◌≡◌, ◌≤◌, ℕ, List, [], ◌∷◌, codes}
use Rattle.std.specs.Fmt.{decimal}
use Rattle.crew_terms.specs.Branches.{splits, closed, left_open}
use Rattle.crew_terms.specs.Plan.{unassigned_count}
use Rattle.crew_terms.specs.Words.{Words, line_text}
use Rattle.crew_terms.specs.declared.TheConstants.{MOST_NODES, MOST_NUMBER, MOST_TASKS, MOST_TEAMS}
use Rattle.dossier_terms.specs.Dossier.{Dossier, unshown}
use Rattle.day_terms.specs.Rounds.{rounds_of}
use Rattle.day_gen.specs.Day.{generated_day}
use Rattle.replan.specs.Rounds.{AreRoundDossiers}
use Rattle.trial_command.specs.declared.words.Trial.{Trial}

-- the numbers of a trial are in their ranges
pub record IsTrial (t : Trial) : Type 0 where
  pub number : t.number ≤ MOST_NUMBER
  pub some_team : 1 ≤ t.teams
  pub teams : t.teams ≤ MOST_TEAMS
  pub some_task : 1 ≤ t.tasks
  pub tasks : t.tasks ≤ MOST_TASKS
  pub nodes : t.nodes ≤ MOST_NODES

-- the words `trial NUMBER TEAMS TASKS NODES`
abbrev pub trial_words : Trial → Words
trial_words t = codes "trial" ∷ decimal t.number ∷ decimal t.teams ∷ decimal t.tasks ∷ decimal t.nodes ∷ []

-- the words ask for this trial, whose numbers are in their ranges
abbrev pub AsksForTrial : Trial → Words → Type 0
AsksForTrial t words = IsTrial t × (words ≡ trial_words t)

-- the dossier is one that a day of the trial's number allows for its one round: what `day` may write of it
abbrev pub IsTrialDossier : Trial → Dossier → Type 0
IsTrialDossier t d = AreRoundDossiers [] (rounds_of [] (generated_day t.number t.teams t.tasks t.nodes)) (d ∷ [])

-- the line of a trial and its dossier: the numbers of the yes line, behind those of the day
abbrev pub trial_line : Trial → Dossier → List ℕ
trial_line t d = line_text (codes "trial" ∷ decimal t.number ∷ decimal t.teams ∷ decimal t.tasks
    ∷ codes "unassigned" ∷ decimal (unassigned_count d.plan) ∷ codes "bound" ∷ decimal d.bound
    ∷ codes "splits" ∷ decimal (splits d.tree) ∷ codes "closed" ∷ decimal (closed d.tree) ∷ codes "open" ∷ decimal (left_open d.tree)
    ∷ codes "unshown" ∷ decimal (unshown d.tree) ∷ codes "yes" ∷ [])
