-- what one entry of a day comes to
use Rattle.std.specs.Prelude.{◌≡◌, ◌≢◌, ◌≤◌, ℕ, Bool, true, false, List, [], ◌∷◌, length, Option, None, Some, All, Any}
use Rattle.std.specs.List.{flat_map}
use Rattle.crew_terms.specs.declared.TheConstants.{LONGEST_DAY}
use Rattle.crew_io.specs.Io.{Appended, AppendedPart}
use Rattle.crew_terms.specs.Plan.{Plan}
use Rattle.dossier_terms.specs.Dossier.{Dossier}
use Rattle.dossier_terms.specs.Lines.{text_of}
use Rattle.route_terms.specs.Named.{NamedRoute}
use Rattle.day_terms.specs.declared.Entry.{Entry}
use Rattle.day_terms.specs.declared.Refused.{Refused}
use Rattle.day_terms.specs.Days.{IsDayOf}
use Rattle.day_terms.specs.State.{DayState}
use Rattle.day_terms.specs.Entries.{after_entry}
use Rattle.day_terms.specs.Rounds.{Round, round_at}
use Rattle.flight_changes.specs.declared.faults.ChangeFault.TheVariants.{OutOfMemory}
use Rattle.replan.specs.Rounds.{AreRoundDossiers, handed_on}
use Rattle.replan.specs.Planning.{Planning}
use Rattle.day_commands.specs.Instances.{AreInstances}
use Rattle.day_commands.specs.Rounds.{change_stop}
use Rattle.day_commands.specs.Dossiers.{IsProved, IsUnproved, plans_in}
use Rattle.day_commands.specs.Staying.{FirstStays}
use Rattle.day_commands.specs.declared.ended.DayOutput.{DayOutput}
use Rattle.day_commands.specs.declared.ended.DayOutput.TheVariants.{Instances, Dossiers}
use Rattle.day_commands.specs.declared.entries.Taken.{Taken}
use Rattle.day_commands.specs.declared.entries.Taken.TheVariants.{Whole, Refused as IsRefused, WriteFault}
use Rattle.day_commands.specs.declared.entries.Taker.{Taker}
use Rattle.day_commands.specs.declared.entries.Taker.TheVariants.{Desk, Session}
use Rattle.day_commands.specs.declared.refused.DayFault.TheVariants.{Change}

-- the planning that a day's state stands for where no dossier is written
abbrev pub of_desk : DayState → Planning
of_desk s = record { day = s; handed = []; failed = None }

-- what takes the entries, as a planning
abbrev pub planning_of : Taker → Planning
planning_of (Desk s) = of_desk s
planning_of (Session s) = s

-- what is written where it takes them
abbrev pub output_of : Taker → DayOutput
output_of (Desk s) = Instances
output_of (Session s) = Dossiers

-- the routes that are handed on behind these dossiers, the first of which is handed these routes
abbrev pub handed_after : List NamedRoute → List Dossier → List NamedRoute
handed_after handed [] = handed
handed_after handed (d ∷ ds) = handed_after (handed_on d) ds

-- all of the dossiers are proved, or some is not
abbrev pub TellsProved : Bool → List Dossier → Type 0
TellsProved true ds = All IsProved ds
TellsProved false ds = Any IsUnproved ds

-- the text is that of dossiers for these rounds, the first of which is handed these routes; the rounds have their plans
pub record AreDossiersFrom (handed : List NamedRoute) (plans : List Plan) (rounds : List Round) (text : List ℕ) (proved : Bool) (later : List NamedRoute) : Type 0 where
  pub dossiers : List Dossier
  pub dossiers_are : AreRoundDossiers handed rounds dossiers
  pub plans_are : plans ≡ plans_in dossiers
  pub texts : text ≡ flat_map text_of dossiers
  pub tells : TellsProved proved dossiers
  pub handed_last : later ≡ handed_after handed dossiers

-- the text is what is written of these rounds with these plans, from such routes to those that are handed on, and this tells whether all is
-- proved
abbrev pub AreTextsFrom : DayOutput → List NamedRoute → List Plan → List Round → List ℕ → Bool → List NamedRoute → Type 0
AreTextsFrom Instances handed plans rounds text proved later = AreInstances plans rounds text × (proved ≡ true)
AreTextsFrom Dossiers handed plans rounds text proved later = AreDossiersFrom handed plans rounds text proved later

-- a front of what is written of the round that the entry begins was written
abbrev pub IsFrontFrom : DayOutput → Planning → Entry → Option (List ℕ) → Option (List ℕ) → Type 0
IsFrontFrom output s entry got later =
    (plans : List Plan) × (text : List ℕ) × (proved : Bool) × (last : List NamedRoute) × AreTextsFrom output s.handed plans (round_at s.day entry) text proved last
    × AppendedPart got later text × FirstStays s.day plans

-- how the entry changes a state of which no plan to come is known, where the round that it begins has these plans
abbrev pub IsStateAfter : DayState → List Plan → Entry → DayState → Type 0
IsStateAfter s plans entry new = (new ≡ after_entry (record s { plans = plans }) entry) × (new.plans ≡ [])

-- the entry is taken, and what is asked for of the round that it begins was written, if it begins one; or it is not taken,
-- and nothing was written; or it is taken, and a front of that was written
abbrev pub IsTakenSo : DayOutput → Planning → Entry → Taken → Planning → Option (List ℕ) → Option (List ℕ) → Type 0
IsTakenSo output s entry (Whole proved) new got later = (change_stop s.day entry ≡ None) × (new.failed ≡ None)
    × ((plans : List Plan) × (text : List ℕ) × IsStateAfter s.day plans entry new.day
    × AreTextsFrom output s.handed plans (round_at s.day entry) text proved new.handed × Appended got later text × FirstStays s.day plans)
IsTakenSo output s entry (IsRefused fault) new got later = (change_stop s.day entry ≡ Some fault) × (fault ≢ Change OutOfMemory) × (later ≡ got)
IsTakenSo output s entry WriteFault new got later = (change_stop s.day entry ≡ None) × IsFrontFrom output s entry got later

-- what writing the instance of a round can come to
abbrev pub is_whole_or_write_fault : Taken → Bool
is_whole_or_write_fault (Whole proved) = proved
is_whole_or_write_fault WriteFault = true
is_whole_or_write_fault (IsRefused fault) = false

-- these entries and this refusal are those of a day's text, which is no longer than it may be
pub record IsDay (text : List ℕ) (entries : List Entry) (stop : Option Refused) : Type 0 where
  pub within : length text ≤ LONGEST_DAY
  pub day : IsDayOf text entries stop

-- what was written, and its fact
abbrev pub Wrote : Option (List ℕ) → Option (List ℕ) → (List ℕ → Type 0) → Type 0
Wrote got later Fact = (written : List ℕ) × Appended got later written × Fact written
