-- what a session keeps, and what an entry comes to
use Rattle.std.specs.Prelude.{◌≡◌, ℕ, List, [], ◌∷◌, Option, None, Some, Result, Ok, Err}
use Rattle.crew_io.specs.Io.{Appended, AppendedPart}
use Rattle.crew_terms.specs.Plan.{Plan}
use Rattle.dossier_terms.specs.Dossier.{Dossier}
use Rattle.dossier_terms.specs.Lines.{text_of}
use Rattle.route_terms.specs.Named.{NamedRoute}
use Rattle.day_terms.specs.declared.Entry.{Entry}
use Rattle.day_terms.specs.State.{DayState, start}
use Rattle.day_terms.specs.Entries.{after_entry}
use Rattle.day_terms.specs.Refusal.{Refusal, refusal_by_lists, refusal_of}
use Rattle.day_terms.specs.Work.{after_plan, jobs_by_names}
use Rattle.day_terms.specs.Rounds.{Round, round_at}
use Rattle.cert_write.specs.declared.faults.PutFault.{PutFault}
use Rattle.cert_write.specs.declared.faults.PutFault.TheVariants as puts
use Rattle.flight_changes.specs.Faults.{fault_of}
use Rattle.flight_changes.specs.declared.faults.ChangeFault.{ChangeFault}
use Rattle.flight_changes.specs.declared.faults.ChangeFault.TheVariants as changes
use Rattle.replan.specs.Counts.{counts_of}
use Rattle.replan.specs.Rounds.{IsRoundDossier, handed_on}
use Rattle.replan.specs.Staying.{LosesNoTask, StaysIn}
use Rattle.replan.specs.declared.faults.Failure.{Failure}
use Rattle.replan.specs.declared.faults.Failure.TheVariants as failures
use Rattle.replan.specs.declared.faults.SessionFault.{SessionFault}
use Rattle.replan.specs.declared.faults.SessionFault.TheVariants.{Change, WriteFault, OutOfMemory}
use Rattle.replan.specs.declared.round.Planned.{Planned}
use Rattle.replan.specs.declared.session.Done.{Done}
use Rattle.replan.specs.declared.session.Done.TheVariants.{Changed, Round as HasRound}

-- the day's state, the routes that the next round is handed, and the failure, if there was one
pub record Planning : Type 0 where
  pub day : DayState
  pub handed : List NamedRoute
  pub failed : Option Failure

-- before the day's first entry
abbrev pub no_entry_yet : Planning
no_entry_yet = record { day = start; handed = []; failed = None }

-- the fault that is told of a failure, from then on
abbrev pub fault_told : Failure → SessionFault
fault_told failures.WriteFault = WriteFault
fault_told failures.OutOfMemory = OutOfMemory

-- the fault that is told of a change that the state does not take
abbrev pub refusal_told : ChangeFault → SessionFault
refusal_told changes.OutOfMemory = OutOfMemory
refusal_told fault = Change fault

-- the fault that is told where a dossier is not written
abbrev pub fault_of_put : PutFault → SessionFault
fault_of_put puts.WriteFault = WriteFault
fault_of_put puts.OutOfMemory = OutOfMemory

-- the entry begins a round, and this is a dossier of it; its plan stays as it was, unless it does more tasks
pub record IsDossierAt (s : Planning) (entry : Entry) (d : Dossier) : Type 0 where
  pub round : Round
  pub begins : round_at s.day entry ≡ round ∷ []
  pub dossier : IsRoundDossier s.handed round d
  pub stays : StaysIn s.day d.plan

-- a front of a dossier of the round that the entry begins was written
abbrev pub IsFrontAt : Planning → Entry → Option (List ℕ) → Option (List ℕ) → Type 0
IsFrontAt s entry got later = (d : Dossier) × IsDossierAt s entry d × AppendedPart got later (text_of d)

-- what the answer to an entry says of a session that has not failed, and of what was written. Changed: the entry begins no
-- round, and changed the state. Round: it begins one, and a dossier of it was written, with these numbers; its plan is the last
-- one from then on, and its pool is handed on. Change: nothing changed, and nothing was written. WriteFault: a front of a dossier of the round was written.
-- OutOfMemory: the lists do not refuse the entry, and nothing was written
abbrev pub IsEntered : Planning → Entry → Result Done SessionFault → Planning → Option (List ℕ) → Option (List ℕ) → Type 0
IsEntered s entry (Ok Changed) new got later = (refusal_of s.day entry ≡ None) × (round_at s.day entry ≡ [])
    × (new ≡ record s { day = after_entry s.day entry }) × (later ≡ got)
IsEntered s entry (Ok (HasRound counts)) new got later = (refusal_of s.day entry ≡ None) × ((d : Dossier) × IsDossierAt s entry d
    × (counts ≡ counts_of d) × (new ≡ record s { day = after_plan s.day d.plan; handed = handed_on d }) × Appended got later (text_of d))
IsEntered s entry (Err (Change fault)) new got later =
    ((told : Refusal) × (refusal_of s.day entry ≡ Some told) × (fault ≡ fault_of told)) × (new ≡ s) × (later ≡ got)
IsEntered s entry (Err WriteFault) new got later = (refusal_of s.day entry ≡ None) × (new ≡ record s { failed = Some failures.WriteFault })
    × IsFrontAt s entry got later
IsEntered s entry (Err OutOfMemory) new got later = (refusal_by_lists s.day entry ≡ None) × (new ≡ record s { failed = Some failures.OutOfMemory })
    × (later ≡ got)

-- the failure that an answer tells
abbrev pub failure_of : Result Done SessionFault → Option Failure
failure_of (Ok done) = None
failure_of (Err WriteFault) = Some failures.WriteFault
failure_of (Err OutOfMemory) = Some failures.OutOfMemory
failure_of (Err (Change fault)) = None

-- the session fails at this answer, as a write does
abbrev pub IsNewWriteFault : Planning → Result Done SessionFault → Type 0
IsNewWriteFault s result = (s.failed ≡ None) × (result ≡ Err WriteFault)

-- what the answer to a round, which begins with the last plan if there is one, says of what was written, of the routes that it
-- hands on, and of its plan by names
abbrev pub IsRoundPut : List NamedRoute → Option Plan → Round → Result Planned SessionFault → Option (List ℕ) → Option (List ℕ) → Type 0
IsRoundPut handed last round (Ok planned) got later = (d : Dossier) × IsRoundDossier handed round d × (planned.counts ≡ counts_of d)
    × (planned.carry ≡ handed_on d) × (planned.jobs ≡ jobs_by_names d.instance d.plan) × Appended got later (text_of d) × LosesNoTask round.instance last d.plan
IsRoundPut handed last round (Err WriteFault) got later = (d : Dossier) × IsRoundDossier handed round d × AppendedPart got later (text_of d)
    × LosesNoTask round.instance last d.plan
IsRoundPut handed last round (Err OutOfMemory) got later = later ≡ got
IsRoundPut handed last round (Err (Change fault)) got later = ⊥
