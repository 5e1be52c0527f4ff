-- what an audit's input comes to
use Rattle.std.specs.Prelude.{◌≡◌, ◌≢◌, ◌≤◌, ◌+◌, ◌++◌, ℕ, suc, List, [], ◌∷◌, length, Option, None, Some}
use Rattle.crew_terms.specs.declared.TheConstants.{LONGEST_DAY}
use Rattle.dossier_terms.specs.Dossier.{Dossier}
use Rattle.dossier_terms.specs.Reading.{Form}
use Rattle.dossier_terms.specs.declared.Reason.{Reason}
use Rattle.dossier_terms.specs.declared.Reason.TheVariants as reasons
use Rattle.route_terms.specs.Named.{NamedRoute}
use Rattle.day_terms.specs.Days.{IsDayOf}
use Rattle.day_terms.specs.State.{start_with}
use Rattle.day_terms.specs.Entries.{state_after}
use Rattle.day_terms.specs.Refusal.{AreTaken, refusal_of}
use Rattle.day_terms.specs.Rounds.{Round, round_at, rounds_of}
use Rattle.day_terms.specs.declared.Entry.{Entry}
use Rattle.day_terms.specs.declared.Refused.{Refused as BadRecord}
use Rattle.cert_checker.specs.declared.checker.Stop.{Stop}
use Rattle.dossier_commands.specs.Input.{Front, HasRead, IsAcceptedBehind, IsRefusal, lines_before}
use Rattle.day_commands.specs.Rounds.{ComesTo, DayStop, change_stop}
use Rattle.day_commands.specs.declared.refused.DayFault.TheVariants.{TooLong}
use Rattle.day_audit.specs.Belongs.{BelongToDay, BelongToRounds, IsFit, handed_on, plans_of}
use Rattle.day_audit.specs.declared.audit.Fit.{Fit}
use Rattle.day_audit.specs.declared.audit.Fit.TheVariants as fits
use Rattle.audit_command.specs.Days.{HasDay, HasLongDay, HasNoDay, front_of_day}
use Rattle.audit_command.specs.declared.event.Event.{Event}
use Rattle.audit_command.specs.declared.event.Event.TheVariants.{NoDossiers, Refused, BadDossier, Instance, Nodes, Kept, More, Belong}

-- the input begins with a day that is no longer than it may be, and goes on with these good dossiers; the rest is left
pub record HasAudited (input text : List ℕ) (done : List Dossier) (rest : List ℕ) : Type 0 where
  pub behind : List ℕ
  pub day : HasDay input text behind
  pub within : length text ≤ LONGEST_DAY
  pub read : HasRead (front_of_day text) input done [] rest Form

-- ---- dossiers and the rounds of a day

-- the dossiers belong to the day of this text, of which no record is refused
pub record BelongToText (text : List ℕ) (done : List Dossier) : Type 0 where
  pub entries : List Entry
  pub day : IsDayOf text entries None
  pub belong : BelongToDay entries done

-- with their plans the day of this text is refused at this record, and the dossiers belong to the rounds before it
pub record AreStopped (text : List ℕ) (done : List Dossier) (stop : DayStop) : Type 0 where
  pub rounds : List Round
  pub comes_to : ComesTo change_stop (plans_of done) text rounds (Some stop)
  pub belong : BelongToRounds [] rounds done

-- with their plans this round comes next in the day of this text, and the dossiers belong to the rounds before it
pub record IsNextRound (text : List ℕ) (done : List Dossier) (round : Round) : Type 0 where
  pub before : List Entry
  pub entry : Entry
  pub after : List Entry
  pub stop : Option BadRecord
  pub day : IsDayOf text (before ++ entry ∷ after) stop
  pub taken : AreTaken (start_with (plans_of done)) before
  pub belong : BelongToRounds [] (rounds_of (plans_of done) before) done
  pub accepted : refusal_of (state_after (plans_of done) before) entry ≡ None
  pub begins : round_at (state_after (plans_of done) before) entry ≡ round ∷ []

-- the routes that are handed on behind these dossiers, the first of which is handed these ones
abbrev pub handed_behind : List NamedRoute → List Dossier → List NamedRoute
handed_behind handed [] = handed
handed_behind handed (d ∷ ds) = handed_behind (handed_on d) ds

-- ---- the events

-- the event of a good dossier of the round of this number, if it does not fit
abbrev pub misfit : ℕ → Fit → Option Event
misfit number fits.Fits = None
misfit number fits.Instance = Some (Instance number)
misfit number fits.Nodes = Some (Nodes number)
misfit number fits.Kept = Some (Kept number)

-- the event of the next dossier of the input beside the round of this number, which is handed these routes
pub data IsRoundEvent (handed : List NamedRoute) (round : Round) (number : ℕ) (front : Front) (input : List ℕ) (done : List Dossier) (event : Event) : Type 0 where
  -- a line of it breaks a rule, or no line comes whole where one is due
  BadLine : (line : ℕ) (reason : Reason) (refusal : IsRefusal front input done line reason) (is : event ≡ BadDossier number line reason)
      → IsRoundEvent handed round number front input done event
  -- the input ends behind the dossiers before it
  NoMore : (accepted : IsAcceptedBehind front input done) (is : event ≡ BadDossier number (suc (lines_before front done [])) reasons.End)
      → IsRoundEvent handed round number front input done event
  -- it is good, and does not fit
  Differs : (d : Dossier) (rest : List ℕ) (read : HasRead front input (done ++ d ∷ []) [] rest Form) (fit : Fit) (told : IsFit handed round d fit)
      (is : misfit number fit ≡ Some event) → IsRoundEvent handed round number front input done event

-- the event to which the input comes: the first that reading meets
pub data IsEvent (input : List ℕ) (event : Event) : Type 0 where
  -- no line `dossiers` comes
  NoDay : (why : Stop) (none : HasNoDay input why) (is : event ≡ NoDossiers why) → IsEvent input event
  -- the day is too long
  LongDay : (long : HasLongDay input) (is : event ≡ Refused 0 TooLong) → IsEvent input event
  -- a record is refused; the dossiers before it belong to the rounds before it
  IsRefused : (text : List ℕ) (done : List Dossier) (rest : List ℕ) (audited : HasAudited input text done rest)
      (stop : DayStop) (stopped : AreStopped text done stop) (is : event ≡ Refused stop.number stop.cause) → IsEvent input event
  -- the next round's dossier is not good, or does not come, or does not fit
  AtRound : (text : List ℕ) (done : List Dossier) (rest : List ℕ) (audited : HasAudited input text done rest) (round : Round) (next : IsNextRound text done round)
      (at : IsRoundEvent (handed_behind [] done) round (length done + 1) (front_of_day text) input done event) → IsEvent input event
  -- the dossiers belong to the day, and bytes are left behind them
  IsMore : (text : List ℕ) (done : List Dossier) (rest : List ℕ) (audited : HasAudited input text done rest) (some : rest ≢ [])
      (belong : BelongToText text done) (is : event ≡ More (length done)) → IsEvent input event
  -- the dossiers belong to the day
  Belongs : (text : List ℕ) (done : List Dossier) (audited : HasAudited input text done [])
      (belong : BelongToText text done) (is : event ≡ Belong (length done)) → IsEvent input event

-- the input is a day, the line behind it, and dossiers that belong to the day
pub record IsFineAudit (input : List ℕ) : Type 0 where
  pub text : List ℕ
  pub dossiers : List Dossier
  pub audited : HasAudited input text dossiers []
  pub belong : BelongToText text dossiers
