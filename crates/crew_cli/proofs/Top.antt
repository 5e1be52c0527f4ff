-- what the statuses of a call say
use Rattle.std.proofs.Common.{◌≡◌, ◌≢◌, ◌⊎◌, inl, inr, [], List, ℕ, length, Option, None, Some, Result, Ok, Err, take, ap, subst, sym, refl, ◌∙◌}
use Rattle.std.proofs.Math.Seq.{take-length}
use Rattle.std.specs.Prelude.{IfSome, IsTrue}
use Rattle.crew_io.specs.Io.{Appended}
use Rattle.crew_io.specs.Appends.{appended_none}
use Rattle.crew_io.specs.Bytes.{OfBytes, of_bytes_weaker}
use Rattle.crew_io.specs.Puts.{TellsWrites}
use Rattle.crew_io.specs.Draws.{TellsReads, reads_none, reads_then}
use Rattle.crew_io.specs.Chains.{writes_none, writes_then}
use Rattle.crew_io.specs.declared.sink.Sink.{Ghosts as SinkTells}
use Rattle.crew_io.specs.declared.source.Source.{Ghosts as SourceTells}
use Rattle.dossier_terms.specs.Dossier.{Dossier}
use Rattle.dossier_commands.specs.Says.{SaysNo, ReadsDossiers}
use Rattle.dossier_commands.specs.declared.read.Ended.{Ended as DossiersEnded}
use Rattle.dossier_commands.specs.declared.read.Ended.TheVariants as dossiers
use Rattle.delay_command.specs.Says.{SaysRefused, TellsDelays}
use Rattle.day_commands.specs.Rounds.{PlansOf, Stops, IsFineDay, SaysFirstRounds, SaysOutputPart, change_stop}
use Rattle.day_commands.specs.Outputs.{MayHave, TextsOf}
use Rattle.day_commands.specs.Fronts.{part_of, first_are_part}
use Rattle.day_commands.specs.Says.{SaysAt, ReadsDay}
use Rattle.day_commands.specs.declared.ended.DayOutput.{DayOutput}
use Rattle.day_commands.specs.declared.ended.DayOutput.TheVariants.{Instances, Dossiers}
use Rattle.day_commands.specs.declared.ended.Ended.{Ended as DayEnded}
use Rattle.day_commands.specs.declared.ended.Ended.TheVariants as day
use Rattle.day_commands.specs.Dossiers.{IsProved, IsUnproved}
use Rattle.day_commands.specs.Taken.{Wrote}
use Rattle.day_commands.specs.Fine.{refused_not_fine}
use Rattle.squeeze_command.specs.Says.{SqueezesDossiers, SaysNo as SaysNotSqueezed}
use Rattle.squeeze_command.specs.declared.words.Squeeze.{Squeeze as SqueezeWords}
use Rattle.sheet_commands.specs.Says.{ReadsSheets, SaysNo as SaysNoSheets}
use Rattle.audit_command.specs.Events.{IsFineAudit}
use Rattle.audit_command.specs.Fine.{event_is_front, fine_is_done as fine_audit_is_done}
use Rattle.audit_command.specs.Says.{ReadsAudit, SaysEvent, SaysFront as SaysEventFront, SaysNothing, Nothing as NoEventWritten}
use Rattle.audit_command.specs.declared.ended.Ended.{Ended as AuditEnded}
use Rattle.audit_command.specs.declared.ended.Ended.TheVariants as audit
use Rattle.trial_command.specs.Says.{RunsTrial, SaysLine, SaysLineFront, Nothing, OfLine}
use Rattle.trial_command.specs.declared.trial.TrialEnded.{TrialEnded}
use Rattle.trial_command.specs.declared.trial.TrialEnded.TheVariants as trial
use Rattle.trial_command.specs.declared.words.Trial.{Trial as TrialWords}
use Rattle.crew_cli.specs.Run.{Answers, AreDelays, AreDossiers, AreSheets, AuditSays, DaySays, DelaysSay, DossiersSay, SqueezeCheckSays, SqueezeSays, TrialSays, an_audit, of_delays, of_sheets, of_squeeze, of_trial as trial_promises, over_days, over_dossiers, promises_of}
use Rattle.crew_cli.specs.Status.{audit_status, dossiers_status, day_status, trial_status, is_done}
use Rattle.crew_cli.specs.declared.run.Command.{Command}
use Rattle.crew_cli.specs.declared.run.Command.TheVariants.{Check, Rosters, Why, Delays, Squeeze, SqueezeCheck, Apply, Day, Audit, Trial}
use Rattle.crew_cli.specs.declared.status.Status.{Status}
use Rattle.crew_cli.specs.declared.status.Status.TheVariants as status

-- the line of a trial is a front of itself
line_is_front : (t : TrialWords) (Fact : Dossier → Type 0) (written : List ℕ) → SaysLine t Fact written → SaysLineFront t written
line_is_front t Fact written says = OfLine says.dossier says.allowed (length written) (sym (take-length written) ∙ ap (take (length written)) says.line)

pub if_some : {X : Type 0} (o : Option X) (P : X → Type 0) → ((x : X) → P x) → IfSome o P
if_some None P h = tt
if_some (Some x) P h = h x

-- input with a line that is refused is not fine
no_is_not_fine : (text : Dossier → List ℕ) (left got later : Option (List ℕ)) (A B C : Type 0) → OfBytes left got later (SaysNo text) → IfSome left (λ input. AreDossiers input → A → B → C)
no_is_not_fine text None got later A B C says = tt
no_is_not_fine text (Some input) got later A B C says = λ fine a b. absurd (says.2.not_accepted fine.0 fine.1)

no_sheets_is_not_fine : (steps : ℕ) (left got later : Option (List ℕ)) (A B C : Type 0) → OfBytes left got later (SaysNotSqueezed steps) → IfSome left (λ input. AreDossiers input → A → B → C)
no_sheets_is_not_fine steps None got later A B C says = tt
no_sheets_is_not_fine steps (Some input) got later A B C says = λ fine a b. absurd (says.2.not_accepted fine.0 fine.1)

refused_is_no_sheets : (left got later : Option (List ℕ)) (A B C : Type 0) → OfBytes left got later SaysNoSheets → IfSome left (λ input. AreSheets input → A → B → C)
refused_is_no_sheets None got later A B C says = tt
refused_is_no_sheets (Some input) got later A B C says = λ fine a b. absurd (says.2.not_accepted fine.0 fine.1)

refused_is_no_delays : (left got later : Option (List ℕ)) (A B C : Type 0) → OfBytes left got later SaysRefused → IfSome left (λ input. AreDelays input → A → B → C)
refused_is_no_delays None got later A B C says = tt
refused_is_no_delays (Some input) got later A B C says = λ fine a b. absurd (says.2.no_form fine.0 fine.1 fine.2)

refused_is_not_fine : (stops : Stops) (Plans : PlansOf) (left : Option (List ℕ)) (A B C : Type 0) → IfSome left (λ input. IsFineDay stops Plans input → ⊥) → IfSome left (λ input. IsFineDay stops Plans input → A → B → C)
refused_is_not_fine stops Plans None A B C says = tt
refused_is_not_fine stops Plans (Some input) A B C says = λ fine a b. absurd (says fine)

-- an input of another event is not fine
other_is_not_fine : (ended : AuditEnded) → (ended ≡ audit.Done → ⊥) → (left got later : Option (List ℕ)) (A B C : Type 0) → OfBytes left got later (SaysEvent ended)
    → IfSome left (λ input. IsFineAudit input → A → B → C)
other_is_not_fine ended other None got later A B C says = tt
other_is_not_fine ended other (Some input) got later A B C says = λ fine a b. absurd (other (fine_audit_is_done ended input says.0 says.2 fine))

module _ {S K : Type 0} (source : SourceTells S) (sink : SinkTells K) (src later : S) (out new : K) where
  -- the same fault by another name
  tells_read : {A B : Type 0} → TellsReads source src later A → (B → A) → (A → B) → TellsReads source src later B
  tells_read t to from = reads_then source src src later (λ fault. fault) (reads_none source src) t to from

  tells_write : {A B : Type 0} → TellsWrites sink out new A → (B → A) → (A → B) → TellsWrites sink out new B
  tells_write t to from = writes_then sink out out new (λ fault. fault) (writes_none sink out) t to from

  -- a command over dossiers answers by the status of its end
  pub dossiers_answer : {E : Type 0} (word : List ℕ) (text : Dossier → List ℕ) (ended : Result DossiersEnded E) → ReadsDossiers source sink text src later out new ended
      → Answers source sink (over_dossiers word text) src later out new (dossiers_status ended)
  dossiers_answer word text (Ok dossiers.Done) r = record {
    says = r.says;
    part = r.front;
    ends = refl;
    ended = λ _ _. r.ended refl;
    unread = λ e. absurd (cc);
    reads = tells_read r.reads (λ e. absurd (cc)) (λ e. absurd (cc));
    writes = tells_write r.writes (λ e. absurd (cc)) (λ e. absurd (cc));
    complete = if_some (source.left src) _ (λ input fine nr nw. inl refl);
  }
  dossiers_answer word text (Ok dossiers.No) r = record {
    says = r.says;
    part = r.front;
    ends = refl;
    ended = λ _ e. absurd (cc);
    unread = λ e. absurd (cc);
    reads = tells_read r.reads (λ e. absurd (cc)) (λ e. absurd (cc));
    writes = tells_write r.writes (λ e. absurd (cc)) (λ e. absurd (cc));
    complete = no_is_not_fine text (source.left src) (sink.got out) (sink.got new) _ _ _ r.says;
  }
  dossiers_answer word text (Ok dossiers.ReadFault) r = record {
    says = r.says;
    part = r.front;
    ends = refl;
    ended = λ _ e. absurd (cc);
    unread = λ e. absurd (cc);
    reads = tells_read r.reads (λ _. refl) (λ _. refl);
    writes = tells_write r.writes (λ e. absurd (cc)) (λ e. absurd (cc));
    complete = if_some (source.left src) _ (λ input fine nr nw. absurd (nr (r.reads.cause refl)));
  }
  dossiers_answer word text (Ok dossiers.WriteFault) r = record {
    says = r.says;
    part = r.front;
    ends = refl;
    ended = λ _ e. absurd (cc);
    unread = λ e. absurd (cc);
    reads = tells_read r.reads (λ e. absurd (cc)) (λ e. absurd (cc));
    writes = tells_write r.writes (λ _. refl) (λ _. refl);
    complete = if_some (source.left src) _ (λ input fine nr nw. absurd (nw (r.writes.cause refl)));
  }
  dossiers_answer word text (Err fault) r = record {
    says = r.memory;
    part = r.front;
    ends = refl;
    ended = λ _ e. absurd (cc);
    unread = λ e. absurd (cc);
    reads = tells_read r.reads (λ e. absurd (cc)) (λ e. absurd (cc));
    writes = tells_write r.writes (λ e. absurd (cc)) (λ e. absurd (cc));
    complete = if_some (source.left src) _ (λ input fine nr nw. inr refl);
  }

  -- the command `squeeze` answers by the status of its end
  pub squeeze_answer : {E : Type 0} (s : SqueezeWords) (ended : Result DossiersEnded E) → SqueezesDossiers source sink s.steps src later out new ended
      → Answers source sink (of_squeeze s) src later out new (dossiers_status ended)
  squeeze_answer s (Ok dossiers.Done) r = record {
    says = r.says;
    part = r.front;
    ends = refl;
    ended = λ _ _. r.ended refl;
    unread = λ e. absurd (cc);
    reads = tells_read r.reads (λ e. absurd (cc)) (λ e. absurd (cc));
    writes = tells_write r.writes (λ e. absurd (cc)) (λ e. absurd (cc));
    complete = if_some (source.left src) _ (λ input fine nr nw. inl refl);
  }
  squeeze_answer s (Ok dossiers.No) r = record {
    says = r.says;
    part = r.front;
    ends = refl;
    ended = λ _ e. absurd (cc);
    unread = λ e. absurd (cc);
    reads = tells_read r.reads (λ e. absurd (cc)) (λ e. absurd (cc));
    writes = tells_write r.writes (λ e. absurd (cc)) (λ e. absurd (cc));
    complete = no_sheets_is_not_fine s.steps (source.left src) (sink.got out) (sink.got new) _ _ _ r.says;
  }
  squeeze_answer s (Ok dossiers.ReadFault) r = record {
    says = r.says;
    part = r.front;
    ends = refl;
    ended = λ _ e. absurd (cc);
    unread = λ e. absurd (cc);
    reads = tells_read r.reads (λ _. refl) (λ _. refl);
    writes = tells_write r.writes (λ e. absurd (cc)) (λ e. absurd (cc));
    complete = if_some (source.left src) _ (λ input fine nr nw. absurd (nr (r.reads.cause refl)));
  }
  squeeze_answer s (Ok dossiers.WriteFault) r = record {
    says = r.says;
    part = r.front;
    ends = refl;
    ended = λ _ e. absurd (cc);
    unread = λ e. absurd (cc);
    reads = tells_read r.reads (λ e. absurd (cc)) (λ e. absurd (cc));
    writes = tells_write r.writes (λ _. refl) (λ _. refl);
    complete = if_some (source.left src) _ (λ input fine nr nw. absurd (nw (r.writes.cause refl)));
  }
  squeeze_answer s (Err fault) r = record {
    says = r.memory;
    part = r.front;
    ends = refl;
    ended = λ _ e. absurd (cc);
    unread = λ e. absurd (cc);
    reads = tells_read r.reads (λ e. absurd (cc)) (λ e. absurd (cc));
    writes = tells_write r.writes (λ e. absurd (cc)) (λ e. absurd (cc));
    complete = if_some (source.left src) _ (λ input fine nr nw. inr refl);
  }

  -- the command `squeeze-check` answers by the status of its end
  pub sheets_answer : {E : Type 0} (ended : Result DossiersEnded E) → ReadsSheets source sink src later out new ended → Answers source sink of_sheets src later out new (dossiers_status ended)
  sheets_answer (Ok dossiers.Done) r = record {
    says = r.says;
    part = r.front;
    ends = refl;
    ended = λ _ _. r.ended refl;
    unread = λ e. absurd (cc);
    reads = tells_read r.reads (λ e. absurd (cc)) (λ e. absurd (cc));
    writes = tells_write r.writes (λ e. absurd (cc)) (λ e. absurd (cc));
    complete = if_some (source.left src) _ (λ input fine nr nw. inl refl);
  }
  sheets_answer (Ok dossiers.No) r = record {
    says = r.says;
    part = r.front;
    ends = refl;
    ended = λ _ e. absurd (cc);
    unread = λ e. absurd (cc);
    reads = tells_read r.reads (λ e. absurd (cc)) (λ e. absurd (cc));
    writes = tells_write r.writes (λ e. absurd (cc)) (λ e. absurd (cc));
    complete = refused_is_no_sheets (source.left src) (sink.got out) (sink.got new) _ _ _ r.says;
  }
  sheets_answer (Ok dossiers.ReadFault) r = record {
    says = r.says;
    part = r.front;
    ends = refl;
    ended = λ _ e. absurd (cc);
    unread = λ e. absurd (cc);
    reads = tells_read r.reads (λ _. refl) (λ _. refl);
    writes = tells_write r.writes (λ e. absurd (cc)) (λ e. absurd (cc));
    complete = if_some (source.left src) _ (λ input fine nr nw. absurd (nr (r.reads.cause refl)));
  }
  sheets_answer (Ok dossiers.WriteFault) r = record {
    says = r.says;
    part = r.front;
    ends = refl;
    ended = λ _ e. absurd (cc);
    unread = λ e. absurd (cc);
    reads = tells_read r.reads (λ e. absurd (cc)) (λ e. absurd (cc));
    writes = tells_write r.writes (λ _. refl) (λ _. refl);
    complete = if_some (source.left src) _ (λ input fine nr nw. absurd (nw (r.writes.cause refl)));
  }
  sheets_answer (Err fault) r = record {
    says = r.memory;
    part = r.front;
    ends = refl;
    ended = λ _ e. absurd (cc);
    unread = λ e. absurd (cc);
    reads = tells_read r.reads (λ e. absurd (cc)) (λ e. absurd (cc));
    writes = tells_write r.writes (λ e. absurd (cc)) (λ e. absurd (cc));
    complete = if_some (source.left src) _ (λ input fine nr nw. inr refl);
  }

  -- the command `delays` answers by the status of its end
  pub delays_answer : {E : Type 0} (ended : Result DossiersEnded E) → TellsDelays source sink src later out new ended → Answers source sink of_delays src later out new (dossiers_status ended)
  delays_answer (Ok dossiers.Done) r = record {
    says = r.says;
    part = r.front;
    ends = refl;
    ended = λ _ _. r.ended refl;
    unread = λ e. absurd (cc);
    reads = tells_read r.reads (λ e. absurd (cc)) (λ e. absurd (cc));
    writes = tells_write r.writes (λ e. absurd (cc)) (λ e. absurd (cc));
    complete = if_some (source.left src) _ (λ input fine nr nw. inl refl);
  }
  delays_answer (Ok dossiers.No) r = record {
    says = r.says;
    part = r.front;
    ends = refl;
    ended = λ _ e. absurd (cc);
    unread = λ e. absurd (cc);
    reads = tells_read r.reads (λ e. absurd (cc)) (λ e. absurd (cc));
    writes = tells_write r.writes (λ e. absurd (cc)) (λ e. absurd (cc));
    complete = refused_is_no_delays (source.left src) (sink.got out) (sink.got new) _ _ _ r.says;
  }
  delays_answer (Ok dossiers.ReadFault) r = record {
    says = r.says;
    part = r.front;
    ends = refl;
    ended = λ _ e. absurd (cc);
    unread = λ e. absurd (cc);
    reads = tells_read r.reads (λ _. refl) (λ _. refl);
    writes = tells_write r.writes (λ e. absurd (cc)) (λ e. absurd (cc));
    complete = if_some (source.left src) _ (λ input fine nr nw. absurd (nr (r.reads.cause refl)));
  }
  delays_answer (Ok dossiers.WriteFault) r = record {
    says = r.says;
    part = r.front;
    ends = refl;
    ended = λ _ e. absurd (cc);
    unread = λ e. absurd (cc);
    reads = tells_read r.reads (λ e. absurd (cc)) (λ e. absurd (cc));
    writes = tells_write r.writes (λ _. refl) (λ _. refl);
    complete = if_some (source.left src) _ (λ input fine nr nw. absurd (nw (r.writes.cause refl)));
  }
  delays_answer (Err fault) r = record {
    says = r.memory;
    part = r.front;
    ends = refl;
    ended = λ _ e. absurd (cc);
    unread = λ e. absurd (cc);
    reads = tells_read r.reads (λ e. absurd (cc)) (λ e. absurd (cc));
    writes = tells_write r.writes (λ e. absurd (cc)) (λ e. absurd (cc));
    complete = if_some (source.left src) _ (λ input fine nr nw. inr refl);
  }

  day_part : (output : DayOutput) (ended : DayEnded) → OfBytes (source.left src) (sink.got out) (sink.got new) (SaysAt output ended (source.left later))
      → OfBytes (source.left src) (sink.got out) (sink.got new) (SaysOutputPart change_stop (TextsOf output))
  day_part output ended =
      of_bytes_weaker (source.left src) (sink.got out) (sink.got new) (SaysAt output ended (source.left later)) (SaysOutputPart change_stop (TextsOf output)) (part_of output ended (source.left later))

  -- a command over days answers by the status of its end
  pub day_answers : {E : Type 0} (word : List ℕ) (output : DayOutput) (ended : Result DayEnded E) → ReadsDay source sink output src later out new ended
      → Answers source sink (over_days word output) src later out new (day_status ended)
  day_answers word output (Ok day.Done) r = record {
    says = r.says;
    part = day_part output day.Done r.says;
    ends = refl;
    ended = λ _. r.ended;
    unread = λ e. absurd (cc);
    reads = tells_read r.reads (λ e. absurd (cc)) (λ e. absurd (cc));
    writes = tells_write r.writes (λ e. absurd (cc)) (λ e. absurd (cc));
    complete = if_some (source.left src) _ (λ input fine nr nw. inl refl);
  }
  day_answers word output (Ok day.Unproved) r = record {
    says = r.says;
    part = day_part output day.Unproved r.says;
    ends = r.ends;
    ended = λ _. r.ended;
    unread = λ e. absurd (cc);
    reads = tells_read r.reads (λ e. absurd (cc)) (λ e. absurd (cc));
    writes = tells_write r.writes (λ e. absurd (cc)) (λ e. absurd (cc));
    complete = if_some (source.left src) _ (λ input fine nr nw. inl refl);
  }
  day_answers word output (Ok day.Refused) r = record {
    says = r.says;
    part = day_part output day.Refused r.says;
    ends = refl;
    ended = λ _ e. absurd (cc);
    unread = λ e. absurd (cc);
    reads = tells_read r.reads (λ e. absurd (cc)) (λ e. absurd (cc));
    writes = tells_write r.writes (λ e. absurd (cc)) (λ e. absurd (cc));
    complete = refused_is_not_fine change_stop (MayHave output) (source.left src) _ _ _ (r.refused refl);
  }
  day_answers word output (Ok day.ReadFault) r = record {
    says = r.says;
    part = day_part output day.ReadFault r.says;
    ends = refl;
    ended = λ _ e. absurd (cc);
    unread = λ e. absurd (cc);
    reads = tells_read r.reads (λ _. refl) (λ _. refl);
    writes = tells_write r.writes (λ e. absurd (cc)) (λ e. absurd (cc));
    complete = if_some (source.left src) _ (λ input fine nr nw. absurd (nr (r.reads.cause refl)));
  }
  day_answers word output (Ok day.WriteFault) r = record {
    says = r.says;
    part = day_part output day.WriteFault r.says;
    ends = refl;
    ended = λ _ e. absurd (cc);
    unread = λ e. absurd (cc);
    reads = tells_read r.reads (λ e. absurd (cc)) (λ e. absurd (cc));
    writes = tells_write r.writes (λ _. refl) (λ _. refl);
    complete = if_some (source.left src) _ (λ input fine nr nw. absurd (nw (r.writes.cause refl)));
  }
  day_answers word output (Err fault) r = record {
    says = r.memory;
    part = of_bytes_weaker (source.left src) (sink.got out) (sink.got new) (SaysFirstRounds change_stop (TextsOf output)) (SaysOutputPart change_stop (TextsOf output))
        (first_are_part change_stop (TextsOf output)) r.memory;
    ends = refl;
    ended = λ _ e. absurd (cc);
    unread = λ e. absurd (cc);
    reads = tells_read r.reads (λ e. absurd (cc)) (λ e. absurd (cc));
    writes = tells_write r.writes (λ e. absurd (cc)) (λ e. absurd (cc));
    complete = if_some (source.left src) _ (λ input fine nr nw. inr refl);
  }

  -- what a trial wrote, where the source tells its bytes
  of_trial : {F : List ℕ → Type 0} (G : List ℕ → List ℕ → Type 0) → ((input written : List ℕ) → F written → G input written) → Wrote (sink.got out) (sink.got new) F
      → OfBytes (source.left src) (sink.got out) (sink.got new) G
  of_trial G f w = if_some (source.left src) _ (λ input. (w.0, w.1, f input w.0 w.2))

  -- nothing was written
  wrote_nothing : sink.got new ≡ sink.got out → Wrote (sink.got out) (sink.got new) (λ written. written ≡ [])
  wrote_nothing same = ([], subst (λ x. Appended (sink.got out) x []) (sym same) (appended_none (sink.got out)), refl)

-- an audit answers by the status of its end
module _ {S K : Type 0} (source : SourceTells S) (sink : SinkTells K) (src later : S) (out new : K) where
  audit_front : (ended : AuditEnded) → OfBytes (source.left src) (sink.got out) (sink.got new) (SaysEvent ended)
      → OfBytes (source.left src) (sink.got out) (sink.got new) SaysEventFront
  audit_front ended = of_bytes_weaker (source.left src) (sink.got out) (sink.got new) (SaysEvent ended) SaysEventFront (event_is_front ended)

  pub audit_answers : {E : Type 0} (ended : Result AuditEnded E) → ReadsAudit source sink src later out new ended → Answers source sink an_audit src later out new (audit_status ended)
  audit_answers (Ok audit.Done) r = record {
    says = r.says;
    part = audit_front audit.Done r.says;
    ends = refl;
    ended = λ _ _. r.ended refl;
    unread = λ e. absurd (cc);
    reads = tells_read source sink src later out new r.reads (λ e. absurd (cc)) (λ e. absurd (cc));
    writes = tells_write source sink src later out new r.writes (λ e. absurd (cc)) (λ e. absurd (cc));
    complete = if_some (source.left src) _ (λ input fine nr nw. inl refl);
  }
  audit_answers (Ok audit.No) r = record {
    says = r.says;
    part = audit_front audit.No r.says;
    ends = refl;
    ended = λ _ e. absurd (cc);
    unread = λ e. absurd (cc);
    reads = tells_read source sink src later out new r.reads (λ e. absurd (cc)) (λ e. absurd (cc));
    writes = tells_write source sink src later out new r.writes (λ e. absurd (cc)) (λ e. absurd (cc));
    complete = other_is_not_fine audit.No (λ e. absurd (cc)) (source.left src) (sink.got out) (sink.got new) _ _ _ r.says;
  }
  audit_answers (Ok audit.Refused) r = record {
    says = r.says;
    part = audit_front audit.Refused r.says;
    ends = refl;
    ended = λ _ e. absurd (cc);
    unread = λ e. absurd (cc);
    reads = tells_read source sink src later out new r.reads (λ e. absurd (cc)) (λ e. absurd (cc));
    writes = tells_write source sink src later out new r.writes (λ e. absurd (cc)) (λ e. absurd (cc));
    complete = other_is_not_fine audit.Refused (λ e. absurd (cc)) (source.left src) (sink.got out) (sink.got new) _ _ _ r.says;
  }
  audit_answers (Ok audit.ReadFault) r = record {
    says = r.says;
    part = of_bytes_weaker (source.left src) (sink.got out) (sink.got new) (SaysNothing (source.left later)) SaysEventFront (λ input written says. NoEventWritten says.none) r.says;
    ends = refl;
    ended = λ _ e. absurd (cc);
    unread = λ e. absurd (cc);
    reads = tells_read source sink src later out new r.reads (λ _. refl) (λ _. refl);
    writes = tells_write source sink src later out new r.writes (λ e. absurd (cc)) (λ e. absurd (cc));
    complete = if_some (source.left src) _ (λ input fine nr nw. absurd (nr (r.reads.cause refl)));
  }
  audit_answers (Ok audit.WriteFault) r = record {
    says = r.says;
    part = r.says;
    ends = refl;
    ended = λ _ e. absurd (cc);
    unread = λ e. absurd (cc);
    reads = tells_read source sink src later out new r.reads (λ e. absurd (cc)) (λ e. absurd (cc));
    writes = tells_write source sink src later out new r.writes (λ _. refl) (λ _. refl);
    complete = if_some (source.left src) _ (λ input fine nr nw. absurd (nw (r.writes.cause refl)));
  }
  audit_answers (Err fault) r = record {
    says = of_trial source sink src later out new (λ input written. written ≡ []) (λ input written none. none) (wrote_nothing source sink src later out new r.memory);
    part = of_trial source sink src later out new (λ input. SaysEventFront input) (λ input written none. NoEventWritten none) (wrote_nothing source sink src later out new r.memory);
    ends = refl;
    ended = λ _ e. absurd (cc);
    unread = λ e. absurd (cc);
    reads = tells_read source sink src later out new r.reads (λ e. absurd (cc)) (λ e. absurd (cc));
    writes = tells_write source sink src later out new r.writes (λ e. absurd (cc)) (λ e. absurd (cc));
    complete = if_some (source.left src) _ (λ input fine nr nw. inr refl);
  }

-- no read is told as a fault, where none was made
none_read : {S : Type 0} (source : SourceTells S) (src : S) {Fault : Type 0} → (Fault → ⊥) → TellsReads source src src Fault
none_read source src none = reads_then source src src src (λ fault. fault) (reads_none source src) (reads_none source src) none (λ fault. absurd fault)

-- a trial answers by the status of its end, and leaves its source as it was
module _ {S K : Type 0} (source : SourceTells S) (sink : SinkTells K) (src : S) (out new : K) where
  pub trial_answers : {E : Type 0} (t : TrialWords) (ended : Result TrialEnded E) → RunsTrial sink t out new ended
      → Answers source sink (trial_promises t) src src out new (trial_status ended)
  trial_answers t (Ok trial.Done) r = record {
    says = of_trial source sink src src out new (λ input. SaysLine t IsProved) (λ input written says. says) r.says;
    part = of_trial source sink src src out new (λ input. SaysLineFront t) (λ input written says. line_is_front t IsProved written says) r.says;
    ends = refl;
    ended = λ reads. absurd (cc);
    unread = λ _. refl;
    reads = none_read source src (λ e. absurd (cc));
    writes = tells_write source sink src src out new r.writes (λ e. absurd (cc)) (λ e. absurd (cc));
    complete = if_some (source.left src) _ (λ input fine nr nw. inl refl);
  }
  trial_answers t (Ok trial.Unproved) r = record {
    says = of_trial source sink src src out new (λ input. SaysLine t IsUnproved) (λ input written says. says) r.says;
    part = of_trial source sink src src out new (λ input. SaysLineFront t) (λ input written says. line_is_front t IsUnproved written says) r.says;
    ends = refl;
    ended = λ reads. absurd (cc);
    unread = λ _. refl;
    reads = none_read source src (λ e. absurd (cc));
    writes = tells_write source sink src src out new r.writes (λ e. absurd (cc)) (λ e. absurd (cc));
    complete = if_some (source.left src) _ (λ input fine nr nw. inl refl);
  }
  trial_answers t (Ok trial.WriteFault) r = record {
    says = of_trial source sink src src out new (λ input. SaysLineFront t) (λ input written says. says) r.says;
    part = of_trial source sink src src out new (λ input. SaysLineFront t) (λ input written says. says) r.says;
    ends = refl;
    ended = λ reads. absurd (cc);
    unread = λ _. refl;
    reads = none_read source src (λ e. absurd (cc));
    writes = tells_write source sink src src out new r.writes (λ _. refl) (λ _. refl);
    complete = if_some (source.left src) _ (λ input fine nr nw. absurd (nw (r.writes.cause refl)));
  }
  trial_answers t (Err fault) r = record {
    says = of_trial source sink src src out new (λ input written. written ≡ []) (λ input written says. says) (wrote_nothing source sink src src out new r.memory);
    part = of_trial source sink src src out new (λ input. SaysLineFront t) (λ input written says. Nothing says) (wrote_nothing source sink src src out new r.memory);
    ends = refl;
    ended = λ reads. absurd (cc);
    unread = λ _. refl;
    reads = none_read source src (λ e. absurd (cc));
    writes = tells_write source sink src src out new r.writes (λ e. absurd (cc)) (λ e. absurd (cc));
    complete = if_some (source.left src) _ (λ input fine nr nw. inr refl);
  }

-- an input that is fine is not refused
dossiers_done : (text : Dossier → List ℕ) (answer : Status) (unseen : Option (List ℕ)) (input written : List ℕ) (Full : Type 0) → DossiersSay text answer unseen input written → AreDossiers input
    → answer ≢ status.ReadFault → (answer ≡ status.WriteFault → Full) → IsTrue (is_done answer) ⊎ (answer ≡ status.Memory) ⊎ ((answer ≡ status.WriteFault) × Full)
dossiers_done text status.Done unseen input written Full says fine read write = inl refl
dossiers_done text status.No unseen input written Full says fine read write = absurd (says.not_accepted fine.0 fine.1)
dossiers_done text status.Words unseen input written Full says fine read write = absurd says
dossiers_done text status.Refused unseen input written Full says fine read write = absurd says
dossiers_done text status.ReadFault unseen input written Full says fine read write = absurd (read refl)
dossiers_done text status.WriteFault unseen input written Full says fine read write = inr (inr (refl, write refl))
dossiers_done text status.Memory unseen input written Full says fine read write = inr (inl refl)
dossiers_done text status.Unproved unseen input written Full says fine read write = absurd says

squeeze_done : (steps : ℕ) (answer : Status) (unseen : Option (List ℕ)) (input written : List ℕ) (Full : Type 0) → SqueezeSays steps answer unseen input written → AreDossiers input
    → answer ≢ status.ReadFault → (answer ≡ status.WriteFault → Full) → IsTrue (is_done answer) ⊎ (answer ≡ status.Memory) ⊎ ((answer ≡ status.WriteFault) × Full)
squeeze_done steps status.Done unseen input written Full says fine read write = inl refl
squeeze_done steps status.No unseen input written Full says fine read write = absurd (says.not_accepted fine.0 fine.1)
squeeze_done steps status.Words unseen input written Full says fine read write = absurd says
squeeze_done steps status.Refused unseen input written Full says fine read write = absurd says
squeeze_done steps status.ReadFault unseen input written Full says fine read write = absurd (read refl)
squeeze_done steps status.WriteFault unseen input written Full says fine read write = inr (inr (refl, write refl))
squeeze_done steps status.Memory unseen input written Full says fine read write = inr (inl refl)
squeeze_done steps status.Unproved unseen input written Full says fine read write = absurd says

-- nor are sheets that are fine
sheets_done : (answer : Status) (unseen : Option (List ℕ)) (input written : List ℕ) (Full : Type 0) → SqueezeCheckSays answer unseen input written → AreSheets input
    → answer ≢ status.ReadFault → (answer ≡ status.WriteFault → Full) → IsTrue (is_done answer) ⊎ (answer ≡ status.Memory) ⊎ ((answer ≡ status.WriteFault) × Full)
sheets_done status.Done unseen input written Full says fine read write = inl refl
sheets_done status.No unseen input written Full says fine read write = absurd (says.not_accepted fine.0 fine.1)
sheets_done status.Words unseen input written Full says fine read write = absurd says
sheets_done status.Refused unseen input written Full says fine read write = absurd says
sheets_done status.ReadFault unseen input written Full says fine read write = absurd (read refl)
sheets_done status.WriteFault unseen input written Full says fine read write = inr (inr (refl, write refl))
sheets_done status.Memory unseen input written Full says fine read write = inr (inl refl)
sheets_done status.Unproved unseen input written Full says fine read write = absurd says

-- nor are late tasks and a dossier that are fine
delays_done : (answer : Status) (unseen : Option (List ℕ)) (input written : List ℕ) (Full : Type 0) → DelaysSay answer unseen input written → AreDelays input
    → answer ≢ status.ReadFault → (answer ≡ status.WriteFault → Full) → IsTrue (is_done answer) ⊎ (answer ≡ status.Memory) ⊎ ((answer ≡ status.WriteFault) × Full)
delays_done status.Done unseen input written Full says fine read write = inl refl
delays_done status.No unseen input written Full says fine read write = absurd (says.no_form fine.0 fine.1 fine.2)
delays_done status.Words unseen input written Full says fine read write = absurd says
delays_done status.Refused unseen input written Full says fine read write = absurd says
delays_done status.ReadFault unseen input written Full says fine read write = absurd (read refl)
delays_done status.WriteFault unseen input written Full says fine read write = inr (inr (refl, write refl))
delays_done status.Memory unseen input written Full says fine read write = inr (inl refl)
delays_done status.Unproved unseen input written Full says fine read write = absurd says

-- nor is a day that is fine
day_done : (output : DayOutput) (answer : Status) (unseen : Option (List ℕ)) (input written : List ℕ) (Full : Type 0) → DaySays output answer unseen input written → IsFineDay change_stop (MayHave output) input
    → answer ≢ status.ReadFault → (answer ≡ status.WriteFault → Full) → IsTrue (is_done answer) ⊎ (answer ≡ status.Memory) ⊎ ((answer ≡ status.WriteFault) × Full)
day_done output status.Done unseen input written Full says fine read write = inl refl
day_done output status.No unseen input written Full says fine read write = absurd says
day_done output status.Words unseen input written Full says fine read write = absurd says
day_done output status.Refused unseen input written Full says fine read write = absurd (refused_not_fine output input written says fine)
day_done output status.ReadFault unseen input written Full says fine read write = absurd (read refl)
day_done output status.WriteFault unseen input written Full says fine read write = inr (inr (refl, write refl))
day_done output status.Memory unseen input written Full says fine read write = inr (inl refl)
day_done output status.Unproved unseen input written Full says fine read write = inl refl

-- nor is a day with dossiers that belong to it
audit_done : (answer : Status) (unseen : Option (List ℕ)) (input written : List ℕ) (Full : Type 0) → AuditSays answer unseen input written → IsFineAudit input
    → answer ≢ status.ReadFault → (answer ≡ status.WriteFault → Full) → IsTrue (is_done answer) ⊎ (answer ≡ status.Memory) ⊎ ((answer ≡ status.WriteFault) × Full)
audit_done status.Done unseen input written Full says fine read write = inl refl
audit_done status.No unseen input written Full says fine read write = absurd (let e = fine_audit_is_done audit.No input written says fine in cc)
audit_done status.Words unseen input written Full says fine read write = absurd says
audit_done status.Refused unseen input written Full says fine read write = absurd (let e = fine_audit_is_done audit.Refused input written says fine in cc)
audit_done status.ReadFault unseen input written Full says fine read write = absurd (read refl)
audit_done status.WriteFault unseen input written Full says fine read write = inr (inr (refl, write refl))
audit_done status.Memory unseen input written Full says fine read write = inr (inl refl)
audit_done status.Unproved unseen input written Full says fine read write = absurd says

-- nor does a trial fail but for a write fault or want of memory
trial_done : (t : TrialWords) (answer : Status) (unseen : Option (List ℕ)) (input written : List ℕ) (Full : Type 0) → TrialSays t answer unseen input written
    → (answer ≡ status.WriteFault → Full) → IsTrue (is_done answer) ⊎ (answer ≡ status.Memory) ⊎ ((answer ≡ status.WriteFault) × Full)
trial_done t status.Done unseen input written Full says write = inl refl
trial_done t status.No unseen input written Full says write = absurd says
trial_done t status.Words unseen input written Full says write = absurd says
trial_done t status.Refused unseen input written Full says write = absurd says
trial_done t status.ReadFault unseen input written Full says write = absurd says
trial_done t status.WriteFault unseen input written Full says write = inr (inr (refl, write refl))
trial_done t status.Memory unseen input written Full says write = inr (inl refl)
trial_done t status.Unproved unseen input written Full says write = inl refl

pub fine_is_done : (command : Command) (answer : Status) (unseen : Option (List ℕ)) (input written : List ℕ) (Full : Type 0)
    → (promises_of command).says answer unseen input written → (promises_of command).fine input → answer ≢ status.ReadFault → (answer ≡ status.WriteFault → Full)
    → IsTrue (is_done answer) ⊎ (answer ≡ status.Memory) ⊎ ((answer ≡ status.WriteFault) × Full)
fine_is_done Check answer unseen input written Full says fine read write = dossiers_done _ answer unseen input written Full says fine read write
fine_is_done Rosters answer unseen input written Full says fine read write = dossiers_done _ answer unseen input written Full says fine read write
fine_is_done Why answer unseen input written Full says fine read write = dossiers_done _ answer unseen input written Full says fine read write
fine_is_done Delays answer unseen input written Full says fine read write = delays_done answer unseen input written Full says fine read write
fine_is_done (Squeeze s) answer unseen input written Full says fine read write = squeeze_done s.steps answer unseen input written Full says fine read write
fine_is_done SqueezeCheck answer unseen input written Full says fine read write = sheets_done answer unseen input written Full says fine read write
fine_is_done Apply answer unseen input written Full says fine read write = day_done Instances answer unseen input written Full says fine read write
fine_is_done Day answer unseen input written Full says fine read write = day_done Dossiers answer unseen input written Full says fine read write
fine_is_done Audit answer unseen input written Full says fine read write = audit_done answer unseen input written Full says fine read write
fine_is_done (Trial t) answer unseen input written Full says fine read write = trial_done t answer unseen input written Full says write
