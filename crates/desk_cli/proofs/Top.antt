-- what the outcomes of a call say
use Rattle.std.proofs.Common.{◌≡◌, ◌∷◌, [], inl, inr, List, ℕ, Option, None, Some, Result, Ok, Err, length, refl, sym, ap, ◌∙◌, arith}
use Rattle.std.proofs.Math.Seq.{take-length}
use Rattle.std.specs.Prelude.{IfSome}
use Rattle.crew_io.specs.Bytes.{OfBytes, of_bytes_weaker}
use Rattle.crew_io.specs.Puts.{TellsWrites}
use Rattle.crew_io.specs.Draws.{TellsReads, reads_none, reads_then}
use Rattle.crew_io.specs.Chains.{writes_none, writes_then}
use Rattle.crew_io.specs.declared.sink.Sink.{Ghosts as SinkTells}
use Rattle.crew_io.specs.declared.source.Source.{Ghosts as SourceTells}
use Rattle.desk_commands.specs.Says.{SaysNo, ReadsDesk}
use Rattle.desk_commands.specs.declared.output.DeskOutput.{DeskOutput}
use Rattle.desk_commands.specs.declared.read.Refusal.{Refusal}
use Rattle.desk_commands.specs.declared.read.Ended.{Ended}
use Rattle.desk_commands.specs.declared.read.Ended.TheVariants as dossiers
use Rattle.day_faults.specs.Days.{first_stop, stops_of}
use Rattle.day_faults.specs.declared.faults.FaultyRecord.{FaultyRecord}
use Rattle.day_faults.specs.declared.stops.Stop.{Stop}
use Rattle.day_explain.specs.Says.{IsFineText, ReadsDay, SaysAt, SaysWrong}
use Rattle.day_explain.specs.Says.SaysWrong.{IsTooLong, HasFaults}
use Rattle.day_explain.specs.Says.SaysFront.{OfNothing, OfFine, OfWrong}
use Rattle.day_explain.specs.declared.read.Ended.{Ended as DayEnded}
use Rattle.day_explain.specs.declared.read.Ended.TheVariants as day
use Rattle.desk_cli.specs.Run.{Answers, AreDossiers, over_day, over_dossiers}
use Rattle.desk_cli.specs.Status.{day_outcome, outcome_of, told_nothing}
use Rattle.desk_cli.specs.declared.run.Outcome.{Outcome}
use Rattle.desk_cli.specs.declared.status.Status.TheVariants.{Done, No, ReadFault, WriteFault, Memory}

pub if_some : {X : Type 0} (o : Option X) (P : X → Type 0) → ((x : X) → P x) → IfSome o P
if_some None P h = tt
if_some (Some x) P h = h x

-- input with a line that is refused is not fine
no_is_not_fine : (output : DeskOutput) (told : Refusal) (left got later : Option (List ℕ)) (A B C : Type 0) → OfBytes left got later (SaysNo output told) → IfSome left (λ input. AreDossiers input → A → B → C)
no_is_not_fine output told None got later A B C says = tt
no_is_not_fine output told (Some input) got later A B C says = λ fine a b. absurd (says.2.not_accepted fine.0 fine.1)

-- of some faulty records the first has a stop
some_first : (records : List FaultyRecord) → (records ≡ [] → ⊥) → first_stop (stops_of records) ≡ None → ⊥
some_first [] some e = some refl
some_first (r ∷ rs) some e = let f : ◌≡◌ {A = Option Stop} (Some r.stop) None = e in absurd (cc)

-- a day with something wrong is not fine
wrong_not_fine : (input written : List ℕ) → SaysWrong input written → IsFineText input → ⊥
wrong_not_fine input written (IsTooLong more text) fine = let b = fine.0 in absurd (omega arith)
wrong_not_fine input written (HasFaults within faults told are some text) fine = some_first faults.records.items some (fine.1 _ are.first)

wrong_is_not_fine : (left got later : Option (List ℕ)) (A B C : Type 0) → OfBytes left got later SaysWrong → IfSome left (λ input. IsFineText input → A → B → C)
wrong_is_not_fine None got later A B C says = tt
wrong_is_not_fine (Some input) got later A B C says = λ fine a b. absurd (wrong_not_fine input says.0 says.2 fine)

module _ {S K : Type 0} (source : SourceTells S) (sink : SinkTells K) (src later : S) (out new : K) where
  -- the same fault by another name
  tells_read : {A B : Type 0} → TellsReads source src later A → (B → A) → (A → B) → TellsReads source src later B
  tells_read t to from = reads_then source src src later (λ fault. fault) (reads_none source src) t to from

  tells_write : {A B : Type 0} → TellsWrites sink out new A → (B → A) → (A → B) → TellsWrites sink out new B
  tells_write t to from = writes_then sink out out new (λ fault. fault) (writes_none sink out) t to from

  -- a command over dossiers answers by the outcome of its end
  pub dossiers_answer : {E : Type 0} (word : List ℕ) (output : DeskOutput) (ended : Result Ended E) → ReadsDesk source sink output src later out new ended
      → Answers source sink (over_dossiers word output) src later out new (outcome_of ended)
  dossiers_answer word output (Ok dossiers.Done) r = record {
    says = r.says;
    part = r.front;
    words = λ e. absurd (cc);
    ended = λ _. r.ended refl;
    reads = tells_read r.reads (λ e. absurd (cc)) (λ e. absurd (cc));
    writes = tells_write r.writes (λ e. absurd (cc)) (λ e. absurd (cc));
    complete = if_some (source.left src) _ (λ input fine nr nw. inl refl);
  }
  dossiers_answer word output (Ok (dossiers.No told)) r = record {
    says = r.says;
    part = r.front;
    words = λ e. absurd (cc);
    ended = λ e. absurd (cc);
    reads = tells_read r.reads (λ e. absurd (cc)) (λ e. absurd (cc));
    writes = tells_write r.writes (λ e. absurd (cc)) (λ e. absurd (cc));
    complete = no_is_not_fine output told (source.left src) (sink.got out) (sink.got new) _ _ _ r.says;
  }
  dossiers_answer word output (Ok dossiers.ReadFault) r = record {
    says = r.says;
    part = r.front;
    words = λ e. absurd (cc);
    ended = λ e. absurd (cc);
    reads = tells_read r.reads (λ _. refl) (λ _. refl);
    writes = tells_write r.writes (λ e. absurd (cc)) (λ e. absurd (cc));
    complete = if_some (source.left src) _ (λ input fine nr nw. absurd (nr (r.reads.cause refl)));
  }
  dossiers_answer word output (Ok dossiers.WriteFault) r = record {
    says = r.says;
    part = r.front;
    words = λ e. absurd (cc);
    ended = λ e. absurd (cc);
    reads = tells_read r.reads (λ e. absurd (cc)) (λ e. absurd (cc));
    writes = tells_write r.writes (λ _. refl) (λ _. refl);
    complete = if_some (source.left src) _ (λ input fine nr nw. absurd (nw (r.writes.cause refl)));
  }
  dossiers_answer word output (Err fault) r = record {
    says = r.front;
    part = r.front;
    words = λ e. absurd (cc);
    ended = λ e. absurd (cc);
    reads = tells_read r.reads (λ e. absurd (cc)) (λ e. absurd (cc));
    writes = tells_write r.writes (λ e. absurd (cc)) (λ e. absurd (cc));
    complete = if_some (source.left src) _ (λ input fine nr nw. inr refl);
  }

  -- what is said of a day, as an outcome says it
  day_says : (word : List ℕ) (answer : DayEnded) (outcome : Outcome)
      → ((input written : List ℕ) → SaysAt answer (source.left later) input written → (over_day word).says outcome (source.left later) input written)
      → OfBytes (source.left src) (sink.got out) (sink.got new) (SaysAt answer (source.left later))
      → OfBytes (source.left src) (sink.got out) (sink.got new) ((over_day word).says outcome (source.left later))
  day_says word answer outcome f says =
      of_bytes_weaker (source.left src) (sink.got out) (sink.got new) (SaysAt answer (source.left later)) ((over_day word).says outcome (source.left later)) f says

  -- a command over a day answers by the outcome of its end
  pub day_answers : {E : Type 0} (word : List ℕ) (ended : Result DayEnded E) → ReadsDay source sink src later out new ended
      → Answers source sink (over_day word) src later out new (day_outcome ended)
  day_answers word (Ok day.Fine) r = record {
    says = day_says word day.Fine (told_nothing Done) (λ input written s. (refl, s)) r.says;
    part = day_says word day.Fine (told_nothing WriteFault) (λ input written s. (refl, OfFine written s (length written) (sym (take-length written)))) r.says;
    words = λ e. absurd (cc);
    ended = λ _. r.ended refl;
    reads = tells_read r.reads (λ e. absurd (cc)) (λ e. absurd (cc));
    writes = tells_write r.writes (λ e. absurd (cc)) (λ e. absurd (cc));
    complete = if_some (source.left src) _ (λ input fine nr nw. inl refl);
  }
  day_answers word (Ok day.Wrong) r = record {
    says = day_says word day.Wrong (told_nothing No) (λ input written s. (refl, s)) r.says;
    part = day_says word day.Wrong (told_nothing WriteFault) (λ input written s. (refl, OfWrong written s (length written) (sym (take-length written)))) r.says;
    words = λ e. absurd (cc);
    ended = λ e. absurd (cc);
    reads = tells_read r.reads (λ e. absurd (cc)) (λ e. absurd (cc));
    writes = tells_write r.writes (λ e. absurd (cc)) (λ e. absurd (cc));
    complete = wrong_is_not_fine (source.left src) (sink.got out) (sink.got new) _ _ _ r.says;
  }
  day_answers word (Ok day.ReadFault) r = record {
    says = day_says word day.ReadFault (told_nothing ReadFault) (λ input written s. (refl, s)) r.says;
    part = day_says word day.ReadFault (told_nothing WriteFault) (λ input written s. (refl, OfNothing s.none)) r.says;
    words = λ e. absurd (cc);
    ended = λ e. absurd (cc);
    reads = tells_read r.reads (λ _. refl) (λ _. refl);
    writes = tells_write r.writes (λ e. absurd (cc)) (λ e. absurd (cc));
    complete = if_some (source.left src) _ (λ input fine nr nw. absurd (nr (r.reads.cause refl)));
  }
  day_answers word (Ok day.WriteFault) r = record {
    says = day_says word day.WriteFault (told_nothing WriteFault) (λ input written s. (refl, s)) r.says;
    part = day_says word day.WriteFault (told_nothing WriteFault) (λ input written s. (refl, s)) r.says;
    words = λ e. absurd (cc);
    ended = λ e. absurd (cc);
    reads = tells_read r.reads (λ e. absurd (cc)) (λ e. absurd (cc));
    writes = tells_write r.writes (λ _. refl) (λ _. refl);
    complete = if_some (source.left src) _ (λ input fine nr nw. absurd (nw (r.writes.cause refl)));
  }
  day_answers word (Err fault) r = record {
    says = of_bytes_weaker (source.left src) (sink.got out) (sink.got new) (λ (input written : List ℕ). written ≡ []) ((over_day word).says (told_nothing Memory) (source.left later)) (λ input written none. (refl, none)) r.memory;
    part = of_bytes_weaker (source.left src) (sink.got out) (sink.got new) (λ (input written : List ℕ). written ≡ []) ((over_day word).says (told_nothing WriteFault) (source.left later)) (λ input written none. (refl, OfNothing none)) r.memory;
    words = λ e. absurd (cc);
    ended = λ e. absurd (cc);
    reads = tells_read r.reads (λ e. absurd (cc)) (λ e. absurd (cc));
    writes = tells_write r.writes (λ e. absurd (cc)) (λ e. absurd (cc));
    complete = if_some (source.left src) _ (λ input fine nr nw. inr refl);
  }
