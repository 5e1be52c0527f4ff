-- how a command of the desk ends, behind a last write
use Rattle.std.proofs.Common.{ℕ, List, Option, Result, Ok, Err, refl, subst, sym}
use Rattle.crew_io.specs.Fronts.{all_is_part}
use Rattle.crew_io.specs.Io.{HasEnded}
use Rattle.crew_io.specs.Puts.{Puts, TellsWrites}
use Rattle.crew_io.specs.Draws.{TellsReads, reads_none, reads_then}
use Rattle.crew_io.specs.Chains.{puts_tell, writes_then}
use Rattle.crew_io.specs.Lines.{Reader}
use Rattle.crew_io.specs.declared.sink.Sink.{Ghosts as SinkTells}
use Rattle.crew_io.specs.declared.source.Source.{Ghosts as SourceTells}
use Rattle.dossier_terms.specs.declared.Reason.{Reason}
use Rattle.dossier_terms.specs.Dossier.{Dossier}
use Rattle.cert_checker.specs.Checked.{Checked}
use Rattle.dossier_commands.specs.Input.{Front, IsAcceptedBehind, IsBetween, IsRefusal}
use Rattle.round_changes.specs.Named.{RoundByNames}
use Rattle.desk_commands.specs.Rounds.{end_of}
use Rattle.desk_commands.specs.Says.{Finishes, ReadsDesk, ended_by}
use Rattle.desk_commands.specs.declared.output.DeskOutput.{DeskOutput}
use Rattle.desk_commands.specs.declared.read.Refusal.{Refusal}
use Rattle.desk_commands.specs.declared.read.Ended.{Ended}
use Rattle.desk_commands.specs.declared.read.Ended.TheVariants.{Done, No, WriteFault}
use Rattle.desk_commands.proofs.Said.{HasSaidOf, front_end, says_done, says_no}

module _ {S K : Type 0} (source : SourceTells S) (sink : SinkTells K) (output : DeskOutput) (src0 src later : S) (out0 out new : K) (old : Reader) (at : Checked) (rounds : ℕ) (before : Option RoundByNames)
    (so : HasSaidOf output (source.left src0) (sink.got out0) old (source.left src) (sink.got out) at rounds before)
    (reads : TellsReads source src0 later ⊥) (writes : TellsWrites sink out0 out ⊥) where
  -- no read fault is told
  no_read : {Fault : Type 0} → (Fault → ⊥) → TellsReads source src0 later Fault
  no_read none = reads_then source src0 later later (λ fault. fault) reads (reads_none source later) none (λ fault. absurd fault)

  -- the fault of the last write is told
  cut_off : {E X F : Type 0} (e : F) → Puts {T = X} sink (end_of output rounds) out new (Err e) → ReadsDesk {E = E} source sink output src0 later out0 new (Ok WriteFault)
  cut_off e puts =
      let front = front_end output (source.left src0) (sink.got out0) old (source.left src) (sink.got out) at rounds before so (sink.got new) puts.part in
      record {
        says = front;
        front = front;
        ended = λ e. absurd (cc);
        reads = no_read (λ e. absurd (cc));
        writes = writes_then sink out0 out new (λ fault. fault) writes (puts_tell sink _ _ _ _ puts) (λ _. refl) (λ _. refl);
      }

  -- the input has ended behind a dossier
  pub ends_done : {E : Type 0} → ((front : Front) (input : List ℕ) (done : List Dossier) → IsBetween front input done old (source.left src) at → IsAcceptedBehind front input done) → HasEnded (source.left later)
      → (last : Ended) → Finishes sink (end_of output rounds) Done out new last → ReadsDesk {E = E} source sink output src0 later out0 new (Ok last)
  ends_done {E = E} whole over last f = subst (λ e. ReadsDesk {E = E} source sink output src0 later out0 new (Ok e)) (sym f.is) (by f.answer f.puts)
    where
      by : {E : Type 0} (answer : Result (Unit {0}) (Unit {0})) → Puts sink (end_of output rounds) out new answer → ReadsDesk {E = E} source sink output src0 later out0 new (Ok (ended_by Done answer))
      by (Ok x) puts = record {
        says = says_done output (source.left src0) (sink.got out0) old (source.left src) (sink.got out) at rounds before so (sink.got new) whole puts.all;
        front = front_end output (source.left src0) (sink.got out0) old (source.left src) (sink.got out) at rounds before so (sink.got new) (all_is_part (sink.got out) (sink.got new) (end_of output rounds) puts.all);
        ended = λ _. over;
        reads = no_read (λ e. absurd (cc));
        writes = writes_then sink out0 out new (λ fault. fault) writes (puts_tell sink _ _ _ _ puts) (λ e. absurd (cc)) (λ e. absurd (cc));
      }
      by (Err e) puts = cut_off e puts

  -- a line is refused
  pub ends_no : {E : Type 0} (told : Refusal)
      → ((front : Front) (input : List ℕ) (done : List Dossier) (number : ℕ) (reason : Reason) (dossiers : List Dossier) → IsRefusal front input done number reason → IsAcceptedBehind front input dossiers → ⊥)
      → ((front : Front) (input : List ℕ) (done : List Dossier) → IsBetween front input done old (source.left src) at → IsRefusal front input done told.line told.reason)
      → (last : Ended) → Finishes sink (end_of output rounds) (No told) out new last → ReadsDesk {E = E} source sink output src0 later out0 new (Ok last)
  ends_no {E = E} told law refused last f = subst (λ e. ReadsDesk {E = E} source sink output src0 later out0 new (Ok e)) (sym f.is) (by f.answer f.puts)
    where
      by : {E : Type 0} (answer : Result (Unit {0}) (Unit {0})) → Puts sink (end_of output rounds) out new answer → ReadsDesk {E = E} source sink output src0 later out0 new (Ok (ended_by (No told) answer))
      by (Ok x) puts = record {
        says = says_no output (source.left src0) (sink.got out0) old (source.left src) (sink.got out) at rounds before so (sink.got new) told law refused puts.all;
        front = front_end output (source.left src0) (sink.got out0) old (source.left src) (sink.got out) at rounds before so (sink.got new) (all_is_part (sink.got out) (sink.got new) (end_of output rounds) puts.all);
        ended = λ e. absurd (cc);
        reads = no_read (λ e. absurd (cc));
        writes = writes_then sink out0 out new (λ fault. fault) writes (puts_tell sink _ _ _ _ puts) (λ e. absurd (cc)) (λ e. absurd (cc));
      }
      by (Err e) puts = cut_off e puts
