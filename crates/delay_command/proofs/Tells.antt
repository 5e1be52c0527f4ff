-- what the command says of what it reads and writes
use Rattle.std.proofs.Common.{◌≡◌, ◌≢◌, inl, inr, ℕ, List, [], ◌∷◌, Option, None, Some, Result, Ok, Err, take, ap, subst, sym, refl, ◌∙◌}
use Rattle.std.specs.Prelude.{IfOk, OnErr, IsErr}
use Rattle.crew_terms.specs.Instance.{Instance}
use Rattle.crew_terms.specs.Plan.{Plan}
use Rattle.crew_io.specs.Appends.{appended_none}
use Rattle.crew_io.specs.Bytes.{OfBytes}
use Rattle.crew_io.specs.Chains.{puts_tell, writes_none, writes_then}
use Rattle.crew_io.specs.Draws.{TellsReads, reads_none, reads_then}
use Rattle.crew_io.specs.Fronts.{all_is_part}
use Rattle.crew_io.specs.Io.{Appended, AppendedPart, HasEnded}
use Rattle.crew_io.specs.Puts.{Puts, TellsWrites}
use Rattle.crew_io.specs.declared.sink.Sink.{Ghosts as SinkTells}
use Rattle.crew_io.specs.declared.source.Source.{Ghosts as SourceTells}
use Rattle.delay_print.specs.Texts.{delays_text}
use Rattle.delay_wave.specs.declared.waits.Wait.{Wait}
use Rattle.cert_checker.specs.Checked.{Checked, IsWholeAt}
use Rattle.dossier_terms.specs.declared.Reason.{Reason}
use Rattle.dossier_terms.specs.Dossier.{Dossier}
use Rattle.dossier_terms.specs.Texts.{no_line}
use Rattle.dossier_commands.specs.declared.read.Ended.{Ended}
use Rattle.dossier_commands.specs.declared.read.Ended.TheVariants.{Done, No, ReadFault, WriteFault}
use Rattle.late_lines.specs.declared.first_line.LateLine.{LateLine}
use Rattle.late_lines.specs.declared.halt.Halt.{Halt}
use Rattle.late_lines.specs.declared.halt.Halt.TheVariants as halts
use Rattle.late_lines.specs.First.{HaltsFirst}
use Rattle.late_lines.specs.Lines.{AreLateLines}
use Rattle.delay_command.specs.Alone.{HaltsBehind}
use Rattle.delay_command.specs.Delays.{AmidLates, BeforeDossier, FromDossier, IsDelays, IsDelaysRefusal, PastLates, late_front}
use Rattle.delay_command.specs.Halts.{Gives, HaltsAt, HasWaits}
use Rattle.delay_command.specs.Says.{Nothing, OfEach, OfRefusal, OfText, PutsEnd, PutsHalt, SaysAt, SaysDelays, SaysFront, SaysRefused, TellsDelays, TellsOf}

-- a halt before the dossier, and one behind the late lines
pub halts_first : (input : List ℕ) (left : Option (List ℕ)) (halt : Halt) → HaltsFirst input left halt → HaltsAt input left halt
halts_first input left (halts.No number reason) h = BeforeDossier h
halts_first input left halts.ReadFault h = record { part = h.part; unseen = h.unseen; rest = h.rest; read = AmidLates h.lates h.are h.read h.front }
halts_first input left halts.OutOfMemory h = tt

pub halts_past : (input : List ℕ) (left : Option (List ℕ)) (lines : List LateLine) → AreLateLines lines → (halt : Halt) → HaltsBehind (late_front lines) input left halt → HaltsAt input left halt
halts_past input left lines are (halts.No number reason) h = FromDossier lines are h
halts_past input left lines are halts.ReadFault h = record { part = h.part; unseen = h.unseen; rest = h.rest; read = PastLates lines are h.read }
halts_past input left lines are halts.OutOfMemory h = tt

part_of : (old new : Option (List ℕ)) (text : List ℕ) → AppendedPart old new text → (n : ℕ) × Appended old new (take n text)
part_of None new text p = (0, p)
part_of (Some bytes) new text p = (p.0, p.2)

of_each : (left got later : Option (List ℕ)) (Holds : List ℕ → Type 0) (Fact : List ℕ → List ℕ → Type 0) → ((input : List ℕ) → left ≡ Some input → Holds input)
    → OfEach Holds got later Fact → OfBytes left got later Fact
of_each None got later Holds Fact h o = tt
of_each (Some input) got later Holds Fact h o = o input (h input refl)

same_end : {F : Type 0} (a b : Ended) → ◌≡◌ {A = Result Ended F} (Ok a) (Ok b) → a ≡ b
same_end a b e = cc

-- a text is written, or a front of it
module _ {K T E F : Type 0} (sink : SinkTells K) (text : List ℕ) (end : Ended) (out new : K) (other : end ≢ WriteFault) where
  pub puts_whole : (x : T) → Puts {E = E} sink text out new (Ok x) → PutsEnd {E = F} sink text end out new (Ok end)
  puts_whole x p = record {
    answer = inl refl;
    all = λ _. p.all;
    part = all_is_part (sink.got out) (sink.got new) text p.all;
    writes = writes_then sink out out new (λ fault. fault) (writes_none sink out) (puts_tell sink text out new _ p) (λ e. absurd (other (same_end end WriteFault e))) (λ e. absurd (cc));
  }

  pub puts_part : (e : E) → Puts {T = T} sink text out new (Err e) → PutsEnd {E = F} sink text end out new (Ok WriteFault)
  puts_part e p = record {
    answer = inr refl;
    all = λ is. absurd (other (same_end end WriteFault (sym is)));
    part = p.part;
    writes = writes_then sink out out new (λ fault. fault) (writes_none sink out) (puts_tell sink text out new _ p) (λ _. refl) (λ _. refl);
  }

module _ {S K : Type 0} (source : SourceTells S) (sink : SinkTells K) where
  pub tells_read : {A B : Type 0} (src later : S) → TellsReads source src later A → (B → A) → (A → B) → TellsReads source src later B
  tells_read src later t to from = reads_then source src src later (λ fault. fault) (reads_none source src) t to from

  tells_write : {A B : Type 0} (out new : K) → TellsWrites sink out new A → (B → A) → (A → B) → TellsWrites sink out new B
  tells_write out new t to from = writes_then sink out out new (λ fault. fault) (writes_none sink out) t to from

  module _ (Holds : List ℕ → Type 0) (src later : S) (out : K) where
    -- where the text that is due is written, or a front of it
    pub tells_end : {E : Type 0} (new : K) (text : List ℕ) (end : Ended) (result : Result Ended E) → PutsEnd sink text end out new result
        → ((input : List ℕ) → Holds input → SaysAt end (source.left later) input text) → ((input : List ℕ) → Holds input → (n : ℕ) → SaysFront input (take n text))
        → (end ≡ Done → HasEnded (source.left later)) → end ≢ ReadFault → end ≢ WriteFault → TellsReads source src later ⊥ → TellsOf source sink Holds src later out new result
    tells_end {E} new text end result p says front ended no_read no_write reads = elim p.answer [
      | inl e ↦ subst (λ (r : Result Ended E). TellsOf source sink Holds src later out new r) (sym e) (record {
        says = λ input h. (text, p.all e, says input h);
        front = begun;
        memory = tt;
        ended = λ is. ended (same end Done is);
        reads = tells_read src later reads (λ is. absurd (no_read (same end ReadFault is))) (λ fault. absurd fault);
        writes = tells_write out new p.writes (λ is. absurd (no_write (same end WriteFault is))) (λ is. absurd (no_write (same end WriteFault (sym e ∙ is))));
      })
      | inr e ↦ subst (λ (r : Result Ended E). TellsOf source sink Holds src later out new r) (sym e) (record {
        says = begun;
        front = begun;
        memory = tt;
        ended = λ is. absurd (cc);
        reads = tells_read src later reads (λ is. absurd (cc)) (λ fault. absurd fault);
        writes = tells_write out new p.writes (λ _. e) (λ _. refl);
      })
    ]
      where
        same : (a b : Ended) → ◌≡◌ {A = Result Ended E} (Ok a) (Ok b) → a ≡ b
        same a b e = cc

        begun : OfEach Holds (sink.got out) (sink.got new) SaysFront
        begun input h = let w = part_of (sink.got out) (sink.got new) text p.part in (take w.0 text, w.1, front input h w.0)

    -- what waits for what is told
    pub waits_tell : {E : Type 0} (new : K) (lines : List LateLine) (checker : Checked) (i : Instance) (p : Plan) → ((d : Dossier) → IsWholeAt checker.at d → i ≡ d.instance)
        → ((d : Dossier) → IsWholeAt checker.at d → p ≡ d.plan) → (waits : List (Option Wait)) (result : Result Ended E) → HasWaits lines checker waits
        → ((input : List ℕ) → Holds input → Gives input lines checker) → HasEnded (source.left later) → TellsReads source src later ⊥
        → PutsEnd sink (delays_text i p waits) Done out new result → TellsOf source sink Holds src later out new result
    waits_tell new lines checker i p instance plan waits result has gives ended reads puts =
        tells_end new (delays_text i p waits) Done result puts says (λ input h n. OfText (delays_text i p waits) (says input h) n refl) (λ _. ended) (λ e. absurd (cc)) (λ e. absurd (cc)) reads
      where
        says : (input : List ℕ) → Holds input → SaysDelays input (delays_text i p waits)
        says input h =
            let g = gives input h in
            record {
              lines = lines;
              dossier = g.dossier;
              form = g.form;
              true_yes = g.true_yes;
              text = record {
                waits = waits;
                are = has.are g.dossier g.whole;
                is = ap (λ (j : Instance). delays_text j p waits) (instance g.dossier g.whole) ∙ ap (λ (q : Plan). delays_text g.dossier.instance q waits) (plan g.dossier g.whole);
              };
            }

    none_written : OfEach Holds (sink.got out) (sink.got out) SaysFront
    none_written input h = ([], appended_none (sink.got out), Nothing refl)

    -- where memory is wanting nothing is written
    pub nothing_tells : {E : Type 0} (result : Result Ended E) → IsErr result → TellsReads source src later ⊥ → TellsOf source sink Holds src later out out result
    nothing_tells (Ok x) is reads = absurd (cc)
    nothing_tells (Err fault) is reads = record {
      says = tt;
      front = none_written;
      memory = λ input h. ([], appended_none (sink.got out), refl);
      ended = λ is. absurd (cc);
      reads = tells_read src later reads (λ is. absurd (cc)) (λ fault. absurd fault);
      writes = tells_write out out (writes_none sink out) (λ is. absurd (cc)) (λ fault. absurd fault);
    }

    cut_off_tells : {E : Type 0} (result : Result Ended E) → result ≡ Ok ReadFault → ((input : List ℕ) → Holds input → HaltsAt input (source.left later) halts.ReadFault)
        → TellsReads source src later (halts.ReadFault ≡ halts.ReadFault) → TellsOf source sink Holds src later out out result
    cut_off_tells {E} result is facts reads = subst (λ (r : Result Ended E). TellsOf source sink Holds src later out out r) (sym is) (record {
      says = λ input h. ([], appended_none (sink.got out), record { none = refl; read = facts input h });
      front = none_written;
      memory = tt;
      ended = λ is. absurd (cc);
      reads = tells_read src later reads (λ _. refl) (λ _. refl);
      writes = tells_write out out (writes_none sink out) (λ is. absurd (cc)) (λ fault. absurd fault);
    })

    -- why a reading went no further is told
    pub halts_tell : {E : Type 0} → ((input : List ℕ) (number : ℕ) (reason : Reason) (lines : List LateLine) (d : Dossier) → IsDelaysRefusal input number reason → IsDelays input lines d → ⊥)
        → (new : K) (halt : Halt) (result : Result Ended E) → PutsHalt sink halt out new result → ((input : List ℕ) → Holds input → HaltsAt input (source.left later) halt)
        → TellsReads source src later (halt ≡ halts.ReadFault) → TellsOf source sink Holds src later out new result
    halts_tell law new (halts.No number reason) result p facts reads =
        tells_end new (no_line number reason) No result p says (λ input h n. OfRefusal (no_line number reason) (says input h) n refl)
        (λ e. absurd (cc)) (λ e. absurd (cc)) (λ e. absurd (cc)) (tells_read src later reads (λ e. absurd e) (λ e. absurd (cc)))
      where
        says : (input : List ℕ) → Holds input → SaysRefused input (no_line number reason)
        says input h = record {
          no_form = λ lines d form. law input number reason lines d (facts input h) form;
          number = number;
          reason = reason;
          refusal = facts input h;
          text = refl;
        }
    halts_tell {E} law new halts.ReadFault result p facts reads =
        subst (λ (k : K). TellsOf source sink Holds src later out k result) (sym p.0) (cut_off_tells result p.1 facts reads)
    halts_tell {E} law new halts.OutOfMemory result p facts reads =
        subst (λ (k : K). TellsOf source sink Holds src later out k result) (sym p.0) (nothing_tells result p.1 (tells_read src later reads (λ e. absurd e) (λ e. absurd (cc))))

  -- the same of the whole command, whose first lines were read without a fault
  pub delays_tell : {E : Type 0} (Holds : List ℕ → Type 0) (src mid later : S) (out new : K) (result : Result Ended E) → TellsOf source sink Holds mid later out new result
      → ((input : List ℕ) → source.left src ≡ Some input → Holds input) → TellsReads source src mid ⊥ → TellsDelays source sink src later out new result
  delays_tell {E} Holds src mid later out new result t holds reads = record {
    says = says result t.says;
    front = of_each (source.left src) (sink.got out) (sink.got new) Holds SaysFront holds t.front;
    memory = memory result t.memory;
    ended = t.ended;
    reads = reads_then source src mid later (λ fault. fault) reads t.reads (λ fault. fault) (λ fault. fault);
    writes = t.writes;
  }
    where
      says : (result : Result Ended E) → IfOk result (λ ended. OfEach Holds (sink.got out) (sink.got new) (SaysAt ended (source.left later)))
          → IfOk result (λ ended. OfBytes (source.left src) (sink.got out) (sink.got new) (SaysAt ended (source.left later)))
      says (Ok ended) s = of_each (source.left src) (sink.got out) (sink.got new) Holds (SaysAt ended (source.left later)) holds s
      says (Err fault) s = tt

      memory : (result : Result Ended E) → OnErr result (OfEach Holds (sink.got out) (sink.got new) (λ input written. written ≡ [])) → OnErr result (OfBytes (source.left src) (sink.got out) (sink.got new) (λ input written. written ≡ []))
      memory (Ok ended) m = tt
      memory (Err fault) m = of_each (source.left src) (sink.got out) (sink.got new) Holds (λ input written. written ≡ []) holds m
