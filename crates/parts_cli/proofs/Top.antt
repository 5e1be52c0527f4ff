-- what the statuses of a call say
use Rattle.std.proofs.Common.{inl, inr, List, ℕ, Option, None, Some, Result, Ok, Err, refl}
use Rattle.std.specs.Prelude.{IfSome}
use Rattle.crew_io.specs.Bytes.{OfBytes}
use Rattle.crew_io.specs.Puts.{TellsWrites}
use Rattle.crew_io.specs.Draws.{TellsReads, reads_none, reads_then}
use Rattle.crew_io.specs.Chains.{writes_none, writes_then}
use Rattle.crew_io.specs.declared.sink.Sink.{Ghosts as SinkTells}
use Rattle.crew_io.specs.declared.source.Source.{Ghosts as SourceTells}
use Rattle.dossier_commands.specs.declared.read.Ended.{Ended}
use Rattle.dossier_commands.specs.declared.read.Ended.TheVariants as check
use Rattle.bundle_command.specs.Says.{WritesPieces, SaysNo as SaysNotWritten}
use Rattle.bundle_command.specs.declared.command.PiecesEnded.{PiecesEnded}
use Rattle.bundle_command.specs.declared.command.PiecesEnded.TheVariants as pieces
use Rattle.parts_command.specs.Says.{ReadsBundles, SaysNo}
use Rattle.parts_cli.specs.Run.{Answers, AreDossiers, AreSomeBundles, of_check, of_pieces}
use Rattle.parts_cli.specs.Status.{pieces_status, check_status}
use Rattle.bundle_write.specs.declared.piece.Job.{Job}

pub if_some : {X : Type 0} (o : Option X) (P : X → Type 0) → ((x : X) → P x) → IfSome o P
if_some None P h = tt
if_some (Some x) P h = h x

-- input with a line that is refused is not fine
refused_is_no_bundles : (left got later : Option (List ℕ)) (A B C : Type 0) → OfBytes left got later SaysNo → IfSome left (λ input. AreSomeBundles input → A → B → C)
refused_is_no_bundles None got later A B C says = tt
refused_is_no_bundles (Some input) got later A B C says = λ fine a b. absurd (says.2.not_accepted fine.0 fine.1)

no_dossiers_is_not_fine : (job : Job) (left got later : Option (List ℕ)) (A B C : Type 0) → OfBytes left got later (SaysNotWritten job) → IfSome left (λ input. AreDossiers input → A → B → C)
no_dossiers_is_not_fine job None got later A B C says = tt
no_dossiers_is_not_fine job (Some input) got later A B C says = λ fine a b. absurd (says.2.not_accepted fine.0 fine.1)

module _ {S K : Type 0} (source : SourceTells S) (sink : SinkTells K) (src later : S) (out new : K) where
  -- the same fault by another name
  tells_read : {A B : Type 0} → TellsReads source src later A → (B → A) → (A → B) → TellsReads source src later B
  tells_read t to from = reads_then source src src later (λ fault. fault) (reads_none source src) t to from

  tells_write : {A B : Type 0} → TellsWrites sink out new A → (B → A) → (A → B) → TellsWrites sink out new B
  tells_write t to from = writes_then sink out out new (λ fault. fault) (writes_none sink out) t to from

  -- the command `parts-check` answers by the status of its end
  pub check_answers : {E : Type 0} (ended : Result Ended E) → ReadsBundles source sink src later out new ended → Answers source sink of_check src later out new (check_status ended)
  check_answers (Ok check.Done) r = record {
    says = r.says;
    part = r.front;
    ends = refl;
    words = λ e. absurd (cc);
    ended = λ _. r.ended refl;
    reads = tells_read r.reads (λ e. absurd (cc)) (λ e. absurd (cc));
    writes = tells_write r.writes (λ e. absurd (cc)) (λ e. absurd (cc));
    complete = if_some (source.left src) _ (λ input fine nr nw. inl refl);
  }
  check_answers (Ok check.No) r = record {
    says = r.says;
    part = r.front;
    ends = refl;
    words = λ e. absurd (cc);
    ended = λ e. absurd (cc);
    reads = tells_read r.reads (λ e. absurd (cc)) (λ e. absurd (cc));
    writes = tells_write r.writes (λ e. absurd (cc)) (λ e. absurd (cc));
    complete = refused_is_no_bundles (source.left src) (sink.got out) (sink.got new) _ _ _ r.says;
  }
  check_answers (Ok check.ReadFault) r = record {
    says = r.says;
    part = r.front;
    ends = refl;
    words = λ e. absurd (cc);
    ended = λ e. absurd (cc);
    reads = tells_read r.reads (λ _. refl) (λ _. refl);
    writes = tells_write r.writes (λ e. absurd (cc)) (λ e. absurd (cc));
    complete = if_some (source.left src) _ (λ input fine nr nw. absurd (nr (r.reads.cause refl)));
  }
  check_answers (Ok check.WriteFault) r = record {
    says = r.says;
    part = r.front;
    ends = refl;
    words = λ e. absurd (cc);
    ended = λ e. absurd (cc);
    reads = tells_read r.reads (λ e. absurd (cc)) (λ e. absurd (cc));
    writes = tells_write r.writes (λ _. refl) (λ _. refl);
    complete = if_some (source.left src) _ (λ input fine nr nw. absurd (nw (r.writes.cause refl)));
  }
  check_answers (Err fault) r = record {
    says = r.memory;
    part = r.front;
    ends = refl;
    words = λ e. absurd (cc);
    ended = λ e. absurd (cc);
    reads = tells_read r.reads (λ e. absurd (cc)) (λ e. absurd (cc));
    writes = tells_write r.writes (λ e. absurd (cc)) (λ e. absurd (cc));
    complete = if_some (source.left src) _ (λ input fine nr nw. inr refl);
  }

  -- a command that writes a text for each dossier answers by the status of its end
  pub pieces_answer : {E : Type 0} (words : List (List ℕ)) (in_range : Type 0) (job : Job) (ended : Result PiecesEnded E) → WritesPieces source sink job src later out new ended
      → Answers source sink (of_pieces words in_range job) src later out new (pieces_status ended)
  pieces_answer words in_range job (Ok pieces.Proved) r = record {
    says = r.says;
    part = r.front;
    ends = refl;
    words = λ e. absurd (cc);
    ended = λ _. r.ended tt;
    reads = tells_read r.reads (λ e. absurd (cc)) (λ e. absurd (cc));
    writes = tells_write r.writes (λ e. absurd (cc)) (λ e. absurd (cc));
    complete = if_some (source.left src) _ (λ input fine nr nw. inl refl);
  }
  pieces_answer words in_range job (Ok pieces.Open) r = record {
    says = r.says;
    part = r.front;
    ends = refl;
    words = λ e. absurd (cc);
    ended = λ _. r.ended tt;
    reads = tells_read r.reads (λ e. absurd (cc)) (λ e. absurd (cc));
    writes = tells_write r.writes (λ e. absurd (cc)) (λ e. absurd (cc));
    complete = if_some (source.left src) _ (λ input fine nr nw. inl refl);
  }
  pieces_answer words in_range job (Ok pieces.No) r = record {
    says = r.says;
    part = r.front;
    ends = refl;
    words = λ e. absurd (cc);
    ended = λ e. absurd (cc);
    reads = tells_read r.reads (λ e. absurd (cc)) (λ e. absurd (cc));
    writes = tells_write r.writes (λ e. absurd (cc)) (λ e. absurd (cc));
    complete = no_dossiers_is_not_fine job (source.left src) (sink.got out) (sink.got new) _ _ _ r.says;
  }
  pieces_answer words in_range job (Ok pieces.ReadFault) r = record {
    says = r.says;
    part = r.front;
    ends = refl;
    words = λ e. absurd (cc);
    ended = λ e. absurd (cc);
    reads = tells_read r.reads (λ _. refl) (λ _. refl);
    writes = tells_write r.writes (λ e. absurd (cc)) (λ e. absurd (cc));
    complete = if_some (source.left src) _ (λ input fine nr nw. absurd (nr (r.reads.cause refl)));
  }
  pieces_answer words in_range job (Ok pieces.WriteFault) r = record {
    says = r.says;
    part = r.front;
    ends = refl;
    words = λ e. absurd (cc);
    ended = λ e. absurd (cc);
    reads = tells_read r.reads (λ e. absurd (cc)) (λ e. absurd (cc));
    writes = tells_write r.writes (λ _. refl) (λ _. refl);
    complete = if_some (source.left src) _ (λ input fine nr nw. absurd (nw (r.writes.cause refl)));
  }
  pieces_answer words in_range job (Err fault) r = record {
    says = r.front;
    part = r.front;
    ends = refl;
    words = λ e. absurd (cc);
    ended = λ e. absurd (cc);
    reads = tells_read r.reads (λ e. absurd (cc)) (λ e. absurd (cc));
    writes = tells_write r.writes (λ e. absurd (cc)) (λ e. absurd (cc));
    complete = if_some (source.left src) _ (λ input fine nr nw. inr refl);
  }
