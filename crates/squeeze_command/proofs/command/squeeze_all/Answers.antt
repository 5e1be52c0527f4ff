use Rattle.std.proofs.Common.{◌≡◌, ◌≤◌, Result, Ok, Err, subst, ap, refl, sym}
use Rattle.std.proofs.lemmas.Result.{IfOk-from_err}
use Rattle.crew_io.specs.Chains.{writes_none, writes_then, puts_tell}
use Rattle.crew_io.specs.Draws.{reads_none, reads_then}
use Rattle.crew_io.specs.Results.{err_is_not_ok, on_err}
use Rattle.crew_io.specs.Bytes.{OfBytes}
use Rattle.crew_io.specs.Puts.{TellsWrites}
use Rattle.crew_terms.specs.declared.TheConstants.{MOST_NODES}
use Rattle.dossier_commands.specs.Input.{IsOutcome, OpensNext}
use Rattle.dossier_commands.specs.declared.input.Outcome.{Outcome}
use Rattle.dossier_commands.specs.declared.input.Outcome.TheVariants as outcome
use Rattle.squeeze_command.specs.Sheets.{PutsSqueezed}
use Rattle.squeeze_command.specs.Says.{SaysFront, SaysSheets}
use Rattle.squeeze_command.proofs.Said.{opens, begins, says_one_more, says_yes, says_no, says_sheets, says_read_fault, front_so_far, front_sheet, front_no, whole_no, sheet_of}
use Rattle.squeeze_command.proofs.command.squeeze_all.Goals as goal

not_fault : {E : Type 0} (x y : Outcome) → x ≡ y → (y ≡ outcome.ReadFault → ⊥) → ◌≡◌ {A = Result Outcome E} (Ok x) (Ok outcome.ReadFault) → ⊥
not_fault x y is apart e = apart (let f : x ≡ outcome.ReadFault = cc in cc)

pub dossiers-init : goal.dossiers-init
dossiers-init g c = record {
  going = opens c.args.reader.now c.args.checker.now c.requires.reader c.requires.checker;
  so_far = begins c.args.steps (g.S.Source.left c.args.src.now) (g.K.Sink.got c.args.out.now) c.args.reader.now c.args.checker.now c.requires.reader c.requires.checker;
  reads = reads_none g.S.Source c.args.src.now;
  writes = writes_none g.K.Sink c.args.out.now;
}

pub instance-requires : goal.instance-requires
instance-requires g c =
    let next = subst (OpensNext c.dossiers.reader c.next_dossier.new.reader c.next_dossier.new.checker) c.in-Yes.is c.in_ok-next_dossier.ensures.next in
    (next.2.dossier, next.2.whole)

pub nodes-requires : goal.nodes-requires
nodes-requires g c =
    let next = subst (OpensNext c.dossiers.reader c.next_dossier.new.reader c.next_dossier.new.checker) c.in-Yes.is c.in_ok-next_dossier.ensures.next in
    (next.2.dossier, next.2.whole)

pub put_squeezed-requires-clause-nodes : goal.put_squeezed-requires-clause-nodes
put_squeezed-requires-clause-nodes g c =
    let next = subst (OpensNext c.dossiers.reader c.next_dossier.new.reader c.next_dossier.new.checker) c.in-Yes.is c.in_ok-next_dossier.ensures.next in
    let y = next.2 in
    subst (λ n. n ≤ MOST_NODES) (sym (c.nodes.ensures y.dossier y.whole)) y.true_yes.good.budget

pub dossiers-preserved : goal.dossiers-preserved
dossiers-preserved g c =
    let next = subst (OpensNext c.dossiers.reader c.next_dossier.new.reader c.next_dossier.new.checker) c.in-Yes.is c.in_ok-next_dossier.ensures.next in
    let i = c.dossiers.invariant in
    let sheet = c.in-Ok.ensures in
    record {
      going = next.0;
      so_far =
          says_one_more c.args.steps (g.S.Source.left c.args.src.now) (g.K.Sink.got c.args.out.now) c.dossiers.reader (g.S.Source.left c.dossiers.src) (g.K.Sink.got c.dossiers.out) c.dossiers.checker i.so_far
          c.next_dossier.new.reader (g.S.Source.left c.next_dossier.new.src) (g.K.Sink.got c.put_squeezed.new.out) c.next_dossier.new.checker c.in-Yes.field-0
          (λ front input done b. subst (IsOutcome front input done c.next_dossier.new.reader (g.S.Source.left c.next_dossier.new.src) c.next_dossier.new.checker) c.in-Yes.is (c.in_ok-next_dossier.ensures.outcome front input done b))
          sheet.sheet (λ d whole. sheet_of c.args.steps d sheet.sheet _ _ (c.instance.ensures d whole) (c.nodes.ensures d whole) sheet.is) sheet.puts.all;
      reads = reads_then g.S.Source _ _ _ (λ fault. fault) i.reads c.in_ok-next_dossier.ensures.tells (λ fault. absurd fault) (λ e. not_fault _ _ c.in-Yes.is (λ f. cc) e);
      writes = writes_then g.K.Sink _ _ _ (λ fault. fault) i.writes (puts_tell g.K.Sink _ _ _ _ sheet.puts) (λ fault. absurd fault) (λ e. cc);
    }

pub returns-in-Err-WriteFault : goal.returns-in-Err-WriteFault
returns-in-Err-WriteFault g c =
    let i = c.dossiers.invariant in
    let sheet = subst (λ f. PutsSqueezed g.K.Sink c.instance.result.now c.nodes.result c.args.steps c.dossiers.out c.put_squeezed.new.out (Err f)) c.in-Err-WriteFault.field-0-is c.in-Err-WriteFault.ensures in
    let front =
    front_sheet c.args.steps (g.S.Source.left c.args.src.now) (g.K.Sink.got c.args.out.now) c.dossiers.reader (g.S.Source.left c.dossiers.src) (g.K.Sink.got c.dossiers.out) c.dossiers.checker i.so_far
    c.next_dossier.new.reader (g.S.Source.left c.next_dossier.new.src) (g.K.Sink.got c.put_squeezed.new.out) c.next_dossier.new.checker c.in-Yes.field-0
    (λ front input done b. subst (IsOutcome front input done c.next_dossier.new.reader (g.S.Source.left c.next_dossier.new.src) c.next_dossier.new.checker) c.in-Yes.is (c.in_ok-next_dossier.ensures.outcome front input done b))
    sheet.sheet (λ d whole. sheet_of c.args.steps d sheet.sheet _ _ (c.instance.ensures d whole) (c.nodes.ensures d whole) sheet.is) sheet.puts.part in
    record {
      says = front;
      front = front;
      memory = tt;
      ended = λ e. absurd (cc);
      reads = reads_then g.S.Source _ _ _ (λ fault. fault) i.reads c.in_ok-next_dossier.ensures.tells (λ e. absurd (cc)) (λ e. absurd (not_fault _ _ c.in-Yes.is (λ f. cc) e));
      writes = writes_then g.K.Sink _ _ _ (λ fault. fault) i.writes (puts_tell g.K.Sink _ _ _ _ sheet.puts) (λ _. refl) (λ _. refl);
    }

pub returns-in-Err-OutOfMemory : goal.returns-in-Err-OutOfMemory
returns-in-Err-OutOfMemory g c =
    let i = c.dossiers.invariant in
    let same = subst (λ f. PutsSqueezed g.K.Sink c.instance.result.now c.nodes.result c.args.steps c.dossiers.out c.put_squeezed.new.out (Err f)) c.in-Err-OutOfMemory.field-0-is c.in-Err-OutOfMemory.ensures in
    record {
      says = tt;
      front = subst (λ k. OfBytes (g.S.Source.left c.args.src.now) (g.K.Sink.got c.args.out.now) (g.K.Sink.got k) (SaysFront c.args.steps)) (sym same)
          (front_so_far c.args.steps (g.S.Source.left c.args.src.now) (g.K.Sink.got c.args.out.now) c.dossiers.reader (g.S.Source.left c.dossiers.src) (g.K.Sink.got c.dossiers.out) c.dossiers.checker i.so_far);
      memory = subst (λ k. OfBytes (g.S.Source.left c.args.src.now) (g.K.Sink.got c.args.out.now) (g.K.Sink.got k) (SaysSheets c.args.steps)) (sym same)
          (says_sheets c.args.steps (g.S.Source.left c.args.src.now) (g.K.Sink.got c.args.out.now) c.dossiers.reader (g.S.Source.left c.dossiers.src) (g.K.Sink.got c.dossiers.out) c.dossiers.checker i.so_far);
      ended = λ e. absurd (cc);
      reads = reads_then g.S.Source _ _ _ (λ fault. fault) i.reads c.in_ok-next_dossier.ensures.tells (λ e. absurd (cc)) (λ e. absurd (not_fault _ _ c.in-Yes.is (λ f. cc) e));
      writes = subst (λ k. TellsWrites g.K.Sink c.args.out.now k _) (sym same) (writes_then g.K.Sink _ _ _ (λ fault. fault) i.writes (writes_none g.K.Sink c.dossiers.out) (λ e. absurd (cc)) (λ fault. absurd fault));
    }

pub returns-in-End : goal.returns-in-End
returns-in-End g c =
    let i = c.dossiers.invariant in
    record {
      says =
          says_yes c.args.steps (g.S.Source.left c.args.src.now) (g.K.Sink.got c.args.out.now) c.dossiers.reader (g.S.Source.left c.dossiers.src) (g.K.Sink.got c.dossiers.out) c.dossiers.checker i.so_far
          (λ front input done b. subst (IsOutcome front input done c.next_dossier.new.reader (g.S.Source.left c.next_dossier.new.src) c.next_dossier.new.checker) c.in-End.is (c.in_ok-next_dossier.ensures.outcome front input done b));
      front = front_so_far c.args.steps (g.S.Source.left c.args.src.now) (g.K.Sink.got c.args.out.now) c.dossiers.reader (g.S.Source.left c.dossiers.src) (g.K.Sink.got c.dossiers.out) c.dossiers.checker i.so_far;
      memory = tt;
      ended = λ _. c.in_ok-next_dossier.ensures.ended c.in-End.is;
      reads = reads_then g.S.Source _ _ _ (λ fault. fault) i.reads c.in_ok-next_dossier.ensures.tells (λ e. absurd (cc)) (λ e. absurd (not_fault _ _ c.in-End.is (λ f. cc) e));
      writes = writes_then g.K.Sink _ _ _ (λ fault. fault) i.writes (writes_none g.K.Sink c.dossiers.out) (λ e. absurd (cc)) (λ fault. absurd fault);
    }

pub returns-in-ReadFault : goal.returns-in-ReadFault
returns-in-ReadFault g c =
    let i = c.dossiers.invariant in
    record {
      says =
          says_read_fault c.args.steps (g.S.Source.left c.args.src.now) (g.K.Sink.got c.args.out.now) c.dossiers.reader (g.S.Source.left c.dossiers.src) (g.K.Sink.got c.dossiers.out) c.dossiers.checker i.so_far
          c.next_dossier.new.reader (g.S.Source.left c.next_dossier.new.src)
          (λ front input done b. subst (IsOutcome front input done c.next_dossier.new.reader (g.S.Source.left c.next_dossier.new.src) c.next_dossier.new.checker) c.in-ReadFault.is (c.in_ok-next_dossier.ensures.outcome front input done b));
      front = front_so_far c.args.steps (g.S.Source.left c.args.src.now) (g.K.Sink.got c.args.out.now) c.dossiers.reader (g.S.Source.left c.dossiers.src) (g.K.Sink.got c.dossiers.out) c.dossiers.checker i.so_far;
      memory = tt;
      ended = λ e. absurd (cc);
      reads = reads_then g.S.Source _ _ _ (λ fault. fault) i.reads c.in_ok-next_dossier.ensures.tells (λ _. ap Ok c.in-ReadFault.is) (λ _. refl);
      writes = writes_then g.K.Sink _ _ _ (λ fault. fault) i.writes (writes_none g.K.Sink c.dossiers.out) (λ e. absurd (cc)) (λ fault. absurd fault);
    }

pub returns-in_err-next_dossier : goal.returns-in_err-next_dossier
returns-in_err-next_dossier g c =
    let i = c.dossiers.invariant in
    let r = c.from_residual.result in
    let is = c.from_residual.ensures.0 in
    record {
      says = IfOk-from_err r _ is;
      front = front_so_far c.args.steps (g.S.Source.left c.args.src.now) (g.K.Sink.got c.args.out.now) c.dossiers.reader (g.S.Source.left c.dossiers.src) (g.K.Sink.got c.dossiers.out) c.dossiers.checker i.so_far;
      memory = on_err r _ (says_sheets c.args.steps (g.S.Source.left c.args.src.now) (g.K.Sink.got c.args.out.now) c.dossiers.reader (g.S.Source.left c.dossiers.src) (g.K.Sink.got c.dossiers.out) c.dossiers.checker i.so_far);
      ended = λ e. absurd (err_is_not_ok r _ is e);
      reads = reads_then g.S.Source _ _ _ (λ fault. fault) i.reads c.in_err-next_dossier.ensures.tells (λ e. absurd (err_is_not_ok r _ is e)) (λ e. absurd (cc));
      writes = writes_then g.K.Sink _ _ _ (λ fault. fault) i.writes (writes_none g.K.Sink c.dossiers.out) (λ e. absurd (err_is_not_ok r _ is e)) (λ fault. absurd fault);
    }

pub returns-in-Err : goal.returns-in-Err
returns-in-Err g c =
    let i = c.dossiers.invariant in
    let front =
    front_no c.args.steps (g.S.Source.left c.args.src.now) (g.K.Sink.got c.args.out.now) c.dossiers.reader (g.S.Source.left c.dossiers.src) (g.K.Sink.got c.dossiers.out) c.dossiers.checker i.so_far
    (g.K.Sink.got c.put_no.new.out) c.in-No.line c.in-No.reason
    (λ front input done b. subst (IsOutcome front input done c.next_dossier.new.reader (g.S.Source.left c.next_dossier.new.src) c.next_dossier.new.checker) c.in-No.is (c.in_ok-next_dossier.ensures.outcome front input done b))
    c.in-Err.ensures.part in
    record {
      says = front;
      front = front;
      memory = tt;
      ended = λ e. absurd (cc);
      reads = reads_then g.S.Source _ _ _ (λ fault. fault) i.reads c.in_ok-next_dossier.ensures.tells (λ e. absurd (cc)) (λ e. absurd (not_fault _ _ c.in-No.is (λ f. cc) e));
      writes = writes_then g.K.Sink _ _ _ (λ fault. fault) i.writes (puts_tell g.K.Sink _ _ _ _ c.in-Err.ensures) (λ _. refl) (λ _. refl);
    }

pub returns-in-No : goal.returns-in-No
returns-in-No g c =
    let i = c.dossiers.invariant in
    record {
      says =
          says_no c.args.steps (g.S.Source.left c.args.src.now) (g.K.Sink.got c.args.out.now) c.dossiers.reader (g.S.Source.left c.dossiers.src) (g.K.Sink.got c.dossiers.out) c.dossiers.checker i.so_far
          (g.K.Sink.got c.put_no.new.out) c.in-No.line c.in-No.reason c.refused_is_not_accepted.ensures
          (λ front input done b. subst (IsOutcome front input done c.next_dossier.new.reader (g.S.Source.left c.next_dossier.new.src) c.next_dossier.new.checker) c.in-No.is (c.in_ok-next_dossier.ensures.outcome front input done b))
          c.in_default.ensures.all;
      front =
          whole_no c.args.steps (g.S.Source.left c.args.src.now) (g.K.Sink.got c.args.out.now) c.dossiers.reader (g.S.Source.left c.dossiers.src) (g.K.Sink.got c.dossiers.out) c.dossiers.checker i.so_far
          (g.K.Sink.got c.put_no.new.out) c.in-No.line c.in-No.reason
          (λ front input done b. subst (IsOutcome front input done c.next_dossier.new.reader (g.S.Source.left c.next_dossier.new.src) c.next_dossier.new.checker) c.in-No.is (c.in_ok-next_dossier.ensures.outcome front input done b))
          c.in_default.ensures.all;
      memory = tt;
      ended = λ e. absurd (cc);
      reads = reads_then g.S.Source _ _ _ (λ fault. fault) i.reads c.in_ok-next_dossier.ensures.tells (λ e. absurd (cc)) (λ e. absurd (not_fault _ _ c.in-No.is (λ f. cc) e));
      writes = writes_then g.K.Sink _ _ _ (λ fault. fault) i.writes (puts_tell g.K.Sink _ _ _ _ c.in_default.ensures) (λ e. absurd (cc)) (λ e. absurd (cc));
    }
