use Rattle.std.proofs.Common.{◌≡◌, Result, Ok, Err, subst, ap, refl}
use Rattle.std.proofs.lemmas.Result.{IfOk-from_err}
use Rattle.crew_io.specs.Chains.{writes_none, writes_then, puts_tell}
use Rattle.crew_io.specs.Draws.{reads_none, reads_then}
use Rattle.crew_io.specs.Results.{err_is_not_ok}
use Rattle.dossier_commands.specs.Input.{IsOutcome, KeepsDossier, OpensNext}
use Rattle.dossier_commands.specs.declared.input.Outcome.{Outcome}
use Rattle.dossier_commands.specs.declared.input.Outcome.TheVariants as outcome
use Rattle.bundle_command.specs.declared.command.PiecesEnded.TheVariants.{ReadFault, WriteFault}
use Rattle.bundle_write.specs.Pieces.{IsPiecePut}
use Rattle.bundle_command.proofs.Said.{is_day, opens, begins, says_one_more, says_end, says_no, no_fault, says_read_fault, front_so_far, front_piece, front_same, front_no, whole_no}
use Rattle.bundle_command.proofs.command.write_all.Goals as goal

not_fault : {E : Type 0} (x y : Outcome) → x ≡ y → (y ≡ outcome.ReadFault → ⊥) → ◌≡◌ {A = Result Outcome E} (Ok x) (Ok outcome.ReadFault) → ⊥
not_fault x y is apart e = apart (let f : x ≡ outcome.ReadFault = cc in cc)

pub dossiers-init : goal.dossiers-init
dossiers-init g c = record {
  going = opens c.args.reader.now c.args.checker.now c.requires.reader c.requires.checker;
  so_far = begins c.args.job (g.S.Source.left c.args.src.now) (g.K.Sink.got c.args.out.now) c.args.reader.now c.args.checker.now c.requires.reader c.requires.checker;
  reads = reads_none g.S.Source c.args.src.now;
  writes = writes_none g.K.Sink c.args.out.now;
}

pub day_of-day-requires : goal.day_of-day-requires
day_of-day-requires g c =
    let next = subst (OpensNext c.dossiers.reader c.next_kept.new.reader c.next_kept.new.checker) c.in-Yes.is c.in_ok-verdict.ensures.next in
    (next.2.dossier, next.2.whole)

pub dossiers-preserved : goal.dossiers-preserved
dossiers-preserved g c =
    let next = subst (OpensNext c.dossiers.reader c.next_kept.new.reader c.next_kept.new.checker) c.in-Yes.is c.in_ok-verdict.ensures.next in
    let i = c.dossiers.invariant in
    record {
      going = next.0;
      so_far = says_one_more c.args.job (g.S.Source.left c.args.src.now) (g.K.Sink.got c.args.out.now) c.dossiers.proved c.dossiers.reader (g.S.Source.left c.dossiers.src) (g.K.Sink.got c.dossiers.out) c.dossiers.checker i.so_far
          c.next_kept.new.reader (g.S.Source.left c.next_kept.new.src) (g.K.Sink.got c.put_piece.new.sink) c.next_kept.new.checker c.in-Yes.verdict c.next_kept.new.kept.items c.in-Ok.now c.are_both-proved.result
          (λ front input done b. subst (IsOutcome front input done c.next_kept.new.reader (g.S.Source.left c.next_kept.new.src) c.next_kept.new.checker) c.in-Yes.is (c.in_ok-verdict.ensures.outcome front input done b))
          (subst (KeepsDossier c.dossiers.reader (g.S.Source.left c.dossiers.src) c.next_kept.new.kept.items c.next_kept.new.reader (g.S.Source.left c.next_kept.new.src)) c.in-Yes.is c.in_ok-verdict.ensures.kept)
          (λ d whole good t v. c.in-Ok.ensures.put d (is_day c.next_kept.new.checker c.in-Yes.verdict c.deref.result.now c.next_kept.new.kept.items c.day_of-day.result d c.day_of-day.ensures c.deref.ensures.value whole good t v))
          c.are_both-proved.ensures;
      reads = reads_then g.S.Source _ _ _ (λ fault. fault) i.reads c.in_ok-verdict.ensures.tells (λ fault. absurd fault) (λ e. not_fault _ _ c.in-Yes.is (λ f. cc) e);
      writes = writes_then g.K.Sink _ _ _ (λ fault. fault) i.writes c.in-Ok.ensures.tells (λ fault. absurd fault) (λ e. cc);
    }

pub returns-in-Err-WriteFault : goal.returns-in-Err-WriteFault
returns-in-Err-WriteFault g c =
    let i = c.dossiers.invariant in
    let front =
    front_piece c.args.job (g.S.Source.left c.args.src.now) (g.K.Sink.got c.args.out.now) c.dossiers.proved c.dossiers.reader (g.S.Source.left c.dossiers.src) (g.K.Sink.got c.dossiers.out) c.dossiers.checker i.so_far
    c.next_kept.new.reader (g.S.Source.left c.next_kept.new.src) (g.K.Sink.got c.put_piece.new.sink) c.next_kept.new.checker c.in-Yes.verdict c.next_kept.new.kept.items
    (λ front input done b. subst (IsOutcome front input done c.next_kept.new.reader (g.S.Source.left c.next_kept.new.src) c.next_kept.new.checker) c.in-Yes.is (c.in_ok-verdict.ensures.outcome front input done b))
    (subst (KeepsDossier c.dossiers.reader (g.S.Source.left c.dossiers.src) c.next_kept.new.kept.items c.next_kept.new.reader (g.S.Source.left c.next_kept.new.src)) c.in-Yes.is c.in_ok-verdict.ensures.kept)
    (λ d whole good t v. subst (λ f. IsPiecePut c.args.job d (Err f) (g.K.Sink.got c.dossiers.out) (g.K.Sink.got c.put_piece.new.sink)) c.in-Err-WriteFault.field-0-is (c.in-Err-WriteFault.ensures.put d (is_day c.next_kept.new.checker c.in-Yes.verdict c.deref.result.now c.next_kept.new.kept.items c.day_of-day.result d c.day_of-day.ensures c.deref.ensures.value whole good t v))) in
    record {
      says = front;
      front = front;
      ended = λ e. absurd e;
      reads = reads_then g.S.Source _ _ _ (λ fault. fault) i.reads c.in_ok-verdict.ensures.tells (λ e. absurd (cc)) (λ e. absurd (not_fault _ _ c.in-Yes.is (λ f. cc) e));
      writes = writes_then g.K.Sink _ _ _ (λ fault. fault) i.writes c.in-Err-WriteFault.ensures.tells (λ _. ap Err c.in-Err-WriteFault.field-0-is) (λ _. refl);
    }

pub returns-in-Err-OutOfMemory : goal.returns-in-Err-OutOfMemory
returns-in-Err-OutOfMemory g c =
    let i = c.dossiers.invariant in
    record {
      says = tt;
      front =
          front_same c.args.job (g.S.Source.left c.args.src.now) (g.K.Sink.got c.args.out.now) c.dossiers.proved c.dossiers.reader (g.S.Source.left c.dossiers.src) (g.K.Sink.got c.dossiers.out) c.dossiers.checker i.so_far
          c.next_kept.new.reader (g.S.Source.left c.next_kept.new.src) (g.K.Sink.got c.put_piece.new.sink) c.next_kept.new.checker c.in-Yes.verdict c.next_kept.new.kept.items
          (λ front input done b. subst (IsOutcome front input done c.next_kept.new.reader (g.S.Source.left c.next_kept.new.src) c.next_kept.new.checker) c.in-Yes.is (c.in_ok-verdict.ensures.outcome front input done b))
          (subst (KeepsDossier c.dossiers.reader (g.S.Source.left c.dossiers.src) c.next_kept.new.kept.items c.next_kept.new.reader (g.S.Source.left c.next_kept.new.src)) c.in-Yes.is c.in_ok-verdict.ensures.kept)
          (λ d whole good t v. subst (λ f. IsPiecePut c.args.job d (Err f) (g.K.Sink.got c.dossiers.out) (g.K.Sink.got c.put_piece.new.sink)) c.in-Err-OutOfMemory.field-0-is (c.in-Err-OutOfMemory.ensures.put d (is_day c.next_kept.new.checker c.in-Yes.verdict c.deref.result.now c.next_kept.new.kept.items c.day_of-day.result d c.day_of-day.ensures c.deref.ensures.value whole good t v)));
      ended = tt;
      reads = reads_then g.S.Source _ _ _ (λ fault. fault) i.reads c.in_ok-verdict.ensures.tells (λ e. absurd (cc)) (λ e. absurd (not_fault _ _ c.in-Yes.is (λ f. cc) e));
      writes = writes_then g.K.Sink _ _ _ (λ fault. fault) i.writes c.in-Err-OutOfMemory.ensures.tells (λ e. absurd (cc)) (λ e. absurd (let f = c.in-Err-OutOfMemory.field-0-is in cc));
    }

pub returns-in-End : goal.returns-in-End
returns-in-End g c =
    let i = c.dossiers.invariant in
    record {
      says =
          says_end c.args.job (g.S.Source.left c.args.src.now) (g.K.Sink.got c.args.out.now) c.dossiers.proved c.dossiers.reader (g.S.Source.left c.dossiers.src) (g.K.Sink.got c.dossiers.out) c.dossiers.checker i.so_far
          (g.S.Source.left c.next_kept.new.src) c.ended_where.result c.ended_where.ensures
          (λ front input done b. subst (IsOutcome front input done c.next_kept.new.reader (g.S.Source.left c.next_kept.new.src) c.next_kept.new.checker) c.in-End.is (c.in_ok-verdict.ensures.outcome front input done b));
      front = front_so_far c.args.job (g.S.Source.left c.args.src.now) (g.K.Sink.got c.args.out.now) c.dossiers.proved c.dossiers.reader (g.S.Source.left c.dossiers.src) (g.K.Sink.got c.dossiers.out) c.dossiers.checker i.so_far;
      ended = λ _. c.in_ok-verdict.ensures.ended c.in-End.is;
      reads = reads_then g.S.Source _ _ _ (λ fault. fault) i.reads c.in_ok-verdict.ensures.tells (λ e. absurd (no_fault c.dossiers.proved c.ended_where.result ReadFault c.ended_where.ensures (λ f. cc) (λ f. cc) e))
          (λ e. absurd (not_fault _ _ c.in-End.is (λ f. cc) e));
      writes = writes_then g.K.Sink _ _ _ (λ fault. fault) i.writes (writes_none g.K.Sink c.dossiers.out) (λ e. absurd (no_fault c.dossiers.proved c.ended_where.result WriteFault c.ended_where.ensures (λ f. cc) (λ f. cc) e))
          (λ fault. absurd fault);
    }

pub returns-in-ReadFault : goal.returns-in-ReadFault
returns-in-ReadFault g c =
    let i = c.dossiers.invariant in
    record {
      says =
          says_read_fault c.args.job (g.S.Source.left c.args.src.now) (g.K.Sink.got c.args.out.now) c.dossiers.proved c.dossiers.reader (g.S.Source.left c.dossiers.src) (g.K.Sink.got c.dossiers.out) c.dossiers.checker i.so_far
          c.next_kept.new.reader (g.S.Source.left c.next_kept.new.src)
          (λ front input done b. subst (IsOutcome front input done c.next_kept.new.reader (g.S.Source.left c.next_kept.new.src) c.next_kept.new.checker) c.in-ReadFault.is (c.in_ok-verdict.ensures.outcome front input done b));
      front = front_so_far c.args.job (g.S.Source.left c.args.src.now) (g.K.Sink.got c.args.out.now) c.dossiers.proved c.dossiers.reader (g.S.Source.left c.dossiers.src) (g.K.Sink.got c.dossiers.out) c.dossiers.checker i.so_far;
      ended = λ e. absurd e;
      reads = reads_then g.S.Source _ _ _ (λ fault. fault) i.reads c.in_ok-verdict.ensures.tells (λ _. ap Ok c.in-ReadFault.is) (λ _. refl);
      writes = writes_then g.K.Sink _ _ _ (λ fault. fault) i.writes (writes_none g.K.Sink c.dossiers.out) (λ e. absurd (cc)) (λ fault. absurd fault);
    }

pub returns-in_err-verdict : goal.returns-in_err-verdict
returns-in_err-verdict g c =
    let i = c.dossiers.invariant in
    let r = c.from_residual.result in
    let is = c.from_residual.ensures.0 in
    record {
      says = IfOk-from_err r _ is;
      front = front_so_far c.args.job (g.S.Source.left c.args.src.now) (g.K.Sink.got c.args.out.now) c.dossiers.proved c.dossiers.reader (g.S.Source.left c.dossiers.src) (g.K.Sink.got c.dossiers.out) c.dossiers.checker i.so_far;
      ended = IfOk-from_err r _ is;
      reads = reads_then g.S.Source _ _ _ (λ fault. fault) i.reads c.in_err-verdict.ensures.tells (λ e. absurd (err_is_not_ok r _ is e)) (λ e. absurd (cc));
      writes = writes_then g.K.Sink _ _ _ (λ fault. fault) i.writes (writes_none g.K.Sink c.dossiers.out) (λ e. absurd (err_is_not_ok r _ is e)) (λ fault. absurd fault);
    }

pub returns-in-Err : goal.returns-in-Err
returns-in-Err g c =
    let i = c.dossiers.invariant in
    let front =
    front_no c.args.job (g.S.Source.left c.args.src.now) (g.K.Sink.got c.args.out.now) c.dossiers.proved c.dossiers.reader (g.S.Source.left c.dossiers.src) (g.K.Sink.got c.dossiers.out) c.dossiers.checker i.so_far
    (g.K.Sink.got c.put_no.new.out) c.in-No.line c.in-No.reason
    (λ front input done b. subst (IsOutcome front input done c.next_kept.new.reader (g.S.Source.left c.next_kept.new.src) c.next_kept.new.checker) c.in-No.is (c.in_ok-verdict.ensures.outcome front input done b))
    c.in-Err.ensures.part in
    record {
      says = front;
      front = front;
      ended = λ e. absurd e;
      reads = reads_then g.S.Source _ _ _ (λ fault. fault) i.reads c.in_ok-verdict.ensures.tells (λ e. absurd (cc)) (λ e. absurd (not_fault _ _ c.in-No.is (λ f. cc) e));
      writes = writes_then g.K.Sink _ _ _ (λ fault. fault) i.writes (puts_tell g.K.Sink _ _ _ _ c.in-Err.ensures) (λ _. refl) (λ _. refl);
    }

pub returns-in-No : goal.returns-in-No
returns-in-No g c =
    let i = c.dossiers.invariant in
    record {
      says =
          says_no c.args.job (g.S.Source.left c.args.src.now) (g.K.Sink.got c.args.out.now) c.dossiers.proved c.dossiers.reader (g.S.Source.left c.dossiers.src) (g.K.Sink.got c.dossiers.out) c.dossiers.checker i.so_far
          (g.K.Sink.got c.put_no.new.out) c.in-No.line c.in-No.reason c.refused_is_not_accepted.ensures
          (λ front input done b. subst (IsOutcome front input done c.next_kept.new.reader (g.S.Source.left c.next_kept.new.src) c.next_kept.new.checker) c.in-No.is (c.in_ok-verdict.ensures.outcome front input done b))
          c.in_default.ensures.all;
      front =
          whole_no c.args.job (g.S.Source.left c.args.src.now) (g.K.Sink.got c.args.out.now) c.dossiers.proved c.dossiers.reader (g.S.Source.left c.dossiers.src) (g.K.Sink.got c.dossiers.out) c.dossiers.checker i.so_far
          (g.K.Sink.got c.put_no.new.out) c.in-No.line c.in-No.reason
          (λ front input done b. subst (IsOutcome front input done c.next_kept.new.reader (g.S.Source.left c.next_kept.new.src) c.next_kept.new.checker) c.in-No.is (c.in_ok-verdict.ensures.outcome front input done b))
          c.in_default.ensures.all;
      ended = λ e. absurd e;
      reads = reads_then g.S.Source _ _ _ (λ fault. fault) i.reads c.in_ok-verdict.ensures.tells (λ e. absurd (cc)) (λ e. absurd (not_fault _ _ c.in-No.is (λ f. cc) e));
      writes = writes_then g.K.Sink _ _ _ (λ fault. fault) i.writes (puts_tell g.K.Sink _ _ _ _ c.in_default.ensures) (λ e. absurd (cc)) (λ e. absurd (cc));
    }
