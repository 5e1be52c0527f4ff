use Rattle.std.proofs.Common.{◌≡◌, Result, Ok, subst, ap, refl}
use Rattle.std.proofs.lemmas.Result.{IfOk-from_err}
use Rattle.crew_io.specs.Chains.{writes_none, writes_then, puts_tell}
use Rattle.crew_io.specs.Draws.{reads_none, reads_then}
use Rattle.crew_io.specs.Results.{err_is_not_ok, on_err}
use Rattle.dossier_commands.specs.Input.{IsOutcome, OpensNext}
use Rattle.dossier_commands.specs.Outputs.{output_of}
use Rattle.dossier_commands.specs.declared.input.Outcome.{Outcome}
use Rattle.dossier_commands.specs.declared.input.Outcome.TheVariants as outcome
use Rattle.dossier_commands.proofs.Said.{opens, begins, says_one_more, says_yes, says_no, says_texts, says_read_fault, front_so_far, front_good, front_no, whole_no}
use Rattle.dossier_commands.proofs.read.read_all.Goals as goal

not_fault : {E : Type 0} (x y : Outcome) → x ≡ y → (y ≡ outcome.ReadFault → ⊥) → ◌≡◌ {A = Result Outcome E} (Ok x) (Ok outcome.ReadFault) → ⊥
not_fault x y is apart e = apart (let f : x ≡ outcome.ReadFault = cc in cc)

pub dossiers-init : goal.dossiers-init
dossiers-init g c = record {
  going = opens c.args.reader.now c.args.checker.now c.requires.reader c.requires.checker;
  so_far = begins (output_of c.args.output) (g.S.Source.left c.args.src.now) (g.K.Sink.got c.args.out.now) c.args.reader.now c.args.checker.now c.requires.reader c.requires.checker;
  reads = reads_none g.S.Source c.args.src.now;
  writes = writes_none g.K.Sink c.args.out.now;
}

pub put_output-requires : goal.put_output-requires
put_output-requires g c = (subst (OpensNext c.dossiers.reader c.next_dossier.new.reader c.next_dossier.new.checker) c.in-Yes.is c.in_ok-verdict.ensures.next).2

pub dossiers-preserved : goal.dossiers-preserved
dossiers-preserved g c =
    let next = subst (OpensNext c.dossiers.reader c.next_dossier.new.reader c.next_dossier.new.checker) c.in-Yes.is c.in_ok-verdict.ensures.next in
    let i = c.dossiers.invariant in
    let y = next.2 in
    record {
      going = next.0;
      so_far =
          says_one_more (output_of c.args.output) (g.S.Source.left c.args.src.now) (g.K.Sink.got c.args.out.now) c.dossiers.reader (g.S.Source.left c.dossiers.src) (g.K.Sink.got c.dossiers.out) c.dossiers.checker i.so_far
          c.next_dossier.new.reader (g.S.Source.left c.next_dossier.new.src) (g.K.Sink.got c.put_output.new.out) c.next_dossier.new.checker c.in-Yes.verdict
          (λ front input done b. subst (IsOutcome front input done c.next_dossier.new.reader (g.S.Source.left c.next_dossier.new.src) c.next_dossier.new.checker) c.in-Yes.is (c.in_ok-verdict.ensures.outcome front input done b))
          (λ d whole says. (c.in_default.ensures d whole says).all);
      reads = reads_then g.S.Source _ _ _ (λ fault. fault) i.reads c.in_ok-verdict.ensures.tells (λ fault. absurd fault) (λ e. not_fault _ _ c.in-Yes.is (λ f. cc) e);
      writes = writes_then g.K.Sink _ _ _ (λ fault. fault) i.writes (puts_tell g.K.Sink _ _ _ _ (c.in_default.ensures y.dossier y.whole y.says)) (λ fault. absurd fault) (λ e. cc);
    }

pub returns-in-Err : goal.returns-in-Err
returns-in-Err g c =
    let next = subst (OpensNext c.dossiers.reader c.next_dossier.new.reader c.next_dossier.new.checker) c.in-Yes.is c.in_ok-verdict.ensures.next in
    let i = c.dossiers.invariant in
    let y = next.2 in
    let front =
    front_good (output_of c.args.output) (g.S.Source.left c.args.src.now) (g.K.Sink.got c.args.out.now) c.dossiers.reader (g.S.Source.left c.dossiers.src) (g.K.Sink.got c.dossiers.out) c.dossiers.checker i.so_far
    c.next_dossier.new.reader (g.S.Source.left c.next_dossier.new.src) (g.K.Sink.got c.put_output.new.out) c.next_dossier.new.checker c.in-Yes.verdict
    (λ front input done b. subst (IsOutcome front input done c.next_dossier.new.reader (g.S.Source.left c.next_dossier.new.src) c.next_dossier.new.checker) c.in-Yes.is (c.in_ok-verdict.ensures.outcome front input done b))
    (λ d whole says. (c.in-Err.ensures d whole says).part) in
    record {
      says = front;
      front = front;
      memory = tt;
      ended = λ e. absurd (cc);
      reads = reads_then g.S.Source _ _ _ (λ fault. fault) i.reads c.in_ok-verdict.ensures.tells (λ e. absurd (cc)) (λ e. absurd (not_fault _ _ c.in-Yes.is (λ f. cc) e));
      writes = writes_then g.K.Sink _ _ _ (λ fault. fault) i.writes (puts_tell g.K.Sink _ _ _ _ (c.in-Err.ensures y.dossier y.whole y.says)) (λ _. refl) (λ _. refl);
    }

pub returns-in-End : goal.returns-in-End
returns-in-End g c =
    let i = c.dossiers.invariant in
    record {
      says =
          says_yes (output_of c.args.output) (g.S.Source.left c.args.src.now) (g.K.Sink.got c.args.out.now) c.dossiers.reader (g.S.Source.left c.dossiers.src) (g.K.Sink.got c.dossiers.out) c.dossiers.checker i.so_far
          (λ front input done b. subst (IsOutcome front input done c.next_dossier.new.reader (g.S.Source.left c.next_dossier.new.src) c.next_dossier.new.checker) c.in-End.is (c.in_ok-verdict.ensures.outcome front input done b));
      front = front_so_far (output_of c.args.output) (g.S.Source.left c.args.src.now) (g.K.Sink.got c.args.out.now) c.dossiers.reader (g.S.Source.left c.dossiers.src) (g.K.Sink.got c.dossiers.out) c.dossiers.checker i.so_far;
      memory = tt;
      ended = λ _. c.in_ok-verdict.ensures.ended c.in-End.is;
      reads = reads_then g.S.Source _ _ _ (λ fault. fault) i.reads c.in_ok-verdict.ensures.tells (λ e. absurd (cc)) (λ e. absurd (not_fault _ _ c.in-End.is (λ f. cc) e));
      writes = writes_then g.K.Sink _ _ _ (λ fault. fault) i.writes (writes_none g.K.Sink c.dossiers.out) (λ e. absurd (cc)) (λ fault. absurd fault);
    }

pub returns-in-ReadFault : goal.returns-in-ReadFault
returns-in-ReadFault g c =
    let i = c.dossiers.invariant in
    record {
      says =
          says_read_fault (output_of c.args.output) (g.S.Source.left c.args.src.now) (g.K.Sink.got c.args.out.now) c.dossiers.reader (g.S.Source.left c.dossiers.src) (g.K.Sink.got c.dossiers.out) c.dossiers.checker i.so_far
          c.next_dossier.new.reader (g.S.Source.left c.next_dossier.new.src)
          (λ front input done b. subst (IsOutcome front input done c.next_dossier.new.reader (g.S.Source.left c.next_dossier.new.src) c.next_dossier.new.checker) c.in-ReadFault.is (c.in_ok-verdict.ensures.outcome front input done b));
      front = front_so_far (output_of c.args.output) (g.S.Source.left c.args.src.now) (g.K.Sink.got c.args.out.now) c.dossiers.reader (g.S.Source.left c.dossiers.src) (g.K.Sink.got c.dossiers.out) c.dossiers.checker i.so_far;
      memory = tt;
      ended = λ e. absurd (cc);
      reads = reads_then g.S.Source _ _ _ (λ fault. fault) i.reads c.in_ok-verdict.ensures.tells (λ _. ap Ok c.in-ReadFault.is) (λ _. refl);
      writes = writes_then g.K.Sink _ _ _ (λ fault. fault) i.writes (writes_none g.K.Sink c.dossiers.out) (λ e. absurd (cc)) (λ fault. absurd fault);
    }

pub returns-in_err-verdict : goal.returns-in_err-verdict
returns-in_err-verdict g c =
    let i = c.dossiers.invariant in
    let r = c.from_residual.result in
    let is = c.from_residual.ensures.0 in
    record {
      says = IfOk-from_err r _ is;
      front = front_so_far (output_of c.args.output) (g.S.Source.left c.args.src.now) (g.K.Sink.got c.args.out.now) c.dossiers.reader (g.S.Source.left c.dossiers.src) (g.K.Sink.got c.dossiers.out) c.dossiers.checker i.so_far;
      memory = on_err r _ (says_texts (output_of c.args.output) (g.S.Source.left c.args.src.now) (g.K.Sink.got c.args.out.now) c.dossiers.reader (g.S.Source.left c.dossiers.src) (g.K.Sink.got c.dossiers.out) c.dossiers.checker i.so_far);
      ended = λ e. absurd (err_is_not_ok r _ is e);
      reads = reads_then g.S.Source _ _ _ (λ fault. fault) i.reads c.in_err-verdict.ensures.tells (λ e. absurd (err_is_not_ok r _ is e)) (λ e. absurd (cc));
      writes = writes_then g.K.Sink _ _ _ (λ fault. fault) i.writes (writes_none g.K.Sink c.dossiers.out) (λ e. absurd (err_is_not_ok r _ is e)) (λ fault. absurd fault);
    }

pub returns-in-Err-put_no : goal.returns-in-Err-put_no
returns-in-Err-put_no g c =
    let i = c.dossiers.invariant in
    let front =
    front_no (output_of c.args.output) (g.S.Source.left c.args.src.now) (g.K.Sink.got c.args.out.now) c.dossiers.reader (g.S.Source.left c.dossiers.src) (g.K.Sink.got c.dossiers.out) c.dossiers.checker i.so_far
    (g.K.Sink.got c.put_no.new.out) c.in-No.line c.in-No.reason
    (λ front input done b. subst (IsOutcome front input done c.next_dossier.new.reader (g.S.Source.left c.next_dossier.new.src) c.next_dossier.new.checker) c.in-No.is (c.in_ok-verdict.ensures.outcome front input done b))
    c.in-Err-put_no.ensures.part in
    record {
      says = front;
      front = front;
      memory = tt;
      ended = λ e. absurd (cc);
      reads = reads_then g.S.Source _ _ _ (λ fault. fault) i.reads c.in_ok-verdict.ensures.tells (λ e. absurd (cc)) (λ e. absurd (not_fault _ _ c.in-No.is (λ f. cc) e));
      writes = writes_then g.K.Sink _ _ _ (λ fault. fault) i.writes (puts_tell g.K.Sink _ _ _ _ c.in-Err-put_no.ensures) (λ _. refl) (λ _. refl);
    }

pub returns-in-No : goal.returns-in-No
returns-in-No g c =
    let i = c.dossiers.invariant in
    record {
      says =
          says_no (output_of c.args.output) (g.S.Source.left c.args.src.now) (g.K.Sink.got c.args.out.now) c.dossiers.reader (g.S.Source.left c.dossiers.src) (g.K.Sink.got c.dossiers.out) c.dossiers.checker i.so_far
          (g.K.Sink.got c.put_no.new.out) c.in-No.line c.in-No.reason c.refused_is_not_accepted.ensures
          (λ front input done b. subst (IsOutcome front input done c.next_dossier.new.reader (g.S.Source.left c.next_dossier.new.src) c.next_dossier.new.checker) c.in-No.is (c.in_ok-verdict.ensures.outcome front input done b))
          c.in_default-put_no.ensures.all;
      front =
          whole_no (output_of c.args.output) (g.S.Source.left c.args.src.now) (g.K.Sink.got c.args.out.now) c.dossiers.reader (g.S.Source.left c.dossiers.src) (g.K.Sink.got c.dossiers.out) c.dossiers.checker i.so_far
          (g.K.Sink.got c.put_no.new.out) c.in-No.line c.in-No.reason
          (λ front input done b. subst (IsOutcome front input done c.next_dossier.new.reader (g.S.Source.left c.next_dossier.new.src) c.next_dossier.new.checker) c.in-No.is (c.in_ok-verdict.ensures.outcome front input done b))
          c.in_default-put_no.ensures.all;
      memory = tt;
      ended = λ e. absurd (cc);
      reads = reads_then g.S.Source _ _ _ (λ fault. fault) i.reads c.in_ok-verdict.ensures.tells (λ e. absurd (cc)) (λ e. absurd (not_fault _ _ c.in-No.is (λ f. cc) e));
      writes = writes_then g.K.Sink _ _ _ (λ fault. fault) i.writes (puts_tell g.K.Sink _ _ _ _ c.in_default-put_no.ensures) (λ e. absurd (cc)) (λ e. absurd (cc));
    }
