use Rattle.std.proofs.Common.{◌≡◌, Result, Ok, subst, ap, refl}
use Rattle.std.proofs.lemmas.Result.{IfOk-from_err}
use Rattle.crew_io.specs.Chains.{writes_none, writes_then, puts_tell}
use Rattle.crew_io.specs.Draws.{reads_none, reads_then}
use Rattle.crew_io.specs.Results.{err_is_not_ok, on_err}
use Rattle.parts_reader.specs.Input.{IsOutcome, OpensNext}
use Rattle.parts_reader.specs.declared.bundle.Outcome.{Outcome}
use Rattle.parts_reader.specs.declared.bundle.Outcome.TheVariants as outcome
use Rattle.parts_command.proofs.Said.{opens, begins, says_one_more, says_yes, says_no, says_lines, says_read_fault, front_so_far, front_yes, front_no, whole_no}
use Rattle.parts_command.proofs.read.read_all.Goals as goal

not_fault : {E : Type 0} (x y : Outcome) → x ≡ y → (y ≡ outcome.ReadFault → ⊥) → ◌≡◌ {A = Result Outcome E} (Ok x) (Ok outcome.ReadFault) → ⊥
not_fault x y is apart e = apart (let f : x ≡ outcome.ReadFault = cc in cc)

pub bundles-init : goal.bundles-init
bundles-init g c = record {
  going = opens c.args.reader.now c.requires;
  so_far = begins (g.S.Source.left c.args.src.now) (g.K.Sink.got c.args.out.now) c.args.reader.now c.requires;
  reads = reads_none g.S.Source c.args.src.now;
  writes = writes_none g.K.Sink c.args.out.now;
}

pub bundles-preserved : goal.bundles-preserved
bundles-preserved g c =
    let next = subst (OpensNext c.bundles.reader c.next_bundle.new.reader c.next_bundle.new.lines) c.in-Yes.is c.in_ok-verdict.ensures.next in
    let i = c.bundles.invariant in
    record {
      going = next.0;
      so_far =
          says_one_more (g.S.Source.left c.args.src.now) (g.K.Sink.got c.args.out.now) c.bundles.reader (g.S.Source.left c.bundles.src) (g.K.Sink.got c.bundles.out) c.bundles.lines i.so_far
          c.next_bundle.new.reader (g.S.Source.left c.next_bundle.new.src) (g.K.Sink.got c.put_yes.new.out) c.next_bundle.new.lines c.in-Yes.verdict
          (λ input done b. subst (IsOutcome input done c.next_bundle.new.reader (g.S.Source.left c.next_bundle.new.src) c.next_bundle.new.lines) c.in-Yes.is (c.in_ok-verdict.ensures.outcome input done b))
          c.in_default.ensures.all;
      reads = reads_then g.S.Source _ _ _ (λ fault. fault) i.reads c.in_ok-verdict.ensures.tells (λ fault. absurd fault) (λ e. not_fault _ _ c.in-Yes.is (λ f. cc) e);
      writes = writes_then g.K.Sink _ _ _ (λ fault. fault) i.writes (puts_tell g.K.Sink _ _ _ _ c.in_default.ensures) (λ fault. absurd fault) (λ e. cc);
    }

pub returns-in-Err : goal.returns-in-Err
returns-in-Err g c =
    let next = subst (OpensNext c.bundles.reader c.next_bundle.new.reader c.next_bundle.new.lines) c.in-Yes.is c.in_ok-verdict.ensures.next in
    let i = c.bundles.invariant in
    let front =
    front_yes (g.S.Source.left c.args.src.now) (g.K.Sink.got c.args.out.now) c.bundles.reader (g.S.Source.left c.bundles.src) (g.K.Sink.got c.bundles.out) c.bundles.lines i.so_far
    c.next_bundle.new.reader (g.S.Source.left c.next_bundle.new.src) (g.K.Sink.got c.put_yes.new.out) c.next_bundle.new.lines c.in-Yes.verdict
    (λ input done b. subst (IsOutcome input done c.next_bundle.new.reader (g.S.Source.left c.next_bundle.new.src) c.next_bundle.new.lines) c.in-Yes.is (c.in_ok-verdict.ensures.outcome input done b))
    c.in-Err.ensures.part in
    record {
      says = front;
      front = front;
      memory = tt;
      ended = λ e. absurd (cc);
      reads = reads_then g.S.Source _ _ _ (λ fault. fault) i.reads c.in_ok-verdict.ensures.tells (λ e. absurd (cc)) (λ e. absurd (not_fault _ _ c.in-Yes.is (λ f. cc) e));
      writes = writes_then g.K.Sink _ _ _ (λ fault. fault) i.writes (puts_tell g.K.Sink _ _ _ _ c.in-Err.ensures) (λ _. refl) (λ _. refl);
    }

pub returns-in-End : goal.returns-in-End
returns-in-End g c =
    let i = c.bundles.invariant in
    record {
      says =
          says_yes (g.S.Source.left c.args.src.now) (g.K.Sink.got c.args.out.now) c.bundles.reader (g.S.Source.left c.bundles.src) (g.K.Sink.got c.bundles.out) c.bundles.lines i.so_far
          (λ input done b. subst (IsOutcome input done c.next_bundle.new.reader (g.S.Source.left c.next_bundle.new.src) c.next_bundle.new.lines) c.in-End.is (c.in_ok-verdict.ensures.outcome input done b));
      front = front_so_far (g.S.Source.left c.args.src.now) (g.K.Sink.got c.args.out.now) c.bundles.reader (g.S.Source.left c.bundles.src) (g.K.Sink.got c.bundles.out) c.bundles.lines i.so_far;
      memory = tt;
      ended = λ _. c.in_ok-verdict.ensures.ended c.in-End.is;
      reads = reads_then g.S.Source _ _ _ (λ fault. fault) i.reads c.in_ok-verdict.ensures.tells (λ e. absurd (cc)) (λ e. absurd (not_fault _ _ c.in-End.is (λ f. cc) e));
      writes = writes_then g.K.Sink _ _ _ (λ fault. fault) i.writes (writes_none g.K.Sink c.bundles.out) (λ e. absurd (cc)) (λ fault. absurd fault);
    }

pub returns-in-ReadFault : goal.returns-in-ReadFault
returns-in-ReadFault g c =
    let i = c.bundles.invariant in
    record {
      says =
          says_read_fault (g.S.Source.left c.args.src.now) (g.K.Sink.got c.args.out.now) c.bundles.reader (g.S.Source.left c.bundles.src) (g.K.Sink.got c.bundles.out) c.bundles.lines i.so_far
          (g.S.Source.left c.next_bundle.new.src)
          (λ input done b. subst (IsOutcome input done c.next_bundle.new.reader (g.S.Source.left c.next_bundle.new.src) c.next_bundle.new.lines) c.in-ReadFault.is (c.in_ok-verdict.ensures.outcome input done b));
      front = front_so_far (g.S.Source.left c.args.src.now) (g.K.Sink.got c.args.out.now) c.bundles.reader (g.S.Source.left c.bundles.src) (g.K.Sink.got c.bundles.out) c.bundles.lines i.so_far;
      memory = tt;
      ended = λ e. absurd (cc);
      reads = reads_then g.S.Source _ _ _ (λ fault. fault) i.reads c.in_ok-verdict.ensures.tells (λ _. ap Ok c.in-ReadFault.is) (λ _. refl);
      writes = writes_then g.K.Sink _ _ _ (λ fault. fault) i.writes (writes_none g.K.Sink c.bundles.out) (λ e. absurd (cc)) (λ fault. absurd fault);
    }

pub returns-in_err-verdict : goal.returns-in_err-verdict
returns-in_err-verdict g c =
    let i = c.bundles.invariant in
    let r = c.from_residual.result in
    let is = c.from_residual.ensures.0 in
    record {
      says = IfOk-from_err r _ is;
      front = front_so_far (g.S.Source.left c.args.src.now) (g.K.Sink.got c.args.out.now) c.bundles.reader (g.S.Source.left c.bundles.src) (g.K.Sink.got c.bundles.out) c.bundles.lines i.so_far;
      memory = on_err r _ (says_lines (g.S.Source.left c.args.src.now) (g.K.Sink.got c.args.out.now) c.bundles.reader (g.S.Source.left c.bundles.src) (g.K.Sink.got c.bundles.out) c.bundles.lines i.so_far);
      ended = λ e. absurd (err_is_not_ok r _ is e);
      reads = reads_then g.S.Source _ _ _ (λ fault. fault) i.reads c.in_err-verdict.ensures.tells (λ e. absurd (err_is_not_ok r _ is e)) (λ e. absurd (cc));
      writes = writes_then g.K.Sink _ _ _ (λ fault. fault) i.writes (writes_none g.K.Sink c.bundles.out) (λ e. absurd (err_is_not_ok r _ is e)) (λ fault. absurd fault);
    }

pub returns-in-Err-put_no_bundle : goal.returns-in-Err-put_no_bundle
returns-in-Err-put_no_bundle g c =
    let i = c.bundles.invariant in
    let front =
    front_no (g.S.Source.left c.args.src.now) (g.K.Sink.got c.args.out.now) c.bundles.reader (g.S.Source.left c.bundles.src) (g.K.Sink.got c.bundles.out) c.bundles.lines i.so_far
    (g.K.Sink.got c.put_no_bundle.new.out) c.in-No.line c.in-No.reason
    (λ input done b. subst (IsOutcome input done c.next_bundle.new.reader (g.S.Source.left c.next_bundle.new.src) c.next_bundle.new.lines) c.in-No.is (c.in_ok-verdict.ensures.outcome input done b))
    c.in-Err-put_no_bundle.ensures.part in
    record {
      says = front;
      front = front;
      memory = tt;
      ended = λ e. absurd (cc);
      reads = reads_then g.S.Source _ _ _ (λ fault. fault) i.reads c.in_ok-verdict.ensures.tells (λ e. absurd (cc)) (λ e. absurd (not_fault _ _ c.in-No.is (λ f. cc) e));
      writes = writes_then g.K.Sink _ _ _ (λ fault. fault) i.writes (puts_tell g.K.Sink _ _ _ _ c.in-Err-put_no_bundle.ensures) (λ _. refl) (λ _. refl);
    }

pub returns-in-No : goal.returns-in-No
returns-in-No g c =
    let i = c.bundles.invariant in
    record {
      says =
          says_no (g.S.Source.left c.args.src.now) (g.K.Sink.got c.args.out.now) c.bundles.reader (g.S.Source.left c.bundles.src) (g.K.Sink.got c.bundles.out) c.bundles.lines i.so_far
          (g.K.Sink.got c.put_no_bundle.new.out) c.in-No.line c.in-No.reason c.refused_is_not_accepted.ensures
          (λ input done b. subst (IsOutcome input done c.next_bundle.new.reader (g.S.Source.left c.next_bundle.new.src) c.next_bundle.new.lines) c.in-No.is (c.in_ok-verdict.ensures.outcome input done b))
          c.in_default-put_no_bundle.ensures.all;
      front =
          whole_no (g.S.Source.left c.args.src.now) (g.K.Sink.got c.args.out.now) c.bundles.reader (g.S.Source.left c.bundles.src) (g.K.Sink.got c.bundles.out) c.bundles.lines i.so_far
          (g.K.Sink.got c.put_no_bundle.new.out) c.in-No.line c.in-No.reason
          (λ input done b. subst (IsOutcome input done c.next_bundle.new.reader (g.S.Source.left c.next_bundle.new.src) c.next_bundle.new.lines) c.in-No.is (c.in_ok-verdict.ensures.outcome input done b))
          c.in_default-put_no_bundle.ensures.all;
      memory = tt;
      ended = λ e. absurd (cc);
      reads = reads_then g.S.Source _ _ _ (λ fault. fault) i.reads c.in_ok-verdict.ensures.tells (λ e. absurd (cc)) (λ e. absurd (not_fault _ _ c.in-No.is (λ f. cc) e));
      writes = writes_then g.K.Sink _ _ _ (λ fault. fault) i.writes (puts_tell g.K.Sink _ _ _ _ c.in_default-put_no_bundle.ensures) (λ e. absurd (cc)) (λ e. absurd (cc));
    }
