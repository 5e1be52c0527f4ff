use Rattle.std.proofs.Common.{◌≡◌, Result, Ok, subst, ap, refl, arith}
use Rattle.std.proofs.lemmas.Result.{IfOk-from_err}
use Rattle.crew_io.specs.Chains.{writes_none, writes_then, puts_tell}
use Rattle.crew_io.specs.Draws.{reads_none, reads_then}
use Rattle.crew_io.specs.Results.{err_is_not_ok}
use Rattle.dossier_commands.specs.Input.{IsOutcome, OpensNext}
use Rattle.dossier_commands.specs.declared.input.Outcome.{Outcome}
use Rattle.dossier_commands.specs.declared.input.Outcome.TheVariants as outcome
use Rattle.desk_commands.proofs.Said.{opens, begins, says_one_more, says_read_fault, front_so_far, front_good, front_head}
use Rattle.desk_commands.proofs.Ends.{ends_done, ends_no}
use Rattle.desk_commands.proofs.read.read_all.Goals as goal

not_fault : {E : Type 0} (x y : Outcome) → x ≡ y → (y ≡ outcome.ReadFault → ⊥) → ◌≡◌ {A = Result Outcome E} (Ok x) (Ok outcome.ReadFault) → ⊥
not_fault x y is apart e = apart (let f : x ≡ outcome.ReadFault = cc in cc)

pub dossiers-init : goal.dossiers-init
dossiers-init g c = record {
  going = opens c.args.reader.now c.args.checker.now c.requires.reader c.requires.checker;
  few = omega arith;
  so_far = begins c.args.output (g.S.Source.left c.args.src.now) (g.K.Sink.got c.args.out.now) (g.K.Sink.got c.put_first.new.out) c.args.reader.now c.args.checker.now c.requires.reader c.requires.checker c.in_default.ensures.all;
  reads = reads_none g.S.Source c.args.src.now;
  writes = writes_then g.K.Sink _ _ _ (λ fault. fault) (writes_none g.K.Sink c.args.out.now) (puts_tell g.K.Sink _ _ _ _ c.in_default.ensures) (λ fault. absurd fault) (λ e. cc);
}

pub returns-in-Err : goal.returns-in-Err
returns-in-Err g c =
    let front = front_head c.args.output (g.S.Source.left c.args.src.now) (g.K.Sink.got c.args.out.now) (g.K.Sink.got c.put_first.new.out) c.in-Err.ensures.part in
    record {
      says = front;
      front = front;
      ended = λ e. absurd (cc);
      reads = reads_then g.S.Source _ _ _ (λ fault. fault) (reads_none g.S.Source c.args.src.now) (reads_none g.S.Source c.args.src.now) (λ e. absurd (cc)) (λ fault. absurd fault);
      writes = writes_then g.K.Sink _ _ _ (λ fault. fault) (writes_none g.K.Sink c.args.out.now) (puts_tell g.K.Sink _ _ _ _ c.in-Err.ensures) (λ _. refl) (λ _. refl);
    }

pub note_dossier-requires : goal.note_dossier-requires
note_dossier-requires g c = (subst (OpensNext c.dossiers.reader c.next_dossier.new.reader c.next_dossier.new.checker) c.in-Yes.is c.in_ok-verdict.ensures.next).2

pub overflow_add-rounds : goal.overflow_add-rounds
overflow_add-rounds g c = let f = c.dossiers.invariant.few in let w = c.dossiers.invariant.going.going.within in omega (arith, f, w)

pub put_round-requires-clause-yes : goal.put_round-requires-clause-yes
put_round-requires-clause-yes g c = (subst (OpensNext c.dossiers.reader c.next_dossier.new.reader c.next_dossier.new.checker) c.in-Yes.is c.in_ok-verdict.ensures.next).2

pub put_round-requires-clause-now : goal.put_round-requires-clause-now
put_round-requires-clause-now g c = c.in_ok-now-in-Yes.ensures

pub dossiers-preserved : goal.dossiers-preserved
dossiers-preserved g c =
    let next = subst (OpensNext c.dossiers.reader c.next_dossier.new.reader c.next_dossier.new.checker) c.in-Yes.is c.in_ok-verdict.ensures.next in
    let i = c.dossiers.invariant in
    let y = next.2 in
    record {
      going = next.0;
      few = let f = i.few in let m = next.1 in omega (arith, f, m);
      so_far =
          says_one_more c.args.output (g.S.Source.left c.args.src.now) (g.K.Sink.got c.args.out.now) c.dossiers.reader (g.S.Source.left c.dossiers.src) (g.K.Sink.got c.dossiers.out) c.dossiers.checker c.dossiers.rounds c.dossiers.before i.so_far
          c.next_dossier.new.reader (g.S.Source.left c.next_dossier.new.src) (g.K.Sink.got c.put_round.new.out) c.next_dossier.new.checker c.in-Yes.verdict c.in_ok-now-in-Yes.now
          (λ front input done b. subst (IsOutcome front input done c.next_dossier.new.reader (g.S.Source.left c.next_dossier.new.src) c.next_dossier.new.checker) c.in-Yes.is (c.in_ok-verdict.ensures.outcome front input done b))
          c.in_ok-now-in-Yes.ensures
          (λ d whole says. (c.in_default-put_round.ensures d whole says).all);
      reads = reads_then g.S.Source _ _ _ (λ fault. fault) i.reads c.in_ok-verdict.ensures.tells (λ fault. absurd fault) (λ e. not_fault _ _ c.in-Yes.is (λ f. cc) e);
      writes = writes_then g.K.Sink _ _ _ (λ fault. fault) i.writes (puts_tell g.K.Sink _ _ _ _ (c.in_default-put_round.ensures y.dossier y.whole y.says)) (λ fault. absurd fault) (λ e. cc);
    }

pub returns-in-Err-put_round : goal.returns-in-Err-put_round
returns-in-Err-put_round g c =
    let next = subst (OpensNext c.dossiers.reader c.next_dossier.new.reader c.next_dossier.new.checker) c.in-Yes.is c.in_ok-verdict.ensures.next in
    let i = c.dossiers.invariant in
    let y = next.2 in
    let front =
    front_good c.args.output (g.S.Source.left c.args.src.now) (g.K.Sink.got c.args.out.now) c.dossiers.reader (g.S.Source.left c.dossiers.src) (g.K.Sink.got c.dossiers.out) c.dossiers.checker c.dossiers.rounds c.dossiers.before i.so_far
    c.next_dossier.new.reader (g.S.Source.left c.next_dossier.new.src) (g.K.Sink.got c.put_round.new.out) c.next_dossier.new.checker c.in-Yes.verdict
    (λ front input done b. subst (IsOutcome front input done c.next_dossier.new.reader (g.S.Source.left c.next_dossier.new.src) c.next_dossier.new.checker) c.in-Yes.is (c.in_ok-verdict.ensures.outcome front input done b))
    (λ d whole says. (c.in-Err-put_round.ensures d whole says).part) in
    record {
      says = front;
      front = front;
      ended = λ e. absurd (cc);
      reads = reads_then g.S.Source _ _ _ (λ fault. fault) i.reads c.in_ok-verdict.ensures.tells (λ e. absurd (cc)) (λ e. absurd (not_fault _ _ c.in-Yes.is (λ f. cc) e));
      writes = writes_then g.K.Sink _ _ _ (λ fault. fault) i.writes (puts_tell g.K.Sink _ _ _ _ (c.in-Err-put_round.ensures y.dossier y.whole y.says)) (λ _. refl) (λ _. refl);
    }

pub returns-in_err-now-in-Yes : goal.returns-in_err-now-in-Yes
returns-in_err-now-in-Yes g c =
    let i = c.dossiers.invariant in
    let r = c.from_residual-in_err-now-in-Yes.result in
    let is = c.from_residual-in_err-now-in-Yes.ensures.0 in
    record {
      says = IfOk-from_err r _ is;
      front = front_so_far c.args.output (g.S.Source.left c.args.src.now) (g.K.Sink.got c.args.out.now) c.dossiers.reader (g.S.Source.left c.dossiers.src) (g.K.Sink.got c.dossiers.out) c.dossiers.checker c.dossiers.rounds c.dossiers.before i.so_far;
      ended = λ e. absurd (err_is_not_ok r _ is e);
      reads = reads_then g.S.Source _ _ _ (λ fault. fault) i.reads c.in_ok-verdict.ensures.tells (λ e. absurd (err_is_not_ok r _ is e)) (λ e. absurd (not_fault _ _ c.in-Yes.is (λ f. cc) e));
      writes = writes_then g.K.Sink _ _ _ (λ fault. fault) i.writes (writes_none g.K.Sink c.dossiers.out) (λ e. absurd (err_is_not_ok r _ is e)) (λ fault. absurd fault);
    }

pub returns-in_err-verdict : goal.returns-in_err-verdict
returns-in_err-verdict g c =
    let i = c.dossiers.invariant in
    let r = c.from_residual.result in
    let is = c.from_residual.ensures.0 in
    record {
      says = IfOk-from_err r _ is;
      front = front_so_far c.args.output (g.S.Source.left c.args.src.now) (g.K.Sink.got c.args.out.now) c.dossiers.reader (g.S.Source.left c.dossiers.src) (g.K.Sink.got c.dossiers.out) c.dossiers.checker c.dossiers.rounds c.dossiers.before i.so_far;
      ended = λ e. absurd (err_is_not_ok r _ is e);
      reads = reads_then g.S.Source _ _ _ (λ fault. fault) i.reads c.in_err-verdict.ensures.tells (λ e. absurd (err_is_not_ok r _ is e)) (λ e. absurd (cc));
      writes = writes_then g.K.Sink _ _ _ (λ fault. fault) i.writes (writes_none g.K.Sink c.dossiers.out) (λ e. absurd (err_is_not_ok r _ is e)) (λ fault. absurd fault);
    }

pub returns-in-End : goal.returns-in-End
returns-in-End g c =
    let i = c.dossiers.invariant in
    ends_done g.S.Source g.K.Sink c.args.output c.args.src.now c.dossiers.src c.next_dossier.new.src c.args.out.now c.dossiers.out c.finish.new.out c.dossiers.reader c.dossiers.checker c.dossiers.rounds c.dossiers.before
    i.so_far (reads_then g.S.Source _ _ _ (λ fault. fault) i.reads c.in_ok-verdict.ensures.tells (λ fault. absurd fault) (λ e. not_fault _ _ c.in-End.is (λ f. cc) e)) i.writes
    (λ front input done b. subst (IsOutcome front input done c.next_dossier.new.reader (g.S.Source.left c.next_dossier.new.src) c.next_dossier.new.checker) c.in-End.is (c.in_ok-verdict.ensures.outcome front input done b))
    (c.in_ok-verdict.ensures.ended c.in-End.is) c.finish.result c.finish.ensures

pub returns-in-No : goal.returns-in-No
returns-in-No g c =
    let i = c.dossiers.invariant in
    ends_no g.S.Source g.K.Sink c.args.output c.args.src.now c.dossiers.src c.next_dossier.new.src c.args.out.now c.dossiers.out c.finish-in-No.new.out c.dossiers.reader c.dossiers.checker c.dossiers.rounds c.dossiers.before
    i.so_far (reads_then g.S.Source _ _ _ (λ fault. fault) i.reads c.in_ok-verdict.ensures.tells (λ fault. absurd fault) (λ e. not_fault _ _ c.in-No.is (λ f. cc) e)) i.writes
    (record { line = c.in-No.line; reason = c.in-No.reason }) c.refused_is_not_accepted.ensures
    (λ front input done b. subst (IsOutcome front input done c.next_dossier.new.reader (g.S.Source.left c.next_dossier.new.src) c.next_dossier.new.checker) c.in-No.is (c.in_ok-verdict.ensures.outcome front input done b))
    c.finish-in-No.result c.finish-in-No.ensures

pub returns-in-ReadFault : goal.returns-in-ReadFault
returns-in-ReadFault g c =
    let i = c.dossiers.invariant in
    record {
      says =
          says_read_fault c.args.output (g.S.Source.left c.args.src.now) (g.K.Sink.got c.args.out.now) c.dossiers.reader (g.S.Source.left c.dossiers.src) (g.K.Sink.got c.dossiers.out) c.dossiers.checker c.dossiers.rounds c.dossiers.before i.so_far
          c.next_dossier.new.reader (g.S.Source.left c.next_dossier.new.src)
          (λ front input done b. subst (IsOutcome front input done c.next_dossier.new.reader (g.S.Source.left c.next_dossier.new.src) c.next_dossier.new.checker) c.in-ReadFault.is (c.in_ok-verdict.ensures.outcome front input done b));
      front = front_so_far c.args.output (g.S.Source.left c.args.src.now) (g.K.Sink.got c.args.out.now) c.dossiers.reader (g.S.Source.left c.dossiers.src) (g.K.Sink.got c.dossiers.out) c.dossiers.checker c.dossiers.rounds c.dossiers.before i.so_far;
      ended = λ e. absurd (cc);
      reads = reads_then g.S.Source _ _ _ (λ fault. fault) i.reads c.in_ok-verdict.ensures.tells (λ _. ap Ok c.in-ReadFault.is) (λ _. refl);
      writes = writes_then g.K.Sink _ _ _ (λ fault. fault) i.writes (writes_none g.K.Sink c.dossiers.out) (λ e. absurd (cc)) (λ fault. absurd fault);
    }
