use Rattle.std.proofs.Common.{◌≡◌, None, Result, Ok, subst, ap, refl}
use Rattle.std.proofs.lemmas.Result.{IfOk-from_err}
use Rattle.crew_terms.specs.declared.TheConstants.{LONGEST_DAY}
use Rattle.crew_io.specs.Text.{ReadsText}
use Rattle.crew_io.specs.declared.text.Text.{Text}
use Rattle.crew_io.specs.declared.text.Text.TheVariants as text_is
use Rattle.crew_io.specs.Chains.{writes_none, writes_then}
use Rattle.crew_io.specs.Draws.{reads_none, reads_then}
use Rattle.crew_io.specs.Results.{err_is_not_ok, on_err}
use Rattle.day_explain.specs.Says.{SaysAt, Wrote}
use Rattle.day_explain.proofs.Said.{same_ok, fault_says, long_no_read, long_not_fine, long_says, none_memory, text_no_read, whole_ended, whole_says}
use Rattle.day_explain.proofs.read.explain.Goals as goal

not_fault : {E : Type 0} (x y : Text) → x ≡ y → (y ≡ text_is.ReadFault → ⊥) → ◌≡◌ {A = Result Text E} (Ok x) (Ok text_is.ReadFault) → ⊥
not_fault x y is apart e = apart (let f : x ≡ text_is.ReadFault = cc in cc)

pub returns-in_err-text : goal.returns-in_err-text
returns-in_err-text g c =
    let r = c.from_residual.result in
    let is = c.from_residual.ensures.0 in
    record {
      says = IfOk-from_err r _ is;
      memory = on_err r _ (none_memory (g.S.Source.left c.args.src.now) _ (g.K.Sink.got c.args.out.now) refl);
      ended = λ e. absurd (err_is_not_ok r _ is e);
      reads = reads_then g.S.Source _ _ _ (λ fault. fault) (reads_none g.S.Source c.args.src.now) c.in_err-text.ensures.tells (λ e. absurd (err_is_not_ok r _ is e)) (λ e. absurd (cc));
      writes = writes_then g.K.Sink _ _ _ (λ fault. fault) (writes_none g.K.Sink c.args.out.now) (writes_none g.K.Sink c.args.out.now) (λ e. absurd (err_is_not_ok r _ is e)) (λ fault. absurd fault);
    }

pub returns-in_err-ended-in-Whole : goal.returns-in_err-ended-in-Whole
returns-in_err-ended-in-Whole g c =
    let r = c.from_residual-in_err-ended-in-Whole.result in
    let is = c.from_residual-in_err-ended-in-Whole.ensures.0 in
    record {
      says = IfOk-from_err r _ is;
      memory = on_err r _ (none_memory (g.S.Source.left c.args.src.now) (g.K.Sink.got c.args.out.now) (g.K.Sink.got c.explain_text.new.out) c.in_err-ended-in-Whole.ensures.nothing);
      ended = λ e. absurd (err_is_not_ok r _ is e);
      reads = reads_then g.S.Source _ _ _ (λ fault. fault) (reads_none g.S.Source c.args.src.now) c.in_ok-text.ensures.tells (λ e. absurd (err_is_not_ok r _ is e)) (λ e. absurd (not_fault _ _ c.in-Whole.is (λ f. cc) e));
      writes = writes_then g.K.Sink _ _ _ (λ fault. fault) (writes_none g.K.Sink c.args.out.now) c.in_err-ended-in-Whole.ensures.tells (λ e. absurd (err_is_not_ok r _ is e)) (λ e. absurd (cc));
    }

pub returns-in_ok-ended-in-Whole : goal.returns-in_ok-ended-in-Whole
returns-in_ok-ended-in-Whole g c =
    let left = g.S.Source.left c.args.src.now in
    let later = g.S.Source.left c.read_text.new.src in
    let got = g.K.Sink.got c.args.out.now in
    let new = g.K.Sink.got c.explain_text.new.out in
    let read = subst (λ t. ReadsText LONGEST_DAY left t later) c.in-Whole.is c.in_ok-text.ensures.reads in
    let e = c.in_ok-ended-in-Whole.ensures in
    record {
      says = whole_says left later got new c.in-Whole.text c.in_ok-ended-in-Whole.ended read e.others (subst (λ t. Wrote got new (SaysAt c.in_ok-ended-in-Whole.ended None t)) c.as_slice.ensures e.says);
      memory = tt;
      ended = λ _. whole_ended left later c.in-Whole.text read;
      reads = reads_then g.S.Source _ _ _ (λ fault. fault) (reads_none g.S.Source c.args.src.now) c.in_ok-text.ensures.tells (λ is. absurd (text_no_read _ e.others (same_ok is))) (λ is. absurd (not_fault _ _ c.in-Whole.is (λ f. cc) is));
      writes = e.tells;
    }

pub returns-in-TooLong : goal.returns-in-TooLong
returns-in-TooLong g c =
    let left = g.S.Source.left c.args.src.now in
    let later = g.S.Source.left c.read_text.new.src in
    let read = subst (λ t. ReadsText LONGEST_DAY left t later) c.in-TooLong.is c.in_ok-text.ensures.reads in
    let e = c.put_long.ensures in
    record {
      says = long_says left later (g.K.Sink.got c.args.out.now) (g.K.Sink.got c.put_long.new.out) c.put_long.result read e.wrong e.part e.others;
      memory = tt;
      ended = λ is. absurd (long_not_fine c.put_long.result e.others (same_ok is));
      reads = reads_then g.S.Source _ _ _ (λ fault. fault) (reads_none g.S.Source c.args.src.now) c.in_ok-text.ensures.tells (λ is. absurd (long_no_read _ e.others (same_ok is))) (λ is. absurd (not_fault _ _ c.in-TooLong.is (λ f. cc) is));
      writes = writes_then g.K.Sink _ _ _ (λ fault. fault) (writes_none g.K.Sink c.args.out.now) e.tells (λ is. same_ok is) (λ is. ap Ok is);
    }

pub returns-in-ReadFault : goal.returns-in-ReadFault
returns-in-ReadFault g c =
    let left = g.S.Source.left c.args.src.now in
    let later = g.S.Source.left c.read_text.new.src in
    record {
      says = fault_says left later (g.K.Sink.got c.args.out.now) (subst (λ t. ReadsText LONGEST_DAY left t later) c.in-ReadFault.is c.in_ok-text.ensures.reads);
      memory = tt;
      ended = λ e. absurd (cc);
      reads = reads_then g.S.Source _ _ _ (λ fault. fault) (reads_none g.S.Source c.args.src.now) c.in_ok-text.ensures.tells (λ _. ap Ok c.in-ReadFault.is) (λ _. refl);
      writes = writes_then g.K.Sink _ _ _ (λ fault. fault) (writes_none g.K.Sink c.args.out.now) (writes_none g.K.Sink c.args.out.now) (λ e. absurd (cc)) (λ fault. absurd fault);
    }
