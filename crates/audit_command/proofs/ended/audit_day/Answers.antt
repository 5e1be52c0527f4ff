use Rattle.std.proofs.Common.{◌≡◌, Result, Ok, ap, refl, subst, ◌∙◌}
use Rattle.std.proofs.lemmas.Result.{IfOk-from_err}
use Rattle.crew_io.specs.Chains.{writes_none, writes_then}
use Rattle.crew_io.specs.Results.{err_is_not_ok, on_err}
use Rattle.audit_command.specs.Reads.{FoundHasLine, IsFound}
use Rattle.audit_command.specs.declared.ended.Ended.{Ended}
use Rattle.audit_command.specs.declared.rounds.Found.{Found}
use Rattle.audit_command.specs.declared.rounds.Found.TheVariants as finds
use Rattle.audit_command.proofs.Going.{same_fault}
use Rattle.audit_command.proofs.Told.{says_told, says_unread, told_done, told_no_read_fault}
use Rattle.audit_command.proofs.ended.audit_day.Goals as goal

same_end : {E : Type 0} {a b : Ended} → ◌≡◌ {A = Result Ended E} (Ok a) (Ok b) → a ≡ b
same_end e = cc

not_fault : {E : Type 0} (x y : Found) → x ≡ y → (y ≡ finds.ReadFault → ⊥) → ◌≡◌ {A = Result Found E} (Ok x) (Ok finds.ReadFault) → ⊥
not_fault x y is apart e = apart (let f : x ≡ finds.ReadFault = cc in cc)

pub tell-requires : goal.tell-requires
tell-requires g c = subst FoundHasLine c.in-Event.is c.in_ok-event.ensures.line

pub returns-in-Event : goal.returns-in-Event
returns-in-Event g c =
    let left = g.S.Source.left c.args.src.now in
    let unseen = g.S.Source.left c.find.new.src in
    let got = g.K.Sink.got c.args.out.now in
    let later = g.K.Sink.got c.tell.new.out in
    record {
      says = says_told left unseen got later c.in-Event.event c.tell.result c.one_event.ensures
          (λ input e. subst (IsFound input unseen) c.in-Event.is (c.in_ok-event.ensures.found input e)) c.tell.ensures.told;
      memory = tt;
      ended = λ e. (let d = told_done got later c.in-Event.event c.tell.result c.tell.ensures.told (same_end e) in c.in_ok-event.ensures.ended d.0 (ap Ok (c.in-Event.is ∙ ap finds.Event d.1)));
      reads = same_fault g.S.Source c.args.src.now c.find.new.src c.in_ok-event.ensures.tells
          (λ e. absurd (told_no_read_fault got later c.in-Event.event c.tell.result c.tell.ensures.told (same_end e))) (λ e. absurd (not_fault _ _ c.in-Event.is (λ f. cc) e));
      writes = writes_then g.K.Sink _ _ _ (λ fault. fault) (writes_none g.K.Sink c.args.out.now) c.tell.ensures.writes (λ e. same_end e) (λ e. ap Ok e);
    }

pub returns-in-ReadFault : goal.returns-in-ReadFault
returns-in-ReadFault g c =
    let left = g.S.Source.left c.args.src.now in
    let unseen = g.S.Source.left c.find.new.src in
    record {
      says = says_unread left unseen (g.K.Sink.got c.args.out.now) (λ input e. subst (IsFound input unseen) c.in-ReadFault.is (c.in_ok-event.ensures.found input e));
      memory = tt;
      ended = λ e. absurd (cc);
      reads = same_fault g.S.Source c.args.src.now c.find.new.src c.in_ok-event.ensures.tells (λ _. ap Ok c.in-ReadFault.is) (λ _. refl);
      writes = writes_then g.K.Sink _ _ _ (λ fault. fault) (writes_none g.K.Sink c.args.out.now) (writes_none g.K.Sink c.args.out.now) (λ e. absurd (cc)) (λ fault. absurd fault);
    }

pub returns-in_err-event : goal.returns-in_err-event
returns-in_err-event g c =
    let r = c.from_residual.result in
    let is = c.from_residual.ensures.0 in
    record {
      says = IfOk-from_err r _ is;
      memory = on_err r _ refl;
      ended = λ e. absurd (err_is_not_ok r _ is e);
      reads = same_fault g.S.Source c.args.src.now c.find.new.src c.in_err-event.ensures.tells (λ e. absurd (err_is_not_ok r _ is e)) (λ e. absurd (cc));
      writes = writes_then g.K.Sink _ _ _ (λ fault. fault) (writes_none g.K.Sink c.args.out.now) (writes_none g.K.Sink c.args.out.now) (λ e. absurd (err_is_not_ok r _ is e)) (λ fault. absurd fault);
    }
