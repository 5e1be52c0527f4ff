use Rattle.std.proofs.Common.{◌≡◌, ◌+◌, Option, Some, Result, Ok, ap, refl, subst}
use Rattle.crew_io.specs.Results.{err_is_not_ok}
use Rattle.dossier_commands.specs.Input.{IsOutcome, OpensNext}
use Rattle.dossier_commands.specs.declared.input.Outcome.{Outcome}
use Rattle.dossier_commands.specs.declared.input.Outcome.TheVariants as outcome
use Rattle.audit_command.specs.declared.rounds.Found.{Found}
use Rattle.audit_command.specs.declared.rounds.Found.TheVariants as finds
use Rattle.audit_command.proofs.Going.{bad_amid, bad_line, compared, dossiers_at, failed, misfit_amid, misfit_no_fault, no_more, same_fault}
use Rattle.audit_command.proofs.rounds.Dossiers.round.Goals as goal

same_ok : {E : Type 0} {a b : Option Found} → ◌≡◌ {A = Result (Option Found) E} (Ok a) (Ok b) → a ≡ b
same_ok e = cc

not_fault : {E : Type 0} (x y : Outcome) → x ≡ y → (y ≡ outcome.ReadFault → ⊥) → ◌≡◌ {A = Result Outcome E} (Ok x) (Ok outcome.ReadFault) → ⊥
not_fault x y is apart e = apart (let f : x ≡ outcome.ReadFault = cc in cc)

bad_is_no_fault : {E : Type 0} (x y : Found) → x ≡ y → (y ≡ finds.ReadFault → ⊥) → ◌≡◌ {A = Result (Option Found) E} (Ok (Some x)) (Ok (Some finds.ReadFault)) → ⊥
bad_is_no_fault x y is apart e = apart (let f : x ≡ finds.ReadFault = cc in cc)

pub dossier-requires-clause-whole : goal.dossier-requires-clause-whole
dossier-requires-clause-whole g c =
    let n = subst (OpensNext c.args.self.now.reader c.next_dossier.new.reader c.next_dossier.new.checker) c.in-Yes.is c.in_ok-next_dossier.ensures.next in
    (n.2.dossier, n.2.whole)

pub returns-in_ok-fit-in-Yes-clause-reads : goal.returns-in_ok-fit-in-Yes-clause-reads
returns-in_ok-fit-in-Yes-clause-reads g c =
    let n = subst (OpensNext c.args.self.now.reader c.next_dossier.new.reader c.next_dossier.new.checker) c.in-Yes.is c.in_ok-next_dossier.ensures.next in
    compared c.args.self.now (g.S.Source.left c.args.src.now) (g.S.Source.left c.next_dossier.new.src) c.next_dossier.new.reader c.next_dossier.new.checker c.dossier.new.self (c.args.self.now.rounds + 1)
    c.in-Yes.field-0 c.in_ok-fit-in-Yes.fit c.misfit.result c.misfit.ensures refl n.0 c.in_ok-fit-in-Yes.ensures.fit
    (λ d w good is. c.in_ok-fit-in-Yes.ensures.fits d w good (ap Ok is))
    (λ front input done b. subst (IsOutcome front input done c.next_dossier.new.reader (g.S.Source.left c.next_dossier.new.src) c.next_dossier.new.checker) c.in-Yes.is (c.in_ok-next_dossier.ensures.outcome front input done b))

pub returns-in_ok-fit-in-Yes-clause-amid : goal.returns-in_ok-fit-in-Yes-clause-amid
returns-in_ok-fit-in-Yes-clause-amid g c = misfit_amid (c.args.self.now.rounds + 1) c.in_ok-fit-in-Yes.fit c.misfit.result c.misfit.ensures

pub returns-in_ok-fit-in-Yes-clause-tells : goal.returns-in_ok-fit-in-Yes-clause-tells
returns-in_ok-fit-in-Yes-clause-tells g c =
    same_fault g.S.Source c.args.src.now c.next_dossier.new.src c.in_ok-next_dossier.ensures.tells
    (λ e. absurd (misfit_no_fault (c.args.self.now.rounds + 1) c.in_ok-fit-in-Yes.fit c.misfit.result c.misfit.ensures (same_ok e)))
    (λ e. absurd (not_fault _ _ c.in-Yes.is (λ f. cc) e))

pub returns-in-No-clause-reads : goal.returns-in-No-clause-reads
returns-in-No-clause-reads g c =
    bad_line c.args.self.now c.args.self.now (g.S.Source.left c.args.src.now) (g.S.Source.left c.next_dossier.new.src) c.bad_dossier.result c.in-No.line c.in-No.reason c.bad_dossier.ensures
    (λ front input done b. subst (IsOutcome front input done c.next_dossier.new.reader (g.S.Source.left c.next_dossier.new.src) c.next_dossier.new.checker) c.in-No.is (c.in_ok-next_dossier.ensures.outcome front input done b))

pub returns-in-No-clause-amid : goal.returns-in-No-clause-amid
returns-in-No-clause-amid g c = bad_amid c.bad_dossier.result (c.args.self.now.rounds + 1) c.in-No.line c.in-No.reason c.bad_dossier.ensures

pub returns-in-No-clause-tells : goal.returns-in-No-clause-tells
returns-in-No-clause-tells g c =
    same_fault g.S.Source c.args.src.now c.next_dossier.new.src c.in_ok-next_dossier.ensures.tells
    (λ e. absurd (bad_is_no_fault _ _ c.bad_dossier.ensures (λ f. cc) e)) (λ e. absurd (not_fault _ _ c.in-No.is (λ f. cc) e))

pub returns-in-End-clause-reads : goal.returns-in-End-clause-reads
returns-in-End-clause-reads g c =
    no_more c.args.self.now c.args.self.now (g.S.Source.left c.args.src.now) (g.S.Source.left c.next_dossier.new.src) c.bad_dossier-in-End.result (c.lines-next.result + 1) c.bad_dossier-in-End.ensures (ap (λ n. n + 1) c.lines-next.ensures.count)
    (λ front input done b. subst (IsOutcome front input done c.next_dossier.new.reader (g.S.Source.left c.next_dossier.new.src) c.next_dossier.new.checker) c.in-End.is (c.in_ok-next_dossier.ensures.outcome front input done b))

pub returns-in-End-clause-amid : goal.returns-in-End-clause-amid
returns-in-End-clause-amid g c = bad_amid c.bad_dossier-in-End.result (c.args.self.now.rounds + 1) (c.lines-next.result + 1) _ c.bad_dossier-in-End.ensures

pub returns-in-End-clause-tells : goal.returns-in-End-clause-tells
returns-in-End-clause-tells g c =
    same_fault g.S.Source c.args.src.now c.next_dossier.new.src c.in_ok-next_dossier.ensures.tells
    (λ e. absurd (bad_is_no_fault _ _ c.bad_dossier-in-End.ensures (λ f. cc) e)) (λ e. absurd (not_fault _ _ c.in-End.is (λ f. cc) e))

pub returns-in-ReadFault-clause-reads : goal.returns-in-ReadFault-clause-reads
returns-in-ReadFault-clause-reads g c =
    failed c.args.self.now (dossiers_at c.next_dossier.new.reader c.next_dossier.new.checker c.args.self.now.audit c.args.self.now.rounds) (g.S.Source.left c.args.src.now) (g.S.Source.left c.next_dossier.new.src)
    (λ front input done b. subst (IsOutcome front input done c.next_dossier.new.reader (g.S.Source.left c.next_dossier.new.src) c.next_dossier.new.checker) c.in-ReadFault.is (c.in_ok-next_dossier.ensures.outcome front input done b))

pub returns-in-ReadFault-clause-amid : goal.returns-in-ReadFault-clause-amid
returns-in-ReadFault-clause-amid g c = record { line = tt; amid = λ n e. cc }

pub returns-in-ReadFault-clause-tells : goal.returns-in-ReadFault-clause-tells
returns-in-ReadFault-clause-tells g c = same_fault g.S.Source c.args.src.now c.next_dossier.new.src c.in_ok-next_dossier.ensures.tells (λ _. ap Ok c.in-ReadFault.is) (λ _. refl)

pub returns-in_err-next_dossier-clause-tells : goal.returns-in_err-next_dossier-clause-tells
returns-in_err-next_dossier-clause-tells g c =
    same_fault g.S.Source c.args.src.now c.next_dossier.new.src c.in_err-next_dossier.ensures.tells (λ e. absurd (err_is_not_ok c.from_residual.result _ c.from_residual.ensures.0 e)) (λ e. absurd (cc))

pub returns-in_err-fit-in-Yes-clause-tells : goal.returns-in_err-fit-in-Yes-clause-tells
returns-in_err-fit-in-Yes-clause-tells g c =
    same_fault g.S.Source c.args.src.now c.next_dossier.new.src c.in_ok-next_dossier.ensures.tells
    (λ e. absurd (err_is_not_ok c.from_residual-in_err-fit-in-Yes.result _ c.from_residual-in_err-fit-in-Yes.ensures.0 e)) (λ e. absurd (not_fault _ _ c.in-Yes.is (λ f. cc) e))
