use Rattle.std.proofs.Common.{◌≡◌, Result, Ok, ap, refl, subst, sym}
use Rattle.std.proofs.lemmas.Result.{IfOk-weaker}
use Rattle.crew_io.specs.Draws.{reads_then}
use Rattle.crew_io.specs.Results.{err_is_not_ok}
use Rattle.audit_command.specs.Events.{LongDay, NoDay}
use Rattle.audit_command.specs.Reads.{GoesOnBehind, IsBehindDay, IsPart}
use Rattle.audit_command.specs.declared.day_part.DayPart.{DayPart}
use Rattle.audit_command.specs.declared.day_part.DayPart.TheVariants as parts
use Rattle.audit_command.proofs.Going.{same_fault}
use Rattle.audit_command.proofs.ended.find.Goals as goal

not_fault : {E : Type 0} (x y : DayPart) → x ≡ y → (y ≡ parts.ReadFault → ⊥) → ◌≡◌ {A = Result DayPart E} (Ok x) (Ok parts.ReadFault) → ⊥
not_fault x y is apart e = apart (let f : x ≡ parts.ReadFault = cc in cc)

pub over_text-requires-clause-stopped : goal.over_text-requires-clause-stopped
over_text-requires-clause-stopped g c = (subst (λ p. GoesOnBehind p c.read_day_part.new.reader) c.in-Text.is c.in_ok-text.ensures.goes_on).0

pub over_text-requires-clause-limit : goal.over_text-requires-clause-limit
over_text-requires-clause-limit g c = (subst (λ p. GoesOnBehind p c.read_day_part.new.reader) c.in-Text.is c.in_ok-text.ensures.goes_on).1

pub over_text-requires-clause-handed : goal.over_text-requires-clause-handed
over_text-requires-clause-handed g c = (subst (λ p. GoesOnBehind p c.read_day_part.new.reader) c.in-Text.is c.in_ok-text.ensures.goes_on).2

pub returns-in-Text-clause-found : goal.returns-in-Text-clause-found
returns-in-Text-clause-found g c =
    IfOk-weaker c.over_text.result _ _ (λ found h input e.
    h input (subst (λ t. IsBehindDay input t c.read_day_part.new.reader (g.S.Source.left c.read_day_part.new.src)) (sym c.as_slice.ensures.value)
    (subst (λ p. IsPart input p c.read_day_part.new.reader (g.S.Source.left c.read_day_part.new.src)) c.in-Text.is (c.in_ok-text.ensures.part input e)))) c.over_text.ensures.found

pub returns-in-Text-clause-tells : goal.returns-in-Text-clause-tells
returns-in-Text-clause-tells g c =
    reads_then g.S.Source _ _ _ (λ e. not_fault _ _ c.in-Text.is (λ f. cc) e) c.in_ok-text.ensures.tells c.over_text.ensures.tells (λ e. e) (λ e. e)

pub returns-in-TooLong-clause-found : goal.returns-in-TooLong-clause-found
returns-in-TooLong-clause-found g c = λ input e.
    LongDay (subst (λ p. IsPart input p c.read_day_part.new.reader (g.S.Source.left c.read_day_part.new.src)) c.in-TooLong.is (c.in_ok-text.ensures.part input e)) refl

pub returns-in-TooLong-clause-tells : goal.returns-in-TooLong-clause-tells
returns-in-TooLong-clause-tells g c =
    same_fault g.S.Source c.args.src.now c.read_day_part.new.src c.in_ok-text.ensures.tells (λ e. absurd (cc)) (λ e. absurd (not_fault _ _ c.in-TooLong.is (λ f. cc) e))

pub returns-in-NoDossiers-clause-found : goal.returns-in-NoDossiers-clause-found
returns-in-NoDossiers-clause-found g c = λ input e.
    NoDay c.in-NoDossiers.why (subst (λ p. IsPart input p c.read_day_part.new.reader (g.S.Source.left c.read_day_part.new.src)) c.in-NoDossiers.is (c.in_ok-text.ensures.part input e)) refl

pub returns-in-NoDossiers-clause-tells : goal.returns-in-NoDossiers-clause-tells
returns-in-NoDossiers-clause-tells g c =
    same_fault g.S.Source c.args.src.now c.read_day_part.new.src c.in_ok-text.ensures.tells (λ e. absurd (cc)) (λ e. absurd (not_fault _ _ c.in-NoDossiers.is (λ f. cc) e))

pub returns-in-ReadFault-clause-found : goal.returns-in-ReadFault-clause-found
returns-in-ReadFault-clause-found g c = λ input e.
    subst (λ p. IsPart input p c.read_day_part.new.reader (g.S.Source.left c.read_day_part.new.src)) c.in-ReadFault.is (c.in_ok-text.ensures.part input e)

pub returns-in-ReadFault-clause-tells : goal.returns-in-ReadFault-clause-tells
returns-in-ReadFault-clause-tells g c = same_fault g.S.Source c.args.src.now c.read_day_part.new.src c.in_ok-text.ensures.tells (λ _. ap Ok c.in-ReadFault.is) (λ _. refl)

pub returns-in_err-text-clause-tells : goal.returns-in_err-text-clause-tells
returns-in_err-text-clause-tells g c =
    same_fault g.S.Source c.args.src.now c.read_day_part.new.src c.in_err-text.ensures.tells
    (λ e. absurd (err_is_not_ok c.from_residual-in_err-text.result _ c.from_residual-in_err-text.ensures.0 e)) (λ e. absurd (cc))
