use Rattle.std.proofs.Common.{subst, sym}
use Rattle.std.specs.Prelude.{Ok, Err}
use Rattle.std.proofs.lemmas.Result.{err_from_is_err_and}
use Rattle.sheet_terms.specs.Table.{SaysOfSheet}
use Rattle.sheet_checker.specs.Due.{Tells}
use Rattle.sheet_checker.specs.declared.due.Step.TheVariants.{More}
use Rattle.sheet_checker.proofs.Heads.{head_goes, head_refused}
use Rattle.sheet_checker.proofs.judge.head_line.Goals as goal

pub returns-in_err-next : goal.returns-in_err-next
returns-in_err-next c =
    let refusal = c.in_err-next.field-0.0 in
    let p = err_from_is_err_and c.from_residual.result c.from_residual.ensures.1 in
    rw (p.1, p.2) (λ reading awaited. subst (λ s. Tells (SaysOfSheet s c.args.words) (Err refusal)) (sym awaited.2) (head_refused c.args.due c.args.words refusal c.in_err-next.ensures))

pub due_after-requires : goal.due_after-requires
due_after-requires c = c.in_ok-next.ensures.holds

pub returns : goal.returns
returns c = λ reading awaited.
    subst (λ s. Tells (SaysOfSheet s c.args.words) (Ok (More c.in_ok-after.after))) (sym awaited.2)
    (head_goes c.args.due c.in_ok-next.next c.args.words c.in_ok-after.after c.in_ok-next.ensures c.in_ok-after.ensures)
