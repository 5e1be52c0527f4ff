use Rattle.std.proofs.Common.{sym, subst}
use Rattle.std.proofs.lemmas.Result.{err_from_is_err_and}
use Rattle.std.specs.Prelude.{Ok, Err}
use Rattle.dossier_terms.specs.Reading.{No as Refuses}
use Rattle.dossier_terms.specs.Table.{Says}
use Rattle.cert_checker.specs.Due.{Tells, draft_of}
use Rattle.cert_checker.specs.Rules.{TellsCounts}
use Rattle.cert_checker.specs.declared.due.BegunDossier.{BegunDossier}
use Rattle.cert_checker.specs.declared.due.Step.TheVariants.{More}
use Rattle.cert_checker.proofs.TreeRows.{tree_faulty, tree_begun}
use Rattle.cert_checker.proofs.tree.tree_line.Goals as goal

pub returns-in_err-judge_counts : goal.returns-in_err-judge_counts
returns-in_err-judge_counts c =
    let h = c.in_ok-claimed.ensures in
    let claimed = c.in_ok-claimed.claimed in
    let reason = c.in_err-judge_counts.field-0.0 in
    let told = subst (λ (d : BegunDossier). TellsCounts (draft_of d) claimed (Err reason)) c.deref.ensures c.in_err-judge_counts.ensures in
    let p = err_from_is_err_and c.from_residual-in_err-judge_counts.result c.from_residual-in_err-judge_counts.ensures.1 in
    rw (p.1, p.2) (λ reading awaited. subst (λ r. Says r c.args.words (Refuses reason)) (sym awaited.1) (tree_faulty c.args.draft claimed c.args.words reason h.0 h.1 told))

pub returns : goal.returns
returns c = λ reading awaited.
    let h = c.in_ok-claimed.ensures in
    let claimed = c.in_ok-claimed.claimed in
    let due = c.in_ok-due.due in
    let fit = subst (λ (d : BegunDossier). TellsCounts (draft_of d) claimed (Ok tt)) c.deref.ensures c.in_ok-judge_counts.ensures in
    subst (λ r. Tells (Says r c.args.words) (Ok (More due))) (sym awaited.1)
    (tree_begun c.args.draft claimed due c.args.words h.0 h.1 fit c.in_ok-due.ensures)
