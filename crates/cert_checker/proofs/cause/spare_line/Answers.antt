use Rattle.std.proofs.Common.{◌≡◌, ◌<◌, ◌^◌, length, ap, subst, sym, ◌∙◌, to_z, of_z}
use Rattle.std.specs.Int.{w128}
use Rattle.std.specs.Prelude.{ℤ, pos}
use Rattle.std.proofs.lemmas.Int.{to_z_pos}
use Rattle.std.proofs.lemmas.Result.{err_from_is_err_and}
use Rattle.cert_format.specs.Expected.{expect_of}
use Rattle.cert_format.specs.Lines.{IsFaultOf}
use Rattle.cert_format.specs.declared.kinds.Expect.TheVariants as expected
use Rattle.dossier_terms.specs.CauseTable.{spare_row}
use Rattle.dossier_terms.specs.Ranges.{IsSpareLine}
use Rattle.dossier_terms.specs.Table.{Says}
use Rattle.cert_checker.specs.Due.{Tells, loose_site}
use Rattle.cert_checker.specs.Rules.{after_spare}
use Rattle.cert_checker.specs.declared.due.BegunDossier.{BegunDossier}
use Rattle.cert_checker.specs.declared.due.TreeDraft.{TreeDraft}
use Rattle.cert_checker.proofs.Steps.{tells_row}
use Rattle.cert_checker.proofs.CauseRows.{same_pos, spare_says}
use Rattle.cert_checker.proofs.cause.spare_line.Goals as goal
use Rattle.cert_checker.proofs.cause.spare_line.Goals.{After-read_spare}

-- the tasks that are counted are those of the instance
tasks_are : (c : After-read_spare) → c.tasks-tasks.result ≡ length c.args.tree.value.draft.value.base.instance.tasks
tasks_are c = c.tasks-tasks.ensures.count ∙ ap (λ (d : BegunDossier). length d.base.instance.tasks) (c.deref-2.ensures ∙ ap (λ (x : TreeDraft). x.draft.value) c.deref.ensures)

-- the parts of one share, with a sign
whole_is : (c : After-read_spare) → c.args.tree.value.loose.whole < 2 ^ 127 → to_z w128 (of_z w128 c.signed-whole.result) ≡ pos c.args.tree.value.loose.whole
whole_is c few = ap (λ (z : ℤ). to_z w128 (of_z w128 z)) (c.signed-whole.ensures ∙ ap (λ (x : TreeDraft). pos x.loose.whole) c.deref-3.ensures)
    ∙ to_z_pos w128 c.args.tree.value.loose.whole few

pub returns-in_err-shares : goal.returns-in_err-shares
returns-in_err-shares d =
    let c = (goal.at.returns-in_err-shares d).After-read_spare in
    let ws = d.args.words in
    let fault = d.in_err-shares.field-0.0 in
    let p = err_from_is_err_and d.from_residual.result d.from_residual.ensures.1 in
    rw (p.1, p.2) (λ reading awaited.
    let whole = whole_is c awaited.2.few ∙ ap pos (sym awaited.2.whole) in
    c.fault_is_refused.ensures reading ws fault (subst (λ r. IsFaultOf (expect_of r) ws fault) (sym awaited.3)
    (subst (λ w. IsFaultOf (expected.Spare (length c.args.tree.value.draft.value.base.instance.tasks) w) ws fault) whole
    (subst (λ n. IsFaultOf (expected.Spare n (to_z w128 (of_z w128 c.signed-whole.result))) ws fault) (tasks_are c) d.in_err-shares.ensures))))

pub returns : goal.returns
returns d = λ reading awaited.
    let c = (goal.at.returns d).After-read_spare in
    let ws = d.args.words in
    let loose = d.args.tree.value.loose in
    let read = awaited.1 in
    let p = loose_site d.args.tree.value awaited.0 in
    let spare = d.in_ok-shares.shares in
    let h = d.in_ok-shares.ensures in
    let whole : h.0 ≡ read.whole = same_pos h.0 read.whole (sym h.1 ∙ whole_is c awaited.2.few ∙ ap pos (sym awaited.2.whole)) in
    let ranges = subst (λ n. IsSpareLine n read.whole spare) (tasks_are c) (subst (λ w. IsSpareLine d.tasks-tasks.result w spare) whole h.2) in
    subst (λ r. Tells (Says r ws) d.judge_spare.result) (sym awaited.3)
    (tells_row (after_spare p loose.now read spare) (spare_row p loose.now read ws) d.judge_spare.result
    (λ said rest. spare_says p ws loose.now read spare said ranges h.3 rest) (d.judge_spare.ensures awaited.0 read awaited.2))
