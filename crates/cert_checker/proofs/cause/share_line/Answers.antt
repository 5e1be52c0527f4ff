use Rattle.std.proofs.Common.{◌≡◌, ◌<◌, ◌^◌, List, length, ap, subst, sym, ◌∙◌, to_z, of_z}
use Rattle.std.specs.Int.{w128}
use Rattle.std.specs.Prelude.{ℤ, pos}
use Rattle.std.proofs.lemmas.Int.{to_z_pos}
use Rattle.std.proofs.lemmas.Result.{err_from_is_err_and}
use Rattle.cert_format.specs.Expected.{expect_of}
use Rattle.cert_format.specs.Lines.{IsFaultOf}
use Rattle.cert_format.specs.declared.kinds.Expect.TheVariants as expected
use Rattle.dossier_terms.specs.Causes.{Part, Shares, IsPartOf}
use Rattle.dossier_terms.specs.CauseTable.{share_row}
use Rattle.dossier_terms.specs.Lines.{share_line}
use Rattle.dossier_terms.specs.declared.Reason.TheVariants as reasons
use Rattle.dossier_terms.specs.Reading.{Above, No as Refuses}
use Rattle.dossier_terms.specs.Table.{Says}
use Rattle.cert_checker.specs.Due.{IsInLoose, Tells, loose_site}
use Rattle.cert_checker.specs.Rules.{after_share}
use Rattle.cert_checker.specs.declared.due.BegunDossier.{BegunDossier}
use Rattle.cert_checker.specs.declared.due.TreeDraft.{TreeDraft}
use Rattle.cert_checker.proofs.Steps.{tells_row}
use Rattle.cert_checker.proofs.CauseRows.{same_pos, share_early, share_says}
use Rattle.cert_checker.proofs.cause.share_line.Goals as goal
use Rattle.cert_checker.proofs.cause.share_line.Goals.{After-read_share, In_ok-column}

-- the columns that are counted are those of the pool
columns_are : (c : After-read_share) → c.len-columns.result ≡ length c.args.tree.value.draft.value.pool
columns_are c = c.len-columns.ensures ∙ ap (λ (d : BegunDossier). length d.pool) (c.deref-2.ensures ∙ ap (λ (x : TreeDraft). x.draft.value) c.deref.ensures)

-- the parts of one share, with a sign
whole_is : (c : After-read_share) → c.args.tree.value.loose.whole < 2 ^ 127 → to_z w128 (of_z w128 c.signed-whole.result) ≡ pos c.args.tree.value.loose.whole
whole_is c few = ap (λ (z : ℤ). to_z w128 (of_z w128 z)) (c.signed-whole.ensures ∙ ap (λ (x : TreeDraft). pos x.loose.whole) c.deref-3.ensures)
    ∙ to_z_pos w128 c.args.tree.value.loose.whole few

pub returns-in_err-column : goal.returns-in_err-column
returns-in_err-column d =
    let c = (goal.at.returns-in_err-column d).After-read_share in
    let ws = d.args.words in
    let fault = d.in_err-column.field-0.0 in
    let p = err_from_is_err_and d.from_residual.result d.from_residual.ensures.1 in
    rw (p.1, p.2) (λ reading awaited.
    let whole = whole_is c awaited.2.few ∙ ap pos (sym awaited.2.whole) in
    c.fault_is_refused.ensures reading ws fault (subst (λ r. IsFaultOf (expect_of r) ws fault) (sym awaited.3)
    (subst (λ w. IsFaultOf (expected.Share (length c.args.tree.value.draft.value.pool) w) ws fault) whole
    (subst (λ n. IsFaultOf (expected.Share n (to_z w128 (of_z w128 c.signed-whole.result))) ws fault) (columns_are c) d.in_err-column.ensures))))

-- the share that was read
abbrev part_of : In_ok-column → Part
part_of c = record { column = c.in_ok-column.field-0.column; parts = c.in_ok-column.field-0.parts }

-- it is one of the pool, of no more parts than there are
is_part : (c : In_ok-column) (fs : List Above) (read : Shares) → IsInLoose c.args.tree.value read fs
    → c.len-columns.result ≡ length c.args.tree.value.draft.value.pool → to_z w128 (of_z w128 c.signed-whole.result) ≡ pos c.args.tree.value.loose.whole
    → IsPartOf (length c.args.tree.value.draft.value.pool) read.whole (part_of c) × (c.args.words ≡ share_line (part_of c))
is_part c fs read loose columns whole_parts =
    let h = c.in_ok-column.ensures in
    let whole : h.0 ≡ read.whole = same_pos h.0 read.whole (sym h.1 ∙ whole_parts ∙ ap pos (sym loose.whole)) in
    (subst (λ n. IsPartOf n read.whole (part_of c)) columns (subst (λ w. IsPartOf c.len-columns.result w (part_of c)) whole h.2), h.3)

pub returns-then-column-from : goal.returns-then-column-from
returns-then-column-from d = λ reading awaited.
    let c = (goal.at.returns-then-column-from d).In_ok-column in
    let before = (goal.at.returns-then-column-from d).After-read_share in
    let loose = d.args.tree.value.loose in
    let p = loose_site d.args.tree.value awaited.0 in
    let h = is_part c awaited.0 awaited.1 awaited.2 (columns_are before) (whole_is before awaited.2.few) in
    subst (λ r. Says r d.args.words (Refuses reasons.Cause)) (sym awaited.3)
    (share_early p d.args.words loose.now awaited.1 d.args.more d.args.from (part_of c) h.0 h.1 d.if-column-from.true)

pub returns : goal.returns
returns d = λ reading awaited.
    let c = (goal.at.returns d).In_ok-column in
    let before = (goal.at.returns d).After-read_share in
    let ws = d.args.words in
    let loose = d.args.tree.value.loose in
    let read = awaited.1 in
    let p = loose_site d.args.tree.value awaited.0 in
    let h = is_part c awaited.0 read awaited.2 (columns_are before) (whole_is before awaited.2.few) in
    subst (λ r. Tells (Says r ws) d.take_share.result) (sym awaited.3)
    (tells_row (after_share p loose.now read d.args.more (part_of c)) (share_row p loose.now read d.args.more d.args.from ws) d.take_share.result
    (λ said rest. share_says p ws loose.now read d.args.more d.args.from (part_of c) said h.0 h.1 d.if-column-from.false rest) (d.take_share.ensures awaited.0 read awaited.2))
