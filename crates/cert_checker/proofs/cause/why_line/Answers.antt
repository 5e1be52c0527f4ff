use Rattle.std.proofs.Common.{◌≡◌, length, ap, refl, subst, sym, ◌∙◌}
use Rattle.std.specs.Prelude.{Ok}
use Rattle.cert_format.specs.Lines.{IsWhyLine}
use Rattle.cert_format.specs.Typed.{why_kind}
use Rattle.cert_format.specs.declared.typed.WhyLine.{WhyLine}
use Rattle.dossier_terms.specs.Causes.{NoCause}
use Rattle.dossier_terms.specs.CauseTable.{why_row}
use Rattle.dossier_terms.specs.Reading.{cause_done}
use Rattle.dossier_terms.specs.Table.{Says}
use Rattle.cert_checker.specs.Due.{Tells, split_site}
use Rattle.cert_checker.specs.Rules.{after_fault, after_loose, after_spent}
use Rattle.cert_checker.specs.declared.due.BegunDossier.{BegunDossier}
use Rattle.cert_checker.specs.declared.due.TreeDraft.{TreeDraft}
use Rattle.cert_checker.specs.declared.due.Step.TheVariants.{More}
use Rattle.cert_checker.proofs.Steps.{tells_row}
use Rattle.cert_checker.proofs.CauseRows.{none_says, loose_says, fault_says, spent_says}
use Rattle.cert_checker.proofs.cause.why_line.Goals as goal
use Rattle.cert_checker.proofs.cause.why_line.Goals.{In_ok-read_why}

-- the line that was read is this one, over the tasks of the instance
read : (c : In_ok-read_why) (line : WhyLine) → c.in_ok-read_why.field-0 ≡ line
    → IsWhyLine (length c.args.tree.value.draft.value.base.instance.tasks) c.args.words (why_kind line)
read c line is =
    let held = c.deref-2.ensures ∙ ap (λ (x : TreeDraft). x.draft.value) c.deref.ensures in
    subst (λ n. IsWhyLine n c.args.words (why_kind line)) (c.tasks-tasks.ensures.count ∙ ap (λ (d : BegunDossier). length d.base.instance.tasks) held)
    (subst (λ (l : WhyLine). IsWhyLine c.tasks-tasks.result c.args.words (why_kind l)) is c.in_ok-read_why.ensures)

pub returns-in-None : goal.returns-in-None
returns-in-None c = λ reading awaited.
    let p = split_site c.args.tree.value awaited.0 c.args.choice in
    let is = read (goal.at.returns-in-None c).In_ok-read_why _ c.in-None.is in
    subst (λ r. Tells (Says r c.args.words) (Ok (More c.first_child.result))) (sym awaited.2)
    (cause_done p NoCause, none_says p c.args.words is, c.first_child.ensures awaited.0 NoCause awaited.1.node refl)

pub returns-in-Loose : goal.returns-in-Loose
returns-in-Loose c = λ reading awaited.
    let ws = c.args.words in
    let p = split_site c.args.tree.value awaited.0 c.args.choice in
    let now = c.in-Loose.now in
    let whole = c.in-Loose.whole in
    let count = c.in-Loose.count in
    let h = read (goal.at.returns-in-Loose c).In_ok-read_why _ c.in-Loose.is in
    subst (λ r. Tells (Says r ws) c.begin_loose.result) (sym awaited.2)
    (tells_row (after_loose p now whole count) (why_row p ws) c.begin_loose.result (λ said rest. loose_says p ws now whole count said h.0 h.1 rest) (c.begin_loose.ensures awaited.0 awaited.1))

pub returns-in-Overflow : goal.returns-in-Overflow
returns-in-Overflow c = λ reading awaited.
    let ws = c.args.words in
    let p = split_site c.args.tree.value awaited.0 c.args.choice in
    let now = c.in-Overflow.now in
    let fault = c.in-Overflow.fault in
    let h = read (goal.at.returns-in-Overflow c).In_ok-read_why _ c.in-Overflow.is in
    subst (λ r. Tells (Says r ws) c.fault_step.result) (sym awaited.2)
    (tells_row (after_fault p now fault) (why_row p ws) c.fault_step.result (λ said rest. fault_says p ws now fault said h.0 h.1 rest) (c.fault_step.ensures awaited.0 awaited.1.node))

pub returns-in-Spent : goal.returns-in-Spent
returns-in-Spent c = λ reading awaited.
    let ws = c.args.words in
    let p = split_site c.args.tree.value awaited.0 c.args.choice in
    let now = c.in-Spent.now in
    let h = read (goal.at.returns-in-Spent c).In_ok-read_why _ c.in-Spent.is in
    subst (λ r. Tells (Says r ws) c.spent_step.result) (sym awaited.2)
    (tells_row (after_spent p now) (why_row p ws) c.spent_step.result (λ said rest. spent_says p ws now said h.0 h.1 rest) (c.spent_step.ensures awaited.0 awaited.1.node))
