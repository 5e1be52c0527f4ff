use Rattle.std.proofs.Common.{◌≤◌, ℕ, length, sym, subst, refl}
use Rattle.crew_terms.specs.Legal.{IsFeasible}
use Rattle.cert_format.specs.Lines.{IsFaultOf, IsFrozenLine}
use Rattle.cert_format.specs.declared.kinds.Expect.TheVariants as expects
use Rattle.cert_format.specs.declared.kinds.LineKind.TheVariants as kinds
use Rattle.dossier_terms.specs.Rules.{Holds as Met, Spelled}
use Rattle.head_check.specs.declared.due.Head.{Head}
use Rattle.head_check.specs.declared.due.HeadDue.TheVariants.{Frozen}
use Rattle.head_check.specs.Head.{reading_of, opening_of, read_of}
use Rattle.head_check.proofs.Steps.{refused, told_by}
use Rattle.head_check.proofs.FrozenSteps.{keeps_say}
use Rattle.head_check.proofs.frozen.frozen_line.Goals as goal

pub returns-in_err-count : goal.returns-in_err-count
returns-in_err-count c =
    let told = c.in_err-count.field-0.0 in
    let fault = subst (λ n. IsFaultOf (expects.Frozen n) c.args.words told) (sym c.requires.tasks)
    (subst (λ (h : Head). IsFaultOf (expects.Frozen h.size.tasks) c.args.words told) c.deref.ensures c.in_err-count.ensures) in
    refused _ c.from_residual.result told c.from_residual.ensures.1
    (c.fault_is_refused.ensures (reading_of (Frozen c.args.head)) c.args.words told fault)

pub returns : goal.returns
returns c =
    let o = opening_of c.args.head.value in
    let i = read_of c.args.head.value in
    let count : ℕ = c.in_ok-count.count in
    let h = subst (λ (h : Head). IsFrozenLine h.size.tasks c.args.words (kinds.Frozen count)) c.deref.ensures c.in_ok-count.ensures in
    let few : count ≤ length i.tasks = subst (λ n. count ≤ n) (sym c.requires.tasks) h.0 in
    let feasible : IsFeasible i i.frozen = subst (IsFeasible i) (sym c.requires.frozen) (c.empty_plan_is_feasible.ensures i) in
    told_by c.due_keeps.result c.due_keeps.ensures (λ said rest.
    Met (_, h.1, refl) (Spelled count few h.1 (keeps_say o count 0 i said feasible rest)))
