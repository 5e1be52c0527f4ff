use Rattle.std.proofs.Common.{◌≡◌, ◌∙◌, ap, sym, subst, Ok, Err}
use Rattle.std.proofs.lemmas.Result.{IfErr-at_err, IfOk-at_ok}
use Rattle.crew_terms.specs.Instance.{Instance}
use Rattle.crew_terms.specs.Legal.{IsFeasible}
use Rattle.crew_instance.specs.Rules.{IsFinishFault}
use Rattle.dossier_terms.specs.Reading.{More as Goes, Pools}
use Rattle.dossier_terms.specs.Rules.{Holds as Met, On}
use Rattle.dossier_terms.specs.HeadTable.{after_keep}
use Rattle.head_check.specs.declared.due.Head.{Head}
use Rattle.head_check.specs.declared.due.Base.{Base}
use Rattle.head_check.specs.declared.due.HeadDue.TheVariants.{Whole}
use Rattle.head_check.specs.Head.{IsFull, HeadTells, opening_of, read_of, refusal_for}
use Rattle.head_check.proofs.Steps.{not_built, given_ok}
use Rattle.head_check.proofs.FrozenSteps.{keep_due, keeps_fault, last_keep, instance_is}
use Rattle.head_check.proofs.frozen.due_keeps.Goals as goal

pub returns-then-more-gt0 : goal.returns-then-more-gt0
returns-then-more-gt0 c = keep_due c.args.head c.args.more c.args.from c.requires c.if-more-gt0.true

pub returns-in_err-instance : goal.returns-in_err-instance
returns-in_err-instance c =
    let b : Head = c.into_inner-form.result in
    let e : b ≡ c.args.head.value = c.into_inner-form.ensures in
    let full : IsFull b = subst IsFull (sym e) c.requires in
    subst (λ (h : Head). HeadTells (after_keep (opening_of h) c.args.more c.args.from (read_of h)) c.from_residual.result) e
    (not_built _ c.into_instance.result c.map_err.result _ _ c.map_err.ensures.cases c.in_err-instance.was c.from_residual.ensures.1
    (λ fault is. last_keep (opening_of b) (read_of b) c.args.more c.args.from (Err (refusal_for fault)) c.if-more-gt0.false
    (keeps_fault b fault full c.one_feasibility.ensures (IfErr-at_err IsFinishFault is c.into_instance.ensures.no_other)
    (λ x y f. (c.into_instance.ensures.missing x y).0 (is ∙ ap Err f))
    (λ j f. ((c.into_instance.ensures.bad_frozen j).0 (is ∙ ap Err f)).0))))

pub returns : goal.returns
returns c =
    let b : Head = c.into_inner-form.result in
    let e : b ≡ c.args.head.value = c.into_inner-form.ensures in
    let full : IsFull b = subst IsFull (sym e) c.requires in
    let built : c.into_instance.result ≡ Ok c.in_ok-instance.instance = given_ok _ _ _ _ c.map_err.ensures.cases c.in_ok-instance.was in
    let is : c.in_ok-instance.instance ≡ read_of b = instance_is b c.in_ok-instance.instance full (IfOk-at_ok _ built c.into_instance.ensures.ok) in
    let feasible : IsFeasible (read_of b) (read_of b).frozen = subst (λ (i : Instance). IsFeasible i i.frozen) is c.tasks-tasks.ensures.limits.frozen in
    let base = c.in_ok-base.base in
    let line : Goes (Pools base.value.form base.value.instance base.value.nodes) ≡ Goes (Pools b.form (read_of b) b.size.nodes) =
    ap (λ (x : Base). Goes (Pools x.form x.instance x.nodes)) c.in_ok-base.ensures.ok ∙ ap (λ i. Goes (Pools b.form i b.size.nodes)) is in
    subst (λ (h : Head). HeadTells (after_keep (opening_of h) c.args.more c.args.from (read_of h)) (Ok (Whole base))) e
    (last_keep (opening_of b) (read_of b) c.args.more c.args.from (Ok (Whole base)) c.if-more-gt0.false (record { says = Met feasible (On line); holds = tt }))
