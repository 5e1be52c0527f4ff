use Rattle.std.proofs.Common.{◌≡◌, Some, None, length, subst, sym, ap, ◌∙◌}
use Rattle.crew_terms.specs.Plan.{Plan}
use Rattle.crew_terms.specs.Verdict.{IsFeasibility}
use Rattle.crew_instance.specs.Draft.{filled, task_named}
use Rattle.crew_instance.proofs.frozen.give_frozen.Goals as goal

pub returns-in-Some-clause-bad_frozen : goal.returns-in-Some-clause-bad_frozen
returns-in-Some-clause-bad_frozen c j =
    let i = c.args.instance in
    let p : Plan = filled (length i.tasks) c.args.frozen in
    let same : c.lengthen.new.self ≡ p = c.in_ok-lengthen.ensures.ok ∙ ap (λ n. filled n c.args.frozen) c.tasks.ensures.count in
    let told : IsFeasibility i p c.feasibility.result = subst (λ q. IsFeasibility i q c.feasibility.result) same c.feasibility.ensures.verdict in
    let named : task_named c.feasibility.result ≡ Some c.in-Some.task = sym c.task_of_verdict.ensures ∙ c.in-Some.is in (
      (λ e. (record { told = c.feasibility.result; first = told; named = cc }, (λ o. cc))),
      (λ (f, _). let one = c.one_feasibility.ensures i p c.feasibility.result f.told told f.first in let other = ap task_named one in let n = f.named in cc),
    )

pub returns-in-None-clause-bad_frozen : goal.returns-in-None-clause-bad_frozen
returns-in-None-clause-bad_frozen c j =
    let i = c.args.instance in
    let p : Plan = filled (length i.tasks) c.args.frozen in
    let same : c.lengthen.new.self ≡ p = c.in_ok-lengthen.ensures.ok ∙ ap (λ n. filled n c.args.frozen) c.tasks.ensures.count in
    let told : IsFeasibility i p c.feasibility.result = subst (λ q. IsFeasibility i q c.feasibility.result) same c.feasibility.ensures.verdict in
    let named : task_named c.feasibility.result ≡ None = sym c.task_of_verdict.ensures ∙ c.in-None.is in (
      (λ e. cc),
      (λ (f, _). let one = c.one_feasibility.ensures i p c.feasibility.result f.told told f.first in let other = ap task_named one in let n = f.named in cc),
    )
