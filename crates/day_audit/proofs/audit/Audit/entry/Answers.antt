use Rattle.std.proofs.Common.{◌≡◌, ◌∙◌, Err, Some, ap}
use Rattle.std.proofs.lemmas.Result.{err_from_is_err_and}
use Rattle.day_terms.specs.Refusal.{refusal_by_lists}
use Rattle.day_terms.specs.Rounds.{round_at}
use Rattle.day_audit.specs.Audited.{Audited}
use Rattle.day_audit.specs.Kept.{round_of}
use Rattle.day_audit.proofs.audit.Audit.entry.Goals as goal

pub returns-in_err-apply-clause-by_lists : goal.returns-in_err-apply-clause-by_lists
returns-in_err-apply-clause-by_lists c told refused =
    let p = err_from_is_err_and c.from_residual.result c.from_residual.ensures.1 in
    let here : refusal_by_lists c.self.inside.desk c.args.entry.now ≡ Some told = ap (λ (a : Audited). refusal_by_lists a.day c.args.entry.now) c.self.view_is ∙ refused in
    let b = c.in_err-apply.ensures.by_lists told here in
    cc (p.1, p.2, b, c.in_err-apply.was)

pub returns-clause-next : goal.returns-clause-next
returns-clause-next c = (round_of c.args.self.now.day c.in-Plan.nodes, ap (round_at c.args.self.now.day) c.in-Plan.is)
