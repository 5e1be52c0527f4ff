use Rattle.std.proofs.Common.{Ok, Err, inr, ap, sym}
use Rattle.std.proofs.lemmas.Result.{err_from_is_err_and}
use Rattle.day_terms.specs.State.{DayState}
use Rattle.flight_changes.proofs.Refusals.{answer_beside, as_by_lists, not_by_lists, passed_from, told_lists}
use Rattle.flight_changes.proofs.desks.Desk.apply.Goals as goal

pub returns-in_err-check-clause-told : goal.returns-in_err-check-clause-told
returns-in_err-check-clause-told c =
    let s = c.args.self.now in
    let e = c.args.entry.now in
    let here = answer_beside c.self.inside.lists c.self.inside.last_plan.items c.self.inside.frozen.items s e in
    let p = err_from_is_err_and c.from_residual.result c.from_residual.ensures.1 in
    rw (p.1, p.2) (inr (told_lists s e c.in_err-check.field-0.0 (here (Err c.in_err-check.field-0.0) c.self.view_is c.in_err-check.ensures)))

pub returns-in_err-check-clause-by_lists : goal.returns-in_err-check-clause-by_lists
returns-in_err-check-clause-by_lists c refusal refused =
    let s = c.args.self.now in
    let e = c.args.entry.now in
    let here = answer_beside c.self.inside.lists c.self.inside.last_plan.items c.self.inside.frozen.items s e in
    let p = err_from_is_err_and c.from_residual.result c.from_residual.ensures.1 in
    rw (p.1, p.2) (ap Err (as_by_lists s e c.in_err-check.field-0.0 (here (Err c.in_err-check.field-0.0) c.self.view_is c.in_err-check.ensures) refusal refused))

pub returns-in_err-freeze-in-Now-clause-by_lists : goal.returns-in_err-freeze-in-Now-clause-by_lists
returns-in_err-freeze-in-Now-clause-by_lists c refusal refused =
    let s = c.args.self.now in
    let e = c.args.entry.now in
    let here = answer_beside c.self.inside.lists c.self.inside.last_plan.items c.self.inside.frozen.items s e in
    not_by_lists s e (passed_from s e (here (Ok tt) c.self.view_is c.in_ok-check.ensures)) refusal refused

pub returns-in-Plan-clause-by_lists : goal.returns-in-Plan-clause-by_lists
returns-in-Plan-clause-by_lists c refusal refused =
    let s = c.args.self.now in
    let e = c.args.entry.now in
    let here = answer_beside c.self.inside.lists c.self.inside.last_plan.items c.self.inside.frozen.items s e in
    not_by_lists s e (passed_from s e (here (Ok tt) c.self.view_is c.in_ok-check.ensures)) refusal refused

pub returns-in_ok-freeze-in-Now-clause-by_lists : goal.returns-in_ok-freeze-in-Now-clause-by_lists
returns-in_ok-freeze-in-Now-clause-by_lists c refusal refused =
    let s = c.args.self.now in
    let e = c.args.entry.now in
    let here = answer_beside c.self.inside.lists c.self.inside.last_plan.items c.self.inside.frozen.items s e in
    not_by_lists s e (passed_from s e (here (Ok tt) c.self.view_is c.in_ok-check.ensures)) refusal refused

pub returns-in_default-2-clause-unknown : goal.returns-in_default-2-clause-unknown
returns-in_default-2-clause-unknown c = ap (λ (s : DayState). s.plans) (sym c.self.view_is)
