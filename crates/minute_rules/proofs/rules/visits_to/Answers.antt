use Rattle.std.proofs.Common.{◌≡◌, ◌<◌, ◌∙◌, [], length, get_or, ap, sym, subst, arith}
use Rattle.crew_instance.specs.Draft.{rows_of}
use Rattle.crew_terms.specs.Instance.{task_of}
use Rattle.potentials.specs.Rules.{AreVisits}
use Rattle.minute_rules.specs.Rules.{phi_by}
use Rattle.minute_rules.proofs.Visits.{row_is, rows_length, visits_between, no_visits}
use Rattle.minute_rules.proofs.rules.visits_to.Goals as goal
use Rattle.minute_rules.proofs.rules.visits_to.Goals.{in-Some, in-None}

pub returns-clause-visits : goal.returns-clause-visits
returns-clause-visits c =
    let n = c.args.limits.now.limits in
    let k = c.args.k in
    let j = c.args.j in
    let rows = rows_of c.args.rows.now in
    let law = c.minutes_are_permitted.ensures in
    let count = c.requires.rows.count in
    let all = rows_length c.args.rows.now in
    let known = c.requires.task in
    let short : j < length c.args.rows.now = omega arith in
    let is : get_or rows j [] ≡ c.deref.result.now = row_is c.args.rows.now j c.index-rows-j.result short c.index-rows-j.is ∙ sym c.deref.ensures.value in
    let same : c.task-task.result.now ≡ task_of n.instance j = c.task-task.ensures.task ∙ ap (λ i. task_of i j) c.instance.ensures.instance in
    let order = c.task-task.ensures.limits.window.order in
    let opens = ap (λ t. t.earliest) same in
    let ends = ap (λ t. t.latest) same in
    subst (λ xs. AreVisits n k j (phi_by n k rows) c.match-minutes.first xs) is
    (elim c.match-minutes.branch [
      | in-Some w ↦ subst (λ f. AreVisits n k j (phi_by n k rows) f (get_or rows j [])) (sym w.first-is)
          (visits_between law n k j rows c.requires.rows known w.in-Some.minutes.0 w.in-Some.minutes.1 w.in-Some.ensures.exact w.in-Some.ensures.late)
      | in-None w ↦ subst (λ f. AreVisits n k j (phi_by n k rows) f (get_or rows j [])) (sym w.first-is)
          (no_visits law n k j rows c.requires.rows known c.task-task.result.now.earliest w.in-None.ensures.exact (omega arith))
    ])

pub returns-clause-day : goal.returns-clause-day
returns-clause-day c =
    let n = c.args.limits.now.limits in
    let j = c.args.j in
    let late = (returns-clause-visits c).late in
    let same : c.task-task.result.now ≡ task_of n.instance j = c.task-task.ensures.task ∙ ap (λ i. task_of i j) c.instance.ensures.instance in
    let day = c.task-task.ensures.limits.window.day in
    let ends = ap (λ t. t.latest) same in
    omega arith
